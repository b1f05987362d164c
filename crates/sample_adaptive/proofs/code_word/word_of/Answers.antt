use Rattle.std.proofs.Common.{arith, ◌≡◌, ◌*◌, ◌%◌, ◌^◌, ◌/◌, ◌<◌, ◌≤◌}
use Rattle.std.proofs.lemmas.Nat.{one_shl, and_mask}
use Rattle.sample_adaptive.proofs.Forms.{plain_word, plain_below, escape_word, escape_below}
use Rattle.sample_adaptive.proofs.code_word.word_of.Goals as goal

pub returns-then-quotient-code-clause-word : goal.returns-then-quotient-code-clause-word
returns-then-quotient-code-clause-word c =
    let few : c.args.residual / 2 ^ c.args.code.k < c.args.code.limit = rw c.from.ensures at c.if-quotient-code.true in
    let one : 1 * 2 ^ c.args.code.k % 18446744073709551616 ≡ 2 ^ c.args.code.k = one_shl _ 64 (omega arith) in
    rw (c.from.ensures, c.from-then-quotient-code.ensures, one, and_mask) (plain_word c.args.code c.args.residual few)

pub returns-then-quotient-code-clause-below : goal.returns-then-quotient-code-clause-below
returns-then-quotient-code-clause-below c =
    let one : 1 * 2 ^ c.args.code.k % 18446744073709551616 ≡ 2 ^ c.args.code.k = one_shl _ 64 (omega arith) in
    rw (c.from.ensures, c.from-then-quotient-code.ensures, one, and_mask) (plain_below (c.args.residual / 2 ^ c.args.code.k) c.args.code.k c.args.residual)

pub returns-else-quotient-code-clause-word : goal.returns-else-quotient-code-clause-word
returns-else-quotient-code-clause-word c =
    let many : c.args.code.limit ≤ c.args.residual / 2 ^ c.args.code.k = rw c.from.ensures at c.if-quotient-code.false in
    rw c.from-else-quotient-code.ensures (escape_word c.args.code c.args.residual many c.requires.residual)

pub returns-else-quotient-code-clause-below : goal.returns-else-quotient-code-clause-below
returns-else-quotient-code-clause-below c = rw c.from-else-quotient-code.ensures (escape_below _ _ _ c.requires.residual)
