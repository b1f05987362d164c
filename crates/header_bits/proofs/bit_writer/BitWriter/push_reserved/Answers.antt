use Rattle.std.proofs.Common.{arith, ap, ◌≡◌, ◌+◌, ◌-◌, ◌^◌, ◌<◌, ℕ, subst}
use Rattle.std.proofs.lemmas.Nat.{shr_below}
use Rattle.header_bits.proofs.Pushes.{word_pushed, part_pushed}
use Rattle.header_bits.proofs.bit_writer.BitWriter.push_reserved.Goals as goal

pub filled_word-word-requires-clause-below : goal.filled_word-word-requires-clause-below
filled_word-word-requires-clause-below c =
    let free : ℕ = 64 - c.self.inside.held in
    let size : c.args.n ≡ free + (c.args.n - free) = omega arith in
    shr_below c.args.bits free (c.args.n - free) (subst (λ (k : ℕ). c.args.bits < 2 ^ k) size c.requires.below)

pub returns-then-n-free-clause-appended : goal.returns-then-n-free-clause-appended
returns-then-n-free-clause-appended c =
    part_pushed _ _ _ _ _ _ c.requires.below (omega arith) (ap (λ w. w.bits) c.self.view_is)

pub returns-else-n-free-clause-appended : goal.returns-else-n-free-clause-appended
returns-else-n-free-clause-appended c =
    word_pushed _ _ _ _ _ _ _ _ c.self.invariant.0 (omega arith) (ap (λ w. w.bits) c.self.view_is) c.filled_word-word.ensures c.append_word.ensures.bits
