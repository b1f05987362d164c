use Rattle.std.proofs.Common.{◌≡◌, ◌+◌, ◌-◌, ◌++◌, ◌∷◌, [], List, ℕ, ap, sym, append_assoc, ◌∙◌, arith}
use Rattle.std.proofs.lemmas.List.{append-nil}
use Rattle.header_bits.specs.Layout.{values}
use Rattle.header_bits.specs.TableParts.{number_fields}
use Rattle.header_bits.proofs.TableNumbers.{number_taken, number_there, numbers_none}
use Rattle.header_bits.proofs.constant_part.read_constants.Goals as goal

pub unwrap-constant-requires : goal.unwrap-constant-requires
unwrap-constant-requires c =
    c.take.ensures.enough.1 (number_there c.args.count c.loop.counter 4 _ (omega (arith, c.loop-test.true)) c.loop.invariant.whole)

pub loop-preserved : goal.loop-preserved
loop-preserved c =
    let next =
    number_taken c.args.count c.loop.counter 4 _ _ _ (omega (arith, c.loop-test.true)) (rw c.unwrap-constant.ensures at c.take.ensures.below)
    (rw c.unwrap-constant.ensures at c.take.ensures.taken) in
    let later : List ℕ = values (number_fields (c.args.count - (c.loop.counter + 1)) 4) c.take.new.self.left in
    record {
      read = ap (λ (x : List ℕ). x ++ later) c.in_ok-push.ensures.items ∙ append_assoc _ (c.unwrap-constant.result ∷ []) later
          ∙ ap (λ (x : List ℕ). c.loop.constants.items ++ x) (sym next.numbers) ∙ c.loop.invariant.read;
      whole = next.whole c.loop.invariant.whole;
    }

pub returns-clause-constants : goal.returns-clause-constants
returns-clause-constants c =
    sym (append-nil c.loop.constants.items)
    ∙ ap (λ (x : List ℕ). c.loop.constants.items ++ x) (sym (numbers_none (c.args.count - c.loop.counter) 4 _ (omega arith))) ∙ c.loop.invariant.read
