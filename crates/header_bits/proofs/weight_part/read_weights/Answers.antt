use Rattle.std.proofs.Common.{◌≡◌, ◌+◌, ◌-◌, ◌++◌, ◌∷◌, [], List, ℕ, ℤ, map, ap, sym, append_assoc, ◌∙◌, rules, SFits, w32, to_z-of_z, arith}
use Rattle.std.proofs.lemmas.List.{append-nil}
use Rattle.header_bits.specs.Layout.{values}
use Rattle.header_bits.specs.TableParts.{number_fields, signed_of}
use Rattle.header_bits.proofs.TableNumbers.{number_taken, number_there, numbers_none}
use Rattle.header_bits.proofs.weight_part.read_weights.Goals as goal

pub unwrap-code-requires : goal.unwrap-code-requires
unwrap-code-requires c =
    c.take.ensures.enough.1 (number_there c.args.count c.loop.counter _ _ (omega (arith, c.loop-test.true)) c.loop.invariant.whole)

pub loop-preserved : goal.loop-preserved
loop-preserved c =
    let next =
    number_taken c.args.count c.loop.counter _ _ _ _ (omega (arith, c.loop-test.true)) (rw c.unwrap-code.ensures at c.take.ensures.below)
    (rw c.unwrap-code.ensures at c.take.ensures.taken) in
    let later : List ℤ = map (signed_of c.args.bits) (values (number_fields (c.args.count - (c.loop.counter + 1)) c.args.bits) c.take.new.self.left) in
    let fits : SFits w32 c.signed_of.result = search rules in
    let pushed = rw (to_z-of_z fits) at c.in_ok-push.ensures.items in
    record {
      read = ap (λ (x : List ℤ). x ++ later) pushed ∙ append_assoc _ (c.signed_of.result ∷ []) later
          ∙ ap (λ (v : ℤ). c.loop.weights.items ++ v ∷ later) c.signed_of.ensures
          ∙ ap (λ (x : List ℕ). c.loop.weights.items ++ map (signed_of c.args.bits) x) (sym next.numbers) ∙ c.loop.invariant.read;
      whole = next.whole c.loop.invariant.whole;
    }

pub returns-clause-weights : goal.returns-clause-weights
returns-clause-weights c =
    sym (append-nil c.loop.weights.items) ∙ ap (λ (x : List ℕ). c.loop.weights.items ++ map (signed_of c.args.bits) x)
    (sym (numbers_none (c.args.count - c.loop.counter) _ _ (omega arith))) ∙ c.loop.invariant.read
