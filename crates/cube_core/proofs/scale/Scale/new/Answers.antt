use Rattle.cube_core.proofs.Putting.{two_wide}
use Rattle.cube_core.proofs.scale.Scale.new.Goals.{then-not-is_signed, else-not-is_signed+then-bytes-eq1, else-not-is_signed+else-bytes-eq1}
use Rattle.std.proofs.Common.{SFits, w32, to_z-of_z, ◌∙◌, arith, sym, refl}
use Rattle.std.proofs.lemmas.Int.{ints}
use Rattle.cube_core.proofs.Scales.{zero_at, most_at}
use Rattle.cube_core.proofs.scale.Scale.new.Goals as goal

pub invariant_of-result-clause-bias_is : goal.invariant_of-result-clause-bias_is
invariant_of-result-clause-bias_is c = zero_at c.args.kind.signed _ _ _ c.offset_of.ensures.value (omega arith) (omega arith)

pub invariant_of-result-clause-most_is : goal.invariant_of-result-clause-most_is
invariant_of-result-clause-most_is c =
    let fits : SFits w32 c.smax.result = omega (arith, ints, c.smax.ensures.range) in
    most_at c.args.kind.signed c.args.kind.bits _ (omega (arith, c.bits-bits.ensures.range))
    (simp (to_z-of_z fits) at c.offset_of-2.ensures.value ∙ c.smax.ensures.value)

pub invariant_of-result-clause-half_is : goal.invariant_of-result-clause-half_is
invariant_of-result-clause-half_is c = elim c.if-not-is_signed.branch [
  | then-not-is_signed w ↦ rw (sym c.is_signed.ensures ∙ w.if-not-is_signed.true) w.half-is
  | else-not-is_signed+then-bytes-eq1 w ↦ rw (sym c.is_signed.ensures ∙ w.if-not-is_signed.false, w.if-bytes-eq1.true) w.half-is
  | else-not-is_signed+else-bytes-eq1 w ↦ rw (sym c.is_signed.ensures ∙ w.if-not-is_signed.false, two_wide _ _ refl c.requires w.if-bytes-eq1.false) w.half-is
]
