use Rattle.std.proofs.Common.{inl, inr, arith, ◌∙◌}
use Rattle.cube_core.proofs.Lists.{get_push}
use Rattle.predict_core.proofs.Walking.{along_first}
use Rattle.predict_core.proofs.bands.all_bands.Goals as goal

pub loop-z-preserved : goal.loop-z-preserved
loop-z-preserved c =
    let made = c.in_ok-new.ensures.made in
    let was = c.loop-z.invariant in
    record {
      len = omega (arith, c.in_ok-push.ensures.len, was.len);
      each = λ z b e. elim (get_push _ c.in_ok-new.field-0 b z (rw c.in_ok-push.ensures.items at e)) [
        | inl h ↦ was.each z b h
        | inr (h, k) ↦ rw k (
          made.2,
          λ image.
              along_first _ image z _ (made.1 ∙ omega (arith, h, was.len, c.loop-z.bands.ok.0)) made.2 (c.in_ok-new.ensures.follows image),
        )
      ];
    }

pub returns-clause-along : goal.returns-clause-along
returns-clause-along c = λ image z lt b e. (c.loop-z.invariant.each z b e).1 image
