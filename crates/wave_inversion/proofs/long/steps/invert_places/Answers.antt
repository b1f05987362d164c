use Rattle.std.proofs.Common.{◌≡◌, ◌+◌, ◌^◌, arith, subst, sym}
use Rattle.sample_prediction.specs.Bounds.{AllWithin}
use Rattle.wave_inversion.specs.WaveLanes.{AreInStep}
use Rattle.predict_core.proofs.LanePlaces.{updated_within}
use Rattle.wave_inversion.proofs.WaveLanes.{step_more}
use Rattle.wave_inversion.proofs.long.steps.invert_places.Goals as goal

pub loop-k-preserved : goal.loop-k-preserved
loop-k-preserved g c =
    let kept = c.loop-k.invariant in let did = c.invert_place.ensures in let steps = c.args.stretch.inside in record {
      numbers_in = did.numbers_in;
      own_in = did.own_in;
      weights_in = λ b l. subst (AllWithin (2 ^ (c.args.form.step.omega + 2))) (sym (did.stepped.updated b l)) (updated_within _ _ _ _ _);
      long = did.long;
      inverted = λ p s d first y origin last n lanes fits begun start.
          step_more c.args.form.previous_in lanes (omega (arith, c.loop-k.auto, steps.0), omega (arith, c.loop-k-test.true, fits)) (begun.0, omega (arith, begun.1, c.loop-k.auto)) did.stepped
          kept.long kept.weights_in (kept.inverted p s d first y origin last n lanes fits begun start);
    }

pub returns-clause-weights_in : goal.returns-clause-weights_in
returns-clause-weights_in g c b l = rw (c.keep_rows.ensures b) (c.loop-k.invariant.weights_in b l)

pub returns-clause-inverted : goal.returns-clause-inverted
returns-clause-inverted g c p s d first y origin last n lanes fits begun start =
    let done : c.loop-k.k ≡ c.args.stretch.to = (let e = c.loop-k.auto.k-end c.args.stretch.inside.1 in let f = c.loop-k-test.false in omega (arith, e, f)) in
    let found = subst (λ k. AreInStep g.row.Q p s d first y origin last n k c.loop-k.numbers c.loop-k.own c.loop-k.working) done
    (c.loop-k.invariant.inverted p s d first y origin last n lanes fits begun start) in record {
      offsets = found.offsets;
      residuals = found.residuals;
      centrals = found.centrals;
      weights_at = λ b l exists column. rw (c.keep_rows.ensures b) (found.weights_at b l exists column);
    }
