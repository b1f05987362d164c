use Rattle.std.proofs.Common.{◌≡◌, ◌+◌, ◌^◌, ℕ, ℤ, List, take, ap, arith, subst, sym}
use Rattle.std.specs.List.{flat_map}
use Rattle.cube_core.specs.Image.{Image}
use Rattle.header_bits.specs.declared.params.Params.{Params}
use Rattle.band_lanes.specs.Rows.{pair_of, weights_of}
use Rattle.sample_prediction.specs.Bounds.{AllWithin}
use Rattle.predict_core.specs.declared.settings.Settings.{Settings}
use Rattle.wave_inversion.specs.WaveLanes.{AreInStep}
use Rattle.predict_core.proofs.LanePlaces.{updated_within}
use Rattle.wave_inversion.proofs.WaveLanes.{step_more}
use Rattle.wave_inversion.proofs.steps.invert_places.Goals as goal

pub loop-k-preserved : goal.loop-k-preserved
loop-k-preserved g c =
    let kept = c.loop-k.invariant in let did = c.invert_place.ensures in let steps = c.args.stretch.inside in record {
      numbers_in = did.numbers_in;
      own_in = did.own_in;
      weights_in = λ b l. subst (AllWithin (2 ^ (c.args.form.step.omega + 2))) (sym (did.stepped.updated b l)) (updated_within _ _ _ _ _);
      long = did.long;
      inverted = λ p s d first y origin last n lanes fits begun start.
          step_more c.args.form.previous_in lanes (omega (arith, c.loop-k.auto, steps.0), omega (arith, c.loop-k-test.true, fits)) (begun.0, omega (arith, begun.1, c.loop-k.auto)) did.stepped
          kept.long kept.weights_in (kept.inverted p s d first y origin last n lanes fits begun start);
    }

-- the weights of a band are those of the first rows
same_weights : (q b : ℕ) (ws vs : List (List ℤ)) → take q ws ≡ take q vs → weights_of q b ws ≡ weights_of q b vs
unfolding weights_of
same_weights q b ws vs e = ap (flat_map (pair_of b)) e

same_step : {q first y origin last n k : ℕ} {p : Params} {s : ℕ → Settings} {d : Image} {numbers own ws : List (List ℤ)} (vs : List (List ℤ))
    → take q vs ≡ take q ws → AreInStep q p s d first y origin last n k numbers own ws → AreInStep q p s d first y origin last n k numbers own vs
same_step {q = q} {ws = ws} vs e was = record {
  offsets = was.offsets;
  residuals = was.residuals;
  centrals = was.centrals;
  weights_at = λ b l inside. rw (same_weights q b vs ws e) (was.weights_at b l inside);
}

pub returns-clause-weights_in : goal.returns-clause-weights_in
returns-clause-weights_in g c b l = rw (same_weights _ b _ _ c.put_pairs.ensures) (c.loop-k.invariant.weights_in b l)

pub returns-clause-inverted : goal.returns-clause-inverted
returns-clause-inverted g c p s d first y origin last n lanes fits begun start =
    let done : c.loop-k.k ≡ c.args.stretch.to = (let e = c.loop-k.auto.k-end c.args.stretch.inside.1 in let f = c.loop-k-test.false in omega (arith, e, f)) in
    same_step c.put_pairs.new.own c.put_pairs.ensures
    (subst (λ k. AreInStep g.row.Q p s d first y origin last n k c.loop-k.numbers c.loop-k.own c.loop-k.working) done
    (c.loop-k.invariant.inverted p s d first y origin last n lanes fits begun start))
