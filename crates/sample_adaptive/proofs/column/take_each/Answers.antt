use Rattle.std.proofs.Common.{◌≡◌, ◌+◌, ◌<◌, length, refl, sym, ap, ◌∙◌, arith}
use Rattle.std.proofs.lemmas.List.{length-set}
use Rattle.sample_adaptive.specs.Taken.{of_band}
use Rattle.sample_adaptive.specs.declared.band_state.BandState.{BandState}
use Rattle.sample_adaptive.specs.BandStates.{statistics_of}
use Rattle.sample_adaptive.proofs.PlacesRead.{starts, steps, stops, ends}
use Rattle.sample_adaptive.proofs.Tracking.{settings_stay, statistics_at, statistics_count, column_set, state_set}
use Rattle.sample_adaptive.proofs.column.take_each.Goals as goal

pub loop-i-init : goal.loop-i-init
loop-i-init c =
    record {
      taken = λ v b t k at is same settings. starts (rw (← same) refl);
      state = c.requires.state;
      count = refl;
      long = refl;
      bands = refl;
    }

pub returns-in-Err-clause-taken : goal.returns-in-Err-clause-taken
returns-in-Err-clause-taken c = λ v b t k at is same settings.
    let was = c.loop-i.invariant in
    let bands = c.loop-i.bands in
    let within : c.loop-i.i < length c.loop-i.residuals = omega (arith, c.loop-i-test.true, was.long) in
    let inside : c.args.z + c.loop-i.i < length bands = omega (arith, c.loop-i-test.true, was.bands, c.requires.inside) in
    let here : c.args.z + c.loop-i.i ≡ b + (k + c.loop-i.i) = omega (arith, at) in
    let own = ap (of_band (statistics_of bands)) (sym here) ∙ statistics_at bands _ inside ∙ ap (λ (k : BandState). k.statistics) (sym c.get-state.ensures) in
    stops (was.taken v b t k at is same settings) _ v c.loop-i.reader.left (omega (arith, inside, here, statistics_count bands)) within
    (c.in-Err.ensures.reads (record v { bands = statistics_of bands }) _ t is (settings_stay settings) own)

pub loop-i-preserved : goal.loop-i-preserved
loop-i-preserved c =
    let was = c.loop-i.invariant in
    let bands = c.loop-i.bands in
    let within : c.loop-i.i < length c.loop-i.residuals = omega (arith, c.loop-i-test.true, was.long) in
    let inside : c.args.z + c.loop-i.i < length bands = omega (arith, c.loop-i-test.true, was.bands, c.requires.inside) in
    rw c.set.ensures (record {
      taken = λ v b t k at is same settings.
          let here : c.args.z + c.loop-i.i ≡ b + (k + c.loop-i.i) = omega (arith, at) in
          let own = ap (of_band (statistics_of bands)) (sym here) ∙ statistics_at bands _ inside ∙ ap (λ (k : BandState). k.statistics) (sym c.get-state.ensures) in
          steps (was.taken v b t k at is same settings) (omega (arith, inside, here, statistics_count bands)) within
          (c.in-Ok.ensures.reads (record v { bands = statistics_of bands }) _ t is (settings_stay settings) own) c.in-Ok.ensures.count
          (c.in-Ok.ensures.counts (record v { bands = statistics_of bands }) _ t is (settings_stay settings) own ∙ column_set v bands _ here);
      state = state_set c.args.settings bands _ _ inside c.in-Ok.ensures.state was.state;
      count = c.in-Ok.ensures.count ∙ was.count;
      long = length-set c.loop-i.residuals c.loop-i.i c.in-Ok.residual ∙ was.long;
      bands = length-set bands (c.args.z + c.loop-i.i) c.take_residual.new.state ∙ was.bands;
    })

pub returns-clause-taken : goal.returns-clause-taken
returns-clause-taken c = λ v b t k at is same settings. ends (c.loop-i.invariant.taken v b t k at is same settings) (omega arith)
