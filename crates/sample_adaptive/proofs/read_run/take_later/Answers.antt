use Rattle.std.proofs.Common.{◌≡◌, ◌+◌, ◌<◌, length, arith}
use Rattle.std.proofs.lemmas.List.{get_or-set_same, length-set, set-set}
use Rattle.sample_adaptive.specs.Taken.{of_band, with_band, no_statistics}
use Rattle.sample_adaptive.proofs.Running.{after_first}
use Rattle.sample_adaptive.proofs.PlacesRead.{ends}
use Rattle.sample_adaptive.proofs.Tracking.{settings_stay}
use Rattle.sample_adaptive.proofs.read_run.take_later.Goals as goal

pub returns-then-done-residuals-clause-taken : goal.returns-then-done-residuals-clause-taken
returns-then-done-residuals-clause-taken c = λ v z t k within settings own some.
    ends (c.take_ready-done.ensures.taken v z t k within settings own some) (omega (arith, c.if-done-residuals.true))

-- the rest is taken after them
pub returns-clause-taken : goal.returns-clause-taken
returns-clause-taken c = λ v z t k within settings own some.
    let e = c.take_ready-done.ensures in
    let s = c.take_ready-done.new.state.statistics in
    let there : z < length (with_band v z s).bands = omega (arith, within, length-set v.bands z s) in
    let band : of_band (with_band v z s).bands z ≡ s = get_or-set_same v.bands z s no_statistics within in
    let rest = c.take_rest.ensures.taken (with_band v z s) z t (k + c.take_ready-done.result) there (settings_stay settings) band (omega (arith, some)) in
    rw (after_first c.take_ready-done.new.residuals c.take_rest.new.residuals c.take_ready-done.result e.within c.take_rest.ensures.long)
    ((e.taken v z t k within settings own some).append _ _ _ _ (rw set-set at rest))
