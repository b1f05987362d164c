use Rattle.std.proofs.Common.{ap}
use Rattle.sample_adaptive.specs.Taken.{CoderState}
use Rattle.sample_adaptive.proofs.Tracking.{settings_seen, bands_seen, band_own, statistics_set, state_own, state_anew, count_stays}
use Rattle.sample_adaptive.proofs.stats.Stats.put_later.Goals as goal

pub replace_with-state-requires : goal.replace_with-state-requires
replace_with-state-requires c =
    let own = state_own c.args.self.now _ (bands_seen c.self.view_is) _ c.requires.band _ c.self.invariant _ c.get.ensures in
    (own, (rw c.deref.ensures.value c.self.inside.thresholds_are, (rw (← c.self.view_is) at c.requires.residuals, c.requires.room)))

pub invariant_of-self : goal.invariant_of-self
invariant_of-self c =
    rw c.set.ensures (state_anew c.args.self.now _ (bands_seen c.self.view_is) _ c.requires.band _ c.self.invariant _ (c.replace_with-state.ensures.1.0))

pub returns-clause-bands : goal.returns-clause-bands
returns-clause-bands c =
    rw c.set.ensures (count_stays c.args.self.now _ (bands_seen c.self.view_is) _ c.requires.band c.replace_with-state.result, ap (λ (w : CoderState). w.bits) c.self.view_is)

pub returns-clause-written : goal.returns-clause-written
returns-clause-written c = λ t k some.
    let v = c.args.self.now in
    let items = c.self.inside.bands in
    let own = band_own v items (bands_seen c.self.view_is) c.args.z c.requires.band c.get.result c.get.ensures in
    let run = c.replace_with-state.ensures.0 v c.args.z t k c.requires.band (settings_seen v _ c.self.view_is) own some in
    rw (c.set.ensures, statistics_set items c.args.z c.replace_with-state.result, ← c.self.view_is) (rw (← c.self.view_is) at run)
