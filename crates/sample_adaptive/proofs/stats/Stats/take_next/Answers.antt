use Rattle.std.proofs.Common.{rules, refl, ap}
use Rattle.sample_adaptive.specs.Taken.{CoderState}
use Rattle.sample_adaptive.proofs.Taking.{code_is, taken_more}
use Rattle.sample_adaptive.proofs.Tracking.{settings_seen, bands_seen, band_own, statistics_set, state_own, state_anew, count_stays}
use Rattle.sample_adaptive.proofs.stats.Stats.take_next.Goals as goal

pub take_residual-requires : goal.take_residual-requires
take_residual-requires c =
    record { state = state_own c.args.self.now _ (bands_seen c.self.view_is) _ c.requires _ c.self.invariant _ c.get-state.ensures }

pub invariant_of-self : goal.invariant_of-self
invariant_of-self c =
    rw c.set.ensures (state_anew c.args.self.now _ (bands_seen c.self.view_is) _ c.requires _ c.self.invariant _ c.in-Ok.ensures.state)

pub returns-in-Ok-clause-bands : goal.returns-in-Ok-clause-bands
returns-in-Ok-clause-bands c =
    rw c.set.ensures (count_stays c.args.self.now _ (bands_seen c.self.view_is) _ c.requires c.take_residual.new.state, ap (λ (w : CoderState). w.bits) c.self.view_is)

pub returns-in-Ok-clause-taken : goal.returns-in-Ok-clause-taken
returns-in-Ok-clause-taken c = λ settings taken h next.
    let v = c.args.self.now in
    let items = c.self.inside.bands in
    let kept = c.take_residual.new.state in
    let known = settings_seen v _ c.self.view_is in
    let own = band_own v items (bands_seen c.self.view_is) c.args.z c.requires c.get-state.result c.get-state.ensures in
    let code = code_is settings v taken c.args.z c.args.t h c.requires next in
    let counts = c.in-Ok.ensures.counts v c.args.z c.args.t refl known own in
    let more = rw (counts, ← c.self.view_is) at (taken_more settings v taken c.args.z c.args.t c.in-Ok.residual h c.requires next) in
    (rw (← code) (c.in-Ok.ensures.reads v c.args.z c.args.t refl known own), rw (c.set.ensures, statistics_set items c.args.z kept) more)

pub returns-in-Err-clause-taken : goal.returns-in-Err-clause-taken
returns-in-Err-clause-taken c = λ settings taken h next.
    let v = c.args.self.now in
    let own = band_own v c.self.inside.bands (bands_seen c.self.view_is) c.args.z c.requires c.get-state.result c.get-state.ensures in
    let code = code_is settings v taken c.args.z c.args.t h c.requires next in
    (rw (← code) (c.in-Err.ensures.reads v c.args.z c.args.t refl (settings_seen v _ c.self.view_is) own), tt)

pub returns-in-Err-clause-kept : goal.returns-in-Err-clause-kept
returns-in-Err-clause-kept c = search rules

pub returns-in-Err-clause-same : goal.returns-in-Err-clause-same
returns-in-Err-clause-same c = search rules
