use Rattle.std.proofs.Common.{rules, ap}
use Rattle.sample_adaptive.specs.Taken.{CoderState}
use Rattle.sample_adaptive.proofs.Tracking.{settings_seen, bands_seen, band_own, statistics_set, state_own, state_anew, count_stays}
use Rattle.sample_adaptive.proofs.stats.Stats.get_run.Goals as goal

pub take_words-requires-clause-state : goal.take_words-requires-clause-state
take_words-requires-clause-state c =
    state_own c.args.self.now _ (bands_seen c.self.view_is) _ c.requires.band _ c.self.invariant _ c.get-band.ensures

pub invariant_of-self : goal.invariant_of-self
invariant_of-self c =
    rw c.set.ensures (state_anew c.args.self.now _ (bands_seen c.self.view_is) _ c.requires.band _ c.self.invariant _ c.in-Ok.ensures.state)

pub returns-in-Ok-clause-bands : goal.returns-in-Ok-clause-bands
returns-in-Ok-clause-bands c =
    rw c.set.ensures (count_stays c.args.self.now _ (bands_seen c.self.view_is) _ c.requires.band c.take_words.new.state, ap (λ (w : CoderState). w.bits) c.self.view_is)

pub returns-in-Ok-clause-taken : goal.returns-in-Ok-clause-taken
returns-in-Ok-clause-taken c =
    let v = c.args.self.now in
    let items = c.self.inside.bands in
    let own = band_own v items (bands_seen c.self.view_is) c.args.z c.requires.band c.get-band.result c.get-band.ensures in
    let run = c.in-Ok.ensures.taken v c.args.z c.requires.band (settings_seen v _ c.self.view_is) own in
    rw (c.set.ensures, statistics_set items c.args.z c.take_words.new.state, ← c.self.view_is) (rw (c.fork-ahead.ensures, ← c.self.view_is) at run)

pub returns-in-Err-clause-taken : goal.returns-in-Err-clause-taken
returns-in-Err-clause-taken c =
    let v = c.args.self.now in
    let own = band_own v c.self.inside.bands (bands_seen c.self.view_is) c.args.z c.requires.band c.get-band.result c.get-band.ensures in
    rw c.fork-ahead.ensures at (c.in-Err.ensures.taken v c.args.z c.requires.band (settings_seen v _ c.self.view_is) own)

pub returns-in-Err-clause-kept : goal.returns-in-Err-clause-kept
returns-in-Err-clause-kept c = search rules

pub returns-in-Err-clause-same : goal.returns-in-Err-clause-same
returns-in-Err-clause-same c = search
