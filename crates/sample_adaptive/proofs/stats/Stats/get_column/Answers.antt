use Rattle.std.proofs.Common.{◌≡◌, ap, sym}
use Rattle.sample_adaptive.specs.Taken.{CoderState}
use Rattle.sample_adaptive.specs.BandStates.{statistics_of}
use Rattle.sample_adaptive.proofs.Tracking.{settings_seen, bands_seen, bands_hold, bands_count}
use Rattle.sample_adaptive.proofs.stats.Stats.get_column.Goals as goal

pub take_column-requires-clause-inside : goal.take_column-requires-clause-inside
take_column-requires-clause-inside c = bands_hold c.args.self.now _ (bands_seen c.self.view_is) _ c.requires.inside

pub returns-in-Ok-clause-bands : goal.returns-in-Ok-clause-bands
returns-in-Ok-clause-bands c =
    (bands_count c.args.self.now _ (bands_seen c.self.view_is) _ c.in-Ok.ensures.bands, ap (λ (v : CoderState). v.bits) c.self.view_is)

pub returns-in-Err-clause-bands : goal.returns-in-Err-clause-bands
returns-in-Err-clause-bands c =
    (bands_count c.args.self.now _ (bands_seen c.self.view_is) _ c.in-Err.ensures.bands, ap (λ (v : CoderState). v.bits) c.self.view_is)

pub returns-in-Ok-clause-taken : goal.returns-in-Ok-clause-taken
returns-in-Ok-clause-taken c =
    let settings = settings_seen c.args.self.now _ c.self.view_is in
    let same : c.args.self.now.bands ≡ statistics_of c.self.inside.bands = sym (bands_seen c.self.view_is) in
    rw (← c.self.view_is) (rw (c.fork-ahead.ensures, ← c.self.view_is) at (c.in-Ok.ensures.taken c.args.self.now same settings))

pub returns-in-Err-clause-taken : goal.returns-in-Err-clause-taken
returns-in-Err-clause-taken c =
    let settings = settings_seen c.args.self.now _ c.self.view_is in
    let same : c.args.self.now.bands ≡ statistics_of c.self.inside.bands = sym (bands_seen c.self.view_is) in
    rw c.fork-ahead.ensures at (c.in-Err.ensures.taken c.args.self.now same settings)

pub returns-in-Err-clause-kept : goal.returns-in-Err-clause-kept
returns-in-Err-clause-kept c = search

pub returns-in-Err-clause-same : goal.returns-in-Err-clause-same
returns-in-Err-clause-same c = search
