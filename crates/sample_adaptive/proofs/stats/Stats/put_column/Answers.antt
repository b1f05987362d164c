use Rattle.std.proofs.Common.{◌≡◌, ap, sym, ◌∙◌}
use Rattle.header_bits.specs.Bits.{Written}
use Rattle.sample_adaptive.specs.Taken.{CoderState}
use Rattle.sample_adaptive.specs.BandStates.{statistics_of}
use Rattle.sample_adaptive.proofs.Tracking.{settings_seen, bands_seen, bands_hold, bands_count}
use Rattle.sample_adaptive.proofs.Writing.{column_taken}
use Rattle.sample_adaptive.proofs.stats.Stats.put_column.Goals as goal

pub put_words_of-requires-clause-inside : goal.put_words_of-requires-clause-inside
put_words_of-requires-clause-inside c = bands_hold c.args.self.now _ (bands_seen c.self.view_is) _ c.requires.inside

pub put_words_of-requires-clause-residuals : goal.put_words_of-requires-clause-residuals
put_words_of-requires-clause-residuals c = rw (← c.self.view_is) at c.requires.residuals

pub returns-clause-bands : goal.returns-clause-bands
returns-clause-bands c =
    (bands_count c.args.self.now _ (bands_seen c.self.view_is) _ c.put_words_of.ensures.bands, ap (λ (v : CoderState). v.bits) c.self.view_is)

pub returns-clause-written : goal.returns-clause-written
returns-clause-written c =
    let settings = settings_seen c.args.self.now _ c.self.view_is in
    let same : c.args.self.now.bands ≡ statistics_of c.self.inside.bands = sym (bands_seen c.self.view_is) in
    let column = c.put_words_of.ensures.written c.args.self.now same settings in
    let written : c.replace-ahead.result.bits ≡ c.args.writer.now.bits =
    ap (λ (w : Written). w.bits) c.replace-ahead.ensures.value ∙ c.in_ok-make_room.ensures.same in
    rw (← c.self.view_is) (rw (written, ← c.self.view_is) at column)

pub returns-clause-taken : goal.returns-clause-taken
returns-clause-taken c = column_taken c.args.z c.args.t c.args.residuals.now _ _ _ _ c.requires.inside (returns-clause-written c)
