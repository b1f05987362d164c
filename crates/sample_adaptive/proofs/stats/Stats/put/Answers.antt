use Rattle.std.proofs.Common.{rules, List, Bool, ◌++◌, refl, ap, ◌∙◌}
use Rattle.sample_adaptive.specs.Taken.{CoderState}
use Rattle.sample_adaptive.proofs.Taking.{puts_residual}
use Rattle.sample_adaptive.proofs.Tracking.{settings_seen, bands_seen, band_own, statistics_set, state_own, state_anew, count_stays}
use Rattle.sample_adaptive.proofs.stats.Stats.put.Goals as goal

pub next_word-word-requires-clause-state : goal.next_word-word-requires-clause-state
next_word-word-requires-clause-state c =
    state_own c.args.self.now _ (bands_seen c.self.view_is) _ c.requires.band _ c.self.invariant _ c.get-band.ensures

pub invariant_of-self : goal.invariant_of-self
invariant_of-self c =
    rw c.set.ensures (state_anew c.args.self.now _ (bands_seen c.self.view_is) _ c.requires.band _ c.self.invariant _ c.next_word-word.ensures.state)

pub returns-clause-bands : goal.returns-clause-bands
returns-clause-bands c =
    rw c.set.ensures (count_stays c.args.self.now _ (bands_seen c.self.view_is) _ c.requires.band c.next_word-word.new.state, ap (λ (w : CoderState). w.bits) c.self.view_is)

pub returns-clause-taken : goal.returns-clause-taken
returns-clause-taken c =
    let v = c.args.self.now in
    let items = c.self.inside.bands in
    let kept = c.next_word-word.new.state in
    let known = settings_seen v _ c.self.view_is in
    let own = band_own v items (bands_seen c.self.view_is) c.args.z c.requires.band c.get-band.result c.get-band.ensures in
    let text = c.in_ok-push.ensures.appended
    ∙ ap (λ (bits : List Bool). c.args.writer.now.bits ++ bits) (c.next_word-word.ensures.word v c.args.z c.args.t refl known own) in
    let counts = c.next_word-word.ensures.counts v c.args.z c.args.t refl known own in
    let puts = rw counts at (puts_residual c.args.z c.args.t c.args.delta v _ _ c.requires.band text) in
    rw (c.set.ensures, statistics_set items c.args.z kept, ← c.self.view_is) (rw (← c.self.view_is) at puts)

pub returns-clause-written : goal.returns-clause-written
returns-clause-written c =
    let v = c.args.self.now in
    let own = band_own v c.self.inside.bands (bands_seen c.self.view_is) c.args.z c.requires.band c.get-band.result c.get-band.ensures in
    c.in_ok-push.ensures.appended
    ∙ ap (λ (bits : List Bool). c.args.writer.now.bits ++ bits)
    (c.next_word-word.ensures.word v c.args.z c.args.t refl (settings_seen v _ c.self.view_is) own)

pub returns-clause-counted : goal.returns-clause-counted
returns-clause-counted c =
    let v = c.args.self.now in
    let items = c.self.inside.bands in
    let own = band_own v items (bands_seen c.self.view_is) c.args.z c.requires.band c.get-band.result c.get-band.ensures in
    let counts = c.next_word-word.ensures.counts v c.args.z c.args.t refl (settings_seen v _ c.self.view_is) own in
    rw (counts, c.set.ensures, statistics_set items c.args.z c.next_word-word.new.state, ← c.self.view_is) refl

pub returns-in_err-push-clause-same : goal.returns-in_err-push-clause-same
returns-in_err-push-clause-same c = search rules
