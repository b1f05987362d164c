use Rattle.std.proofs.Common.{◌≡◌, ◌+◌, ◌-◌, ◌<◌, ◌≤◌, ℕ, length, refl, ap, ◌∙◌, arith}
use Rattle.header_bits.specs.Bits.{Unread}
use Rattle.sample_adaptive.specs.BandStates.{statistics_of}
use Rattle.sample_adaptive.specs.Taken.{CoderState, HasSettings, Reaches}
use Rattle.sample_adaptive.proofs.short_column.take_next.Goals as goal
use Rattle.sample_adaptive.proofs.short_column.take_next.Goals.{then-end-at-ge4+else-taken-ge3, else-end-at-ge4, else-loop-at-test, then-loop-at-test+then-taken-eq0}

pub loop-at-init : goal.loop-at-init
loop-at-init c =
    record {
      taken = λ v t first some settings was. rw c.fork-ahead.ensures was;
      state = c.requires.state;
      count = ap (λ (u : Unread). u.count) c.fork-ahead.ensures;
      long = refl;
      begun = omega arith;
      inside = omega (arith, c.requires.within);
      bands = refl;
    }

-- short words
pub loop-at-preserved-then-taken-ge3 : goal.loop-at-preserved-then-taken-ge3
loop-at-preserved-then-taken-ge3 c =
    let was = c.loop-at.invariant in
    let four = c.take_four-taken.ensures in
    record {
      taken = λ v t first some settings h. four.taken v t c.args.index first some settings (was.taken v t first some settings h);
      state = four.state;
      count = four.count ∙ was.count;
      long = four.long ∙ was.long;
      begun = omega (arith, was.begun);
      inside = omega (arith, four.few, four.long, c.if-end-at-ge4.true, was.inside, was.long);
      bands = four.bands ∙ was.bands;
    }

pub loop-at-preserved : goal.loop-at-preserved
loop-at-preserved c =
    let was = c.loop-at.invariant in
    let some_words = c.take_some-taken.ensures in
    let j = c.if-end-at-ge4 in
    let before : record {
      taken : (v : CoderState) (t : ℕ) (first : Unread) → 0 < t → HasSettings v c.args.settings.bits c.args.settings.limit c.args.settings.rescaling.size
          → Reaches (λ i. c.args.z + i) (λ i. t) 0 c.args.index c.args.i v (record v { bands = statistics_of c.args.bands.now }) first c.args.reader.now c.args.residuals.now
          → Reaches (λ i. c.args.z + i) (λ i. t) 0 c.args.index j.at v (record v { bands = statistics_of j.bands }) first j.ahead j.residuals;
      count : j.ahead.count ≡ c.args.reader.now.count;
      long : length j.residuals ≡ length c.args.residuals.now;
      begun : c.args.i ≤ j.at;
      bands : length j.bands ≡ length c.args.bands.now;
    } = elim j.branch [
      | then-end-at-ge4+else-taken-ge3 u ↦ rw (u.bands-is, u.residuals-is, u.ahead-is, u.at-is) (
          let four = u.take_four-taken.ensures in
          record {
            taken = λ v t first some settings h. four.taken v t c.args.index first some settings (was.taken v t first some settings h);
            count = four.count ∙ was.count;
            long = four.long ∙ was.long;
            begun = omega (arith, was.begun);
            bands = four.bands ∙ was.bands;
          }
          )
      | else-end-at-ge4 u ↦ rw (u.bands-is, u.residuals-is, u.ahead-is, u.at-is)
          (record { taken = was.taken; count = was.count; long = was.long; begun = was.begun; bands = was.bands })
    ] in
    record {
      taken = λ v t first some settings h.
          (rw c.fork-rest.ensures at (some_words.taken v t c.args.index first some settings refl)) (before.taken v t first some settings h);
      state = some_words.state;
      count = some_words.count ∙ ap (λ (u : Unread). u.count) c.fork-rest.ensures ∙ before.count;
      long = some_words.long ∙ before.long;
      begun = omega (arith, before.begun);
      inside = some_words.within;
      bands = some_words.bands ∙ before.bands;
    }

pub returns-clause-taken : goal.returns-clause-taken
returns-clause-taken c = λ v t first some settings h.
    let was = c.loop-at.invariant in
    let here = was.taken v t first some settings h in
    let end = c.loop-at-test in
    let reached : record {
      taken : Reaches (λ i. c.args.z + i) (λ i. t) 0 c.args.index end.at v (record v { bands = statistics_of end.bands }) first end.ahead end.residuals;
      begun : c.args.i ≤ end.at;
    } = elim end.branch [
      | else-loop-at-test w ↦ rw (w.bands-is, w.residuals-is, w.ahead-is, w.at-is) (record { taken = here; begun = was.begun })
      | then-loop-at-test+then-taken-eq0 w ↦ rw (w.bands-is, w.residuals-is, w.ahead-is, w.at-is) (
          let j = w.if-end-at-ge4 in
          let before : record {
            taken : Reaches (λ i. c.args.z + i) (λ i. t) 0 c.args.index j.at v (record v { bands = statistics_of j.bands }) first j.ahead j.residuals;
            begun : c.args.i ≤ j.at;
          } = elim j.branch [
            | then-end-at-ge4+else-taken-ge3 u ↦ rw (u.bands-is, u.residuals-is, u.ahead-is, u.at-is)
                (record { taken = u.take_four-taken.ensures.taken v t c.args.index first some settings here; begun = omega (arith, was.begun) })
            | else-end-at-ge4 u ↦ rw (u.bands-is, u.residuals-is, u.ahead-is, u.at-is) (record { taken = here; begun = was.begun })
          ] in
          record {
            taken = (rw w.fork-rest.ensures at (w.take_some-taken.ensures.taken v t c.args.index first some settings refl)) before.taken;
            begun = omega (arith, before.begun);
          }
          )
    ] in
    let whole : c.args.i + (end.at - c.args.i) ≡ end.at = omega (arith, reached.begun) in
    rw whole reached.taken
