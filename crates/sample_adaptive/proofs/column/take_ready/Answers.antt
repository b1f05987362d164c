use Rattle.std.proofs.Common.{◌≡◌, ◌+◌, ◌<◌, ℕ, length, refl, ap, ◌∙◌, arith}
use Rattle.header_bits.specs.Bits.{Unread}
use Rattle.sample_adaptive.specs.BandStates.{statistics_of}
use Rattle.sample_adaptive.specs.Taken.{CoderState, HasSettings, Reaches}
use Rattle.sample_adaptive.proofs.Counting.{counter_range}
use Rattle.sample_adaptive.proofs.PlacesRead.{starts}
use Rattle.sample_adaptive.proofs.column.take_ready.Goals as goal
use Rattle.sample_adaptive.proofs.column.take_ready.Goals.{then-residuals-i-ge8+else-taken-eq8, else-residuals-i-ge8}

pub take_eight-taken-requires-clause-counter : goal.take_eight-taken-requires-clause-counter
take_eight-taken-requires-clause-counter c =
    rw c.get-counter.ensures (counter_range _ _ c.args.settings.rescaling.size_in.1
    (c.requires.state c.args.z (omega (arith, c.requires.inside, c.loop-i-test.true, c.loop-i.invariant.long))).statistics)

pub loop-i-init : goal.loop-i-init
loop-i-init c =
    record {
      taken = λ v t some same settings. rw c.fork-ahead.ensures (starts (rw (← same) refl));
      state = c.requires.state;
      count = ap (λ (u : Unread). u.count) c.fork-ahead.ensures;
      long = refl;
      inside = omega arith;
      bands = refl;
    }

-- eight words
pub loop-i-preserved-then-taken-eq8 : goal.loop-i-preserved-then-taken-eq8
loop-i-preserved-then-taken-eq8 c =
    let was = c.loop-i.invariant in
    let eight = c.take_eight-taken.ensures in
    record {
      taken = λ v t some same settings. eight.taken v t c.args.index c.args.reader.now some settings (was.taken v t some same settings);
      state = eight.state;
      count = eight.count ∙ was.count;
      long = eight.long ∙ was.long;
      inside = omega (arith, eight.few, eight.long, c.if-residuals-i-ge8.true, was.inside);
      bands = eight.bands ∙ was.bands;
    }

pub loop-i-preserved : goal.loop-i-preserved
loop-i-preserved c =
    let was = c.loop-i.invariant in
    let next = c.take_next-taken.ensures in
    let j = c.if-residuals-i-ge8 in
    let before : record {
      taken : (v : CoderState) (t : ℕ) → 0 < t → v.bands ≡ statistics_of c.args.bands.now
          → HasSettings v c.args.settings.bits c.args.settings.limit c.args.settings.rescaling.size
          → Reaches (λ i. c.args.z + i) (λ i. t) 0 c.args.index j.i v (record v { bands = statistics_of j.bands }) c.args.reader.now j.ahead j.residuals;
      count : j.ahead.count ≡ c.args.reader.now.count;
      long : length j.residuals ≡ length c.args.residuals.now;
      bands : length j.bands ≡ length c.args.bands.now;
    } = elim j.branch [
      | then-residuals-i-ge8+else-taken-eq8 u ↦ rw (u.bands-is, u.residuals-is, u.ahead-is, u.i-is) (
          let eight = u.take_eight-taken.ensures in
          record {
            taken = λ v t some same settings. eight.taken v t c.args.index c.args.reader.now some settings (was.taken v t some same settings);
            count = eight.count ∙ was.count;
            long = eight.long ∙ was.long;
            bands = eight.bands ∙ was.bands;
          }
          )
      | else-residuals-i-ge8 u ↦ rw (u.bands-is, u.residuals-is, u.ahead-is, u.i-is)
          (record { taken = was.taken; count = was.count; long = was.long; bands = was.bands })
    ] in
    record {
      taken = λ v t some same settings.
          (rw c.fork-rest.ensures at (next.taken v t c.args.reader.now some settings)) (before.taken v t some same settings);
      state = next.state;
      count = next.count ∙ ap (λ (u : Unread). u.count) c.fork-rest.ensures ∙ before.count;
      long = next.long ∙ before.long;
      inside = next.within;
      bands = next.bands ∙ before.bands;
    }

pub returns-then-taken-eq0-clause-taken : goal.returns-then-taken-eq0-clause-taken
returns-then-taken-eq0-clause-taken c = λ v t some same settings.
    let was = c.loop-i.invariant.taken v t some same settings in
    let j = c.if-residuals-i-ge8 in
    let before : Reaches (λ i. c.args.z + i) (λ i. t) 0 c.args.index j.i v (record v { bands = statistics_of j.bands }) c.args.reader.now j.ahead j.residuals =
    elim j.branch [
      | then-residuals-i-ge8+else-taken-eq8 u ↦ rw (u.bands-is, u.residuals-is, u.ahead-is, u.i-is)
          (u.take_eight-taken.ensures.taken v t c.args.index c.args.reader.now some settings was)
      | else-residuals-i-ge8 u ↦ rw (u.bands-is, u.residuals-is, u.ahead-is, u.i-is) was
    ] in
    (rw c.fork-rest.ensures at (c.take_next-taken.ensures.taken v t c.args.reader.now some settings)) before
