use Rattle.std.proofs.Common.{◌≡◌, ◌+◌, ◌-◌, ◌*◌, ◌<◌, length, refl, sym, ap, ◌∙◌, arith}
use Rattle.std.proofs.lemmas.List.{length-set}
use Rattle.std.proofs.lemmas.Nat.{mul-le}
use Rattle.sample_adaptive.specs.Taken.{of_band}
use Rattle.sample_adaptive.specs.declared.band_state.BandState.{BandState}
use Rattle.sample_adaptive.specs.BandStates.{statistics_of}
use Rattle.sample_adaptive.proofs.PlacesRead.{steps}
use Rattle.sample_adaptive.proofs.ShortWords.{fewer_ahead, one_fewer}
use Rattle.sample_adaptive.proofs.Tracking.{settings_stay, statistics_at, statistics_count, column_set, state_set}
use Rattle.sample_adaptive.proofs.short_column.take_few.Goals as goal

pub loop-taken-init : goal.loop-taken-init
loop-taken-init c =
    let none : c.args.i + 0 ≡ c.args.i = omega arith in
    let all : c.args.few - 0 ≡ c.args.few = omega arith in
    record {
      taken = λ v t index first some settings was. rw none was;
      few = omega arith;
      ahead = fewer_ahead 57 ((c.args.few - 0) * c.most_bits-most.result) _ _ (rw all c.most_bits-most.ensures.ahead) c.in-Some.ensures.bits;
      state = c.requires.state;
      count = refl;
      long = refl;
      bands = refl;
    }

pub take_short-requires-clause-ahead : goal.take_short-requires-clause-ahead
take_short-requires-clause-ahead c =
    let left = one_fewer c.args.few c.loop-taken.taken c.most_bits-most.result c.loop-taken-test.true in
    fewer_ahead ((c.args.few - c.loop-taken.taken) * c.most_bits-most.result) c.most_bits-most.result _ _ (omega (arith, left)) c.loop-taken.invariant.ahead

pub loop-taken-preserved : goal.loop-taken-preserved
loop-taken-preserved c =
    let was = c.loop-taken.invariant in
    let bands = c.loop-taken.bands in
    let i = c.args.i + c.loop-taken.taken in
    let at = c.args.z + c.args.i + c.loop-taken.taken in
    let e = c.in-Some-take_short.ensures in
    let lt : i < length c.loop-taken.residuals = omega (arith, c.loop-taken-test.true, was.long, c.requires.within) in
    let inside : at < length bands = omega (arith, c.loop-taken-test.true, was.bands, c.requires.within, c.requires.inside) in
    let here : at ≡ c.args.z + (0 + i) = omega arith in
    let own = ap (of_band (statistics_of bands)) (sym here) ∙ statistics_at bands at inside ∙ ap (λ (k : BandState). k.statistics) (sym c.get-band.ensures) in
    let next : c.args.i + (c.loop-taken.taken + 1) ≡ i + 1 = omega arith in
    let more = (c.args.few - (c.loop-taken.taken + 1)) * c.most_bits-most.result in
    let left : (c.args.few - c.loop-taken.taken) * c.most_bits-most.result ≡ more + c.most_bits-most.result = one_fewer c.args.few c.loop-taken.taken c.most_bits-most.result c.loop-taken-test.true in
    let all = mul-le (c.args.few - c.loop-taken.taken) c.most_bits-most.result c.args.few c.most_bits-most.result (omega arith) (omega arith) in
    rw c.set.ensures (record {
      taken = λ v t index first some settings h.
          rw next (steps (was.taken v t index first some settings h) (omega (arith, inside, statistics_count bands)) lt
          (e.reads (record v { bands = statistics_of bands }) _ t (index + i) some (settings_stay settings) own) e.count
          (e.counts (record v { bands = statistics_of bands }) _ t some (settings_stay settings) own ∙ column_set v bands _ here));
      few = omega (arith, c.loop-taken-test.true);
      ahead = e.ahead more (omega (arith, all, left, c.most_bits-most.ensures.ahead)) (rw left at was.ahead);
      state = state_set c.args.settings bands at _ inside e.state was.state;
      count = e.count ∙ was.count;
      long = length-set c.loop-taken.residuals i c.in-Some-take_short.residual ∙ was.long;
      bands = length-set bands at c.take_short.new.band ∙ was.bands;
    })

pub returns-in_default-take_short-clause-taken : goal.returns-in_default-take_short-clause-taken
returns-in_default-take_short-clause-taken c = λ v t index first some settings h.
    rw c.in_default-take_short.ensures.same.0 (c.loop-taken.invariant.taken v t index first some settings h)
