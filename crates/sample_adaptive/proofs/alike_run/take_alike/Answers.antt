use Rattle.std.proofs.Common.{◌≡◌, ◌+◌, ◌-◌, ◌*◌, ◌<◌, ◌^◌, length, refl, ◌∙◌, arith}
use Rattle.std.proofs.lemmas.List.{length-set, take-set-le}
use Rattle.std.proofs.lemmas.Nat.{mul-le}
use Rattle.sample_adaptive.specs.declared.statistics.Statistics.{Statistics}
use Rattle.sample_adaptive.specs.Statistics.{code_parameter}
use Rattle.sample_adaptive.proofs.Alike.{kept_along, last_inside}
use Rattle.sample_adaptive.proofs.PieceEnds.{within_piece, next_counted, counted_more, statistics_counted}
use Rattle.sample_adaptive.proofs.PlacesRead.{run_steps}
use Rattle.sample_adaptive.proofs.ShortWords.{fewer_ahead, one_fewer}
use Rattle.sample_adaptive.proofs.alike_run.take_alike.Goals as goal

pub bounds-thresholds-entry : goal.bounds-thresholds-entry
bounds-thresholds-entry c =
    omega (
      arith,
      last_inside _ _ c.args.words.code.k (c.args.words.row + c.args.statistics.counter) c.args.statistics.counter c.args.few c.args.thresholds.now
          c.requires.thresholds c.requires.words.k c.args.settings.bits_in.1 c.args.settings.rescaling.size_in.1 c.requires.before c.requires.some
          (omega (arith, c.args.words.row_is)),
    )

pub bounds-thresholds-entry-2 : goal.bounds-thresholds-entry-2
bounds-thresholds-entry-2 c =
    omega (
      arith,
      last_inside _ _ c.args.words.code.k (c.args.words.row + c.args.statistics.counter) c.args.statistics.counter c.args.few c.args.thresholds.now
          c.requires.thresholds c.requires.words.k c.args.settings.bits_in.1 c.args.settings.rescaling.size_in.1 c.requires.before c.requires.some
          (omega (arith, c.args.words.row_is)),
    )

pub loop-taken-init : goal.loop-taken-init
loop-taken-init c =
    let none : c.args.i + 0 ≡ c.args.i = omega arith in
    let all : c.args.few - 0 ≡ c.args.few = omega arith in
    let same : c.args.statistics.counter + 0 ≡ c.args.statistics.counter = omega arith in
    record {
      taken = λ less v z t k index first within settings some was.
          rw (none, same, within_piece c.args.settings.rescaling.size c.args.statistics c.requires.statistics.most, c.fork-ahead.ensures) was;
      few = omega arith;
      ahead = rw c.fork-ahead.ensures (fewer_ahead 57 ((c.args.few - 0) * c.args.words.most) _ _ (rw all c.requires.ahead) c.in_ok-bits.ensures.bits);
      statistics = rw same (statistics_counted _ _ c.requires.statistics);
      grown = omega arith;
      last = omega arith;
      before = refl;
      count = rw c.fork-ahead.ensures refl;
      long = refl;
    }

pub take-requires : goal.take-requires
take-requires c =
    let most = c.args.words.most in
    let left = one_fewer c.args.few c.loop-taken.taken most c.loop-taken-test.true in
    fewer_ahead ((c.args.few - c.loop-taken.taken) * most) most _ _ (omega (arith, left)) c.loop-taken.invariant.ahead

pub loop-taken-preserved : goal.loop-taken-preserved
loop-taken-preserved c =
    let was = c.loop-taken.invariant in
    let size = c.args.settings.rescaling.size in
    let from = c.args.statistics.counter in
    let s : Statistics = record { counter = from + c.loop-taken.taken; accumulator = c.loop-taken.accumulator } in
    let i = c.args.i + c.loop-taken.taken in
    let e = c.in_ok-residual.ensures in
    let lt : i < length c.loop-taken.residuals = omega (arith, c.loop-taken-test.true, was.long, c.requires.inside) in
    let inside : s.counter < 2 ^ size = omega (arith, c.loop-taken-test.true, c.requires.before) in
    let more_counted : from + (c.loop-taken.taken + 1) ≡ s.counter + 1 = omega arith in
    let after : Statistics = record { counter = from + (c.loop-taken.taken + 1); accumulator = c.loop-taken.accumulator + c.in_ok-residual.residual } in
    let counts : after ≡ record { counter = s.counter + 1; accumulator = s.accumulator + c.in_ok-residual.residual } = rw more_counted refl in
    let next : c.args.i + (c.loop-taken.taken + 1) ≡ i + 1 = omega arith in
    let most = c.args.words.most in
    let more = (c.args.few - (c.loop-taken.taken + 1)) * most in
    let left : (c.args.few - c.loop-taken.taken) * most ≡ more + most = one_fewer c.args.few c.loop-taken.taken most c.loop-taken-test.true in
    let all = mul-le (c.args.few - c.loop-taken.taken) most c.args.few most (omega arith) (omega arith) in
    record {
      taken = λ less v z t k index first within settings some h.
          let kept = kept_along c.args.settings.bits size c.args.words.code.k (c.args.words.row + from) from c.args.few c.loop-taken.taken c.loop-taken.accumulator
          c.args.thresholds.now c.requires.thresholds c.requires.words.k c.requires.before c.loop-taken-test.true (omega (arith, c.args.words.row_is))
          (omega (arith, c.if-statistics-thresholds.false, was.grown)) (omega (arith, less)) in
          let code : c.args.words.code ≡ record { limit = c.args.settings.limit; k = code_parameter c.args.settings.bits s; bits = c.args.settings.bits } =
          rw (← kept, ← c.requires.words.limit, ← c.requires.words.bits) refl in
          rw next (run_steps t s (rw (within_piece size s inside) at (was.taken (omega (arith, less, was.last)) v z t k index first within settings some h)) within some lt
          (rw (settings.umax_is, settings.bits_are, ← code) (e.reads (index + i))) e.count (rw settings.size_is (next_counted size s after _ inside counts)));
      few = omega (arith, c.loop-taken-test.true);
      ahead = e.ahead more (omega (arith, all, left, c.requires.ahead)) (rw left at was.ahead);
      statistics = counted_more size s after _ was.statistics inside e.below counts;
      grown = omega (arith, was.grown);
      last = omega arith;
      before = take-set-le c.args.i c.loop-taken.residuals i c.in_ok-residual.residual (omega arith) ∙ was.before;
      count = e.count ∙ was.count;
      long = length-set c.loop-taken.residuals i c.in_ok-residual.residual ∙ was.long;
    }

pub returns-clause-taken : goal.returns-clause-taken
returns-clause-taken c = λ v z t k index first within settings some was.
    let all : c.loop-taken.taken ≡ c.args.few = omega (arith, c.loop-taken-test.false, c.loop-taken.invariant.few) in
    rw all at (c.loop-taken.invariant.taken (omega (arith, c.if-thresholds-entry.false)) v z t k index first within settings some was)
