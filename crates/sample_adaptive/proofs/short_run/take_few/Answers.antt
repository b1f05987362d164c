use Rattle.std.proofs.Common.{◌≡◌, ◌+◌, ◌-◌, ◌*◌, ◌<◌, ◌^◌, length, refl, ◌∙◌, arith}
use Rattle.std.proofs.lemmas.List.{length-set}
use Rattle.std.proofs.lemmas.Nat.{mul-le}
use Rattle.sample_adaptive.specs.declared.statistics.Statistics.{Statistics}
use Rattle.sample_adaptive.proofs.PieceEnds.{within_piece, next_counted, counted_more, statistics_counted}
use Rattle.sample_adaptive.proofs.PlacesRead.{run_steps}
use Rattle.sample_adaptive.proofs.ShortWords.{fewer_ahead, one_fewer}
use Rattle.sample_adaptive.proofs.short_run.take_few.Goals as goal

pub returns-in_default-clause-taken : goal.returns-in_default-clause-taken
returns-in_default-clause-taken c = λ v z t k index first within settings some was.
    let none : c.args.i + 0 ≡ c.args.i = omega arith in
    rw (none, within_piece c.args.settings.rescaling.size c.args.statistics.now c.requires.statistics.most) was

pub loop-taken-init : goal.loop-taken-init
loop-taken-init c =
    let none : c.args.i + 0 ≡ c.args.i = omega arith in
    let all : c.args.few - 0 ≡ c.args.few = omega arith in
    let same : c.args.statistics.now.counter + 0 ≡ c.args.statistics.now.counter = omega arith in
    record {
      taken = λ v z t k index first within settings some was.
          rw (none, same, within_piece c.args.settings.rescaling.size c.args.statistics.now c.requires.statistics.most) was;
      few = omega arith;
      ahead = fewer_ahead 57 ((c.args.few - 0) * c.args.words.now.most) _ _ (rw all c.requires.ahead) c.in-Some.ensures.bits;
      most = refl;
      statistics = rw same (statistics_counted _ _ c.requires.statistics);
      words = c.requires.words;
      count = refl;
      long = refl;
    }

pub take_short-requires-clause-ahead : goal.take_short-requires-clause-ahead
take_short-requires-clause-ahead c =
    let most = c.args.words.now.most in
    let left = one_fewer c.args.few c.loop-taken.taken most c.loop-taken-test.true in
    fewer_ahead ((c.args.few - c.loop-taken.taken) * most) most _ _ (omega (arith, left)) c.loop-taken.invariant.ahead

pub loop-taken-preserved : goal.loop-taken-preserved
loop-taken-preserved c =
    let was = c.loop-taken.invariant in
    let size = c.args.settings.rescaling.size in
    let s : Statistics = record { counter = c.args.statistics.now.counter + c.loop-taken.taken; accumulator = c.loop-taken.accumulator } in
    let i = c.args.i + c.loop-taken.taken in
    let e = c.in-Some-take_short.ensures in
    let lt : i < length c.loop-taken.residuals = omega (arith, c.loop-taken-test.true, was.long, c.requires.inside) in
    let inside : s.counter < 2 ^ size = omega (arith, c.loop-taken-test.true, c.requires.before) in
    let more_counted : c.args.statistics.now.counter + (c.loop-taken.taken + 1) ≡ s.counter + 1 = omega arith in
    let after : Statistics = record { counter = c.args.statistics.now.counter + (c.loop-taken.taken + 1); accumulator = c.take_short.new.accumulator } in
    let counts : after ≡ record { counter = s.counter + 1; accumulator = s.accumulator + c.in-Some-take_short.residual } = rw (more_counted, e.sums) refl in
    let next : c.args.i + (c.loop-taken.taken + 1) ≡ i + 1 = omega arith in
    let most = c.args.words.now.most in
    let more = (c.args.few - (c.loop-taken.taken + 1)) * most in
    let left : (c.args.few - c.loop-taken.taken) * most ≡ more + most = one_fewer c.args.few c.loop-taken.taken most c.loop-taken-test.true in
    let all = mul-le (c.args.few - c.loop-taken.taken) most c.args.few most (omega arith) (omega arith) in
    record {
      taken = λ v z t k index first within settings some h.
          rw next (run_steps t s (rw (within_piece size s inside) at (was.taken v z t k index first within settings some h)) within some lt
          (rw (settings.umax_is, settings.bits_are) (e.reads (index + i))) e.count (rw settings.size_is (next_counted size s after _ inside counts)));
      few = omega (arith, c.loop-taken-test.true);
      ahead = e.ahead more (omega (arith, all, left, c.requires.ahead)) (rw left at was.ahead);
      most = e.most;
      statistics = counted_more size s after _ was.statistics inside e.below counts;
      words = e.words;
      count = e.count ∙ was.count;
      long = length-set c.loop-taken.residuals i c.in-Some-take_short.residual ∙ was.long;
    }
