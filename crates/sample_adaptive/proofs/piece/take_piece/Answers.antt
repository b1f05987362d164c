use Rattle.std.proofs.Common.{◌≡◌, ◌+◌, ◌<◌, ◌^◌, ◌∙◌, ℕ, refl, ap, arith}
use Rattle.header_bits.specs.Bits.{Unread}
use Rattle.sample_adaptive.specs.declared.statistics.Statistics.{Statistics}
use Rattle.sample_adaptive.specs.Taken.{with_band}
use Rattle.sample_adaptive.proofs.Alike.{same_front}
use Rattle.sample_adaptive.proofs.PieceEnds.{within_piece, statistics_counted}
use Rattle.sample_adaptive.proofs.piece.take_piece.Goals as goal

pub loop-taken-init : goal.loop-taken-init
loop-taken-init c =
    let none : c.args.i + 0 ≡ c.args.i = omega arith in
    record {
      taken = λ v z t k index first within settings some was.
          rw (none, within_piece c.args.settings.rescaling.size c.args.statistics.now c.requires.statistics.most) was;
      few = omega arith;
      counter = omega arith;
      statistics = statistics_counted _ _ c.requires.statistics;
      words = c.requires.words;
      most = refl;
      count = refl;
      long = refl;
    }

-- where the next words were read singly
pub loop-taken-preserved : goal.loop-taken-preserved
loop-taken-preserved c =
    let inv = c.loop-taken.invariant in
    let size = c.args.settings.rescaling.size in
    let s : Statistics = c.loop-taken.statistics in
    let i : ℕ = c.args.i + c.loop-taken.taken in
    let inside : s.counter < 2 ^ size =
    omega (arith, c.loop-taken-test.true, inv.counter, c.words_left-whole.ensures.before, c.args.words.now.together_in) in
    let e = c.take_few_on_copies-some.ensures in
    let next : c.args.i + (c.loop-taken.taken + c.take_few_on_copies-some.result) ≡ i + c.take_few_on_copies-some.result = omega arith in
    let all : c.take_few_on_copies-some.result ≡ c.args.words.now.together = omega (arith, c.if-some-together.false, e.few) in
    record {
      taken = λ v z t k index first within settings some was.
          let there = same_front (λ i. z) (λ i. t + i) k index i v (with_band v z s) first c.take_together-kept.new.reader c.loop-taken.residuals c.take_together-kept.new.residuals
          c.take_together-kept.ensures.before (rw c.in_default.ensures.same (rw (within_piece size s inside) at (inv.taken v z t k index first within settings some was))) in
          rw next (e.taken v z t k index first within settings some there);
      few = omega (arith, c.loop-taken-test.true, e.few);
      counter = omega (arith, e.counter, inv.counter);
      statistics = e.statistics;
      words = e.words;
      most = e.most all ∙ inv.most;
      count = e.count ∙ c.take_together-kept.ensures.count ∙ inv.count;
      long = e.long ∙ c.take_together-kept.ensures.long ∙ inv.long;
    }

-- where a word isn't short
pub returns-then-some-together-clause-taken : goal.returns-then-some-together-clause-taken
returns-then-some-together-clause-taken c =
    let inv = c.loop-taken.invariant in
    let size = c.args.settings.rescaling.size in
    let s : Statistics = c.loop-taken.statistics in
    let i : ℕ = c.args.i + c.loop-taken.taken in
    let inside : s.counter < 2 ^ size =
    omega (arith, c.loop-taken-test.true, inv.counter, c.words_left-whole.ensures.before, c.args.words.now.together_in) in
    let next : c.args.i + (c.loop-taken.taken + c.take_few_on_copies-some.result) ≡ i + c.take_few_on_copies-some.result = omega arith in
    λ v z t k index first within settings some was.
    let there = same_front (λ i. z) (λ i. t + i) k index i v (with_band v z s) first c.take_together-kept.new.reader c.loop-taken.residuals c.take_together-kept.new.residuals
    c.take_together-kept.ensures.before (rw c.in_default.ensures.same (rw (within_piece size s inside) at (inv.taken v z t k index first within settings some was))) in
    rw (c.piece_ended.ensures.value, next) (c.take_few_on_copies-some.ensures.taken v z t k index first within settings some there)

pub returns-then-taken-whole-clause-taken : goal.returns-then-taken-whole-clause-taken
returns-then-taken-whole-clause-taken c = λ v z t k index first within settings some was.
    rw c.piece_ended-then-taken-whole.ensures.value (c.loop-taken.invariant.taken v z t k index first within settings some was)

-- fewer words, at the end of the piece or of the residuals
pub returns-clause-taken : goal.returns-clause-taken
returns-clause-taken c = λ v z t k index first within settings some was.
    let inv = c.loop-taken.invariant in
    let size = c.args.settings.rescaling.size in
    let before = inv.taken v z t k index first within settings some was in
    let inside : c.loop-taken.statistics.counter < 2 ^ size = omega (arith, inv.counter, inv.few, c.if-taken-whole.false, c.words_left-whole.ensures.before) in
    let next : c.args.i + (c.loop-taken.taken + c.take_few-rest.result) ≡ c.args.i + c.loop-taken.taken + c.take_few-rest.result = omega arith in
    rw (c.piece_ended-2.ensures.value, next)
    (c.take_few-rest.ensures.taken v z t k index first within settings some (rw (within_piece size c.loop-taken.statistics inside) at before))

-- where the next words were read together
pub loop-taken-preserved-in-Some : goal.loop-taken-preserved-in-Some
loop-taken-preserved-in-Some c =
    let inv = c.loop-taken.invariant in
    let size = c.args.settings.rescaling.size in
    let inside : c.loop-taken.statistics.counter < 2 ^ size =
    omega (arith, c.loop-taken-test.true, inv.counter, c.words_left-whole.ensures.before, c.args.words.now.together_in) in
    let e = c.in-Some.ensures in
    let next : c.args.i + (c.loop-taken.taken + c.args.words.now.together) ≡ c.args.i + c.loop-taken.taken + c.args.words.now.together = omega arith in
    record {
      taken = λ v z t k index first within settings some was. rw next (e.taken v z t k index first within settings some
          (rw (within_piece size c.loop-taken.statistics inside) at (inv.taken v z t k index first within settings some was)));
      few = c.loop-taken-test.true;
      counter = omega (arith, inv.counter);
      statistics = e.statistics;
      words = inv.words;
      most = inv.most;
      count = e.count ∙ inv.count;
      long = e.long ∙ inv.long;
    }

pub returns-then-some-together-clause-count : goal.returns-then-some-together-clause-count
returns-then-some-together-clause-count c =
    c.take_few_on_copies-some.ensures.count ∙ ap (λ (r : Unread). r.count) c.in_default.ensures.same ∙ c.loop-taken.invariant.count

pub returns-then-some-together-clause-long : goal.returns-then-some-together-clause-long
returns-then-some-together-clause-long c = c.take_few_on_copies-some.ensures.long ∙ c.take_together-kept.ensures.long ∙ c.loop-taken.invariant.long

pub returns-then-taken-whole-clause-long : goal.returns-then-taken-whole-clause-long
returns-then-taken-whole-clause-long c = c.loop-taken.invariant.long
