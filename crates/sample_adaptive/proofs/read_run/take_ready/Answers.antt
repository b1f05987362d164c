use Rattle.std.proofs.Common.{◌∙◌, refl, sym, arith}
use Rattle.sample_adaptive.specs.Statistics.{AreStatistics}
use Rattle.sample_adaptive.specs.Pieces.{AreWordsOf}
use Rattle.sample_adaptive.proofs.Counting.{counter_range}
use Rattle.sample_adaptive.proofs.Running.{same_band}
use Rattle.sample_adaptive.proofs.PlacesRead.{starts}
use Rattle.sample_adaptive.proofs.read_run.take_ready.Goals as goal
use Rattle.sample_adaptive.proofs.read_run.take_ready.Goals.{Left-loop-i, else-loop-i-test, then-loop-i-test+else-taken-gt0+then-taken-eq0}

pub loop-i-init : goal.loop-i-init
loop-i-init c =
    rw (c.fork-ahead.ensures, c.words_of-words.ensures.code) (record {
      taken = λ v z t k within settings own some. starts (same_band v z _ (sym own));
      statistics = c.requires.state.statistics;
      words = record { limit = refl; bits = refl; k = c.requires.state.k };
      count = refl;
      long = refl;
      inside = omega arith;
    })

pub loop-i-preserved-then-taken-gt0 : goal.loop-i-preserved-then-taken-gt0
loop-i-preserved-then-taken-gt0 c =
    let was = c.loop-i.invariant in
    let e = c.take_piece-taken.ensures in
    record {
      taken = λ v z t k within settings own some. e.taken v z t k c.args.index c.args.reader.now within settings some (was.taken v z t k within settings own some);
      statistics = e.statistics;
      words = e.words;
      count = e.count ∙ was.count;
      long = e.long ∙ was.long;
      inside = e.within;
    }

pub loop-i-preserved : goal.loop-i-preserved
loop-i-preserved c =
    let was = c.loop-i.invariant in
    let one = c.take_piece-taken.ensures in
    let more = c.take_some_on_copies-taken.ensures in
    record {
      taken = λ v z t k within settings own some.
          let before = one.taken v z t k c.args.index c.args.reader.now within settings some (was.taken v z t k within settings own some) in
          more.taken v z t k c.args.index c.args.reader.now within settings some refl before;
      statistics = more.statistics;
      words = more.words;
      count = more.count ∙ one.count ∙ was.count;
      long = more.long ∙ one.long ∙ was.long;
      inside = more.within;
    }

pub returns-clause-taken : goal.returns-clause-taken
returns-clause-taken c = λ v z t k within settings own some.
    let was = c.loop-i.invariant.taken v z t k within settings own some in
    elim c.loop-i-test.branch [
      | else-loop-i-test w ↦ rw (c.with_parameter.ensures.statistics, w.residuals-is, w.statistics-is, w.ahead-is, w.i-is) was
      | then-loop-i-test+else-taken-gt0+then-taken-eq0 w ↦
          (let before = w.take_piece-taken.ensures.taken v z t k c.args.index c.args.reader.now within settings some was in
          let after = w.take_some_on_copies-taken.ensures.taken v z t k c.args.index c.args.reader.now within settings some refl in
          rw (c.with_parameter.ensures.statistics, w.residuals-is, w.statistics-is, w.ahead-is, w.i-is) (after before))
    ]

statistics_left : (c : Left-loop-i) → AreStatistics c.args.settings.rescaling.size c.loop-i-test.statistics
statistics_left c = elim c.loop-i-test.branch [
  | else-loop-i-test w ↦ rw w.statistics-is c.loop-i.invariant.statistics
  | then-loop-i-test+else-taken-gt0+then-taken-eq0 w ↦ rw w.statistics-is w.take_some_on_copies-taken.ensures.statistics
]

words_left : (c : Left-loop-i) → AreWordsOf c.args.settings c.loop-i-test.words.code
words_left c = elim c.loop-i-test.branch [
  | else-loop-i-test w ↦ rw w.words-is c.loop-i.invariant.words
  | then-loop-i-test+else-taken-gt0+then-taken-eq0 w ↦ rw w.words-is w.take_some_on_copies-taken.ensures.words
]

pub with_parameter-requires : goal.with_parameter-requires
with_parameter-requires c = (
  omega (arith, (words_left c).k, c.args.settings.bits_in),
  (counter_range _ _ c.args.settings.rescaling.size_in.1 (statistics_left c)).1,
)

pub returns-clause-state : goal.returns-clause-state
returns-clause-state c =
    let d = (goal.at.returns-clause-state c).Left-loop-i in
    c.with_parameter.ensures.state c.args.settings (statistics_left d) (words_left d).k

pub returns-clause-within : goal.returns-clause-within
returns-clause-within c = elim c.loop-i-test.branch [
  | else-loop-i-test w ↦ rw (w.i-is, w.residuals-is) c.loop-i.invariant.inside
  | then-loop-i-test+else-taken-gt0+then-taken-eq0 w ↦ rw (w.i-is, w.residuals-is) w.take_some_on_copies-taken.ensures.within
]

pub returns-clause-count : goal.returns-clause-count
returns-clause-count c = elim c.loop-i-test.branch [
  | else-loop-i-test w ↦ rw w.ahead-is c.loop-i.invariant.count
  | then-loop-i-test+else-taken-gt0+then-taken-eq0 w ↦
      rw w.ahead-is (w.take_some_on_copies-taken.ensures.count ∙ w.take_piece-taken.ensures.count ∙ c.loop-i.invariant.count)
]

pub returns-clause-long : goal.returns-clause-long
returns-clause-long c = elim c.loop-i-test.branch [
  | else-loop-i-test w ↦ rw w.residuals-is c.loop-i.invariant.long
  | then-loop-i-test+else-taken-gt0+then-taken-eq0 w ↦
      rw w.residuals-is (w.take_some_on_copies-taken.ensures.long ∙ w.take_piece-taken.ensures.long ∙ c.loop-i.invariant.long)
]
