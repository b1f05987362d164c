use Rattle.std.proofs.Common.{◌≡◌, ◌+◌, ◌-◌, ◌≤◌, ◌++◌, ℕ, List, Bool, length, take, drop, refl, sym, ap, subst, length-take, ◌∙◌, append-nil, append_assoc, arith}
use Rattle.std.proofs.lemmas.List.{take_all}
use Rattle.std.proofs.Math.Seq.{take-add}
use Rattle.sample_adaptive.specs.Statistics.{statistics_from}
use Rattle.sample_adaptive.specs.Runs.{words_from}
use Rattle.sample_adaptive.specs.Taken.{CoderState, Writes, with_band}
use Rattle.sample_adaptive.proofs.Pieces.{statistics_append}
use Rattle.sample_adaptive.proofs.Running.{same_band}
use Rattle.sample_adaptive.proofs.WordsFrom.{words_append, writes_words}
use Rattle.sample_adaptive.proofs.written_run.put_words.Goals as goal

pub loop-i-init : goal.loop-i-init
unfolding words_from statistics_from
loop-i-init c =
    record {
      text = sym (append-nil c.args.writer.bits);
      statistics = refl;
      kept = c.requires.state;
      codes_kept = c.of-codes.ensures.kept;
      within = omega arith;
      room = omega arith;
      still = omega arith;
    }

pub loop-i-preserved : goal.loop-i-preserved
loop-i-preserved c =
    let was = c.loop-i.invariant in
    let h = c.put_piece-after.ensures in
    let settings = c.args.run.settings in
    let s = c.args.run.state.statistics in
    let residuals = c.args.run.residuals.now in
    let i = c.loop-i.i in
    let count = c.min-count.result in
    let first : List ℕ = take i residuals in
    let next : List ℕ = take count (drop i residuals) in
    let part : i + count - i ≡ count = omega arith in
    let long : length next ≤ count = omega (arith, length-take count (drop i residuals)) in
    let text = (rw part at h.text) ∙ ap (λ (bits : List Bool). bits ++ words_from settings c.loop-i.state.statistics next) was.text
    ∙ append_assoc c.args.writer.bits (words_from settings s first) (words_from settings c.loop-i.state.statistics next) in
    record {
      text = rw (take-add i count residuals, words_append settings s first next, ← was.statistics) text;
      statistics = rw (take-add i count residuals, statistics_append settings.rescaling.size s first next, ← was.statistics) (rw part at h.statistics);
      kept = h.state;
      codes_kept = h.kept;
      within = omega (arith, c.loop-i-test.true, c.min-count.ensures);
      room = omega (arith, was.room, rw part at h.room, long);
      still = omega (arith, was.still, h.still);
    }

pub returns-clause-written : goal.returns-clause-written
returns-clause-written c = λ v z t k within has own some.
    let was = c.loop-i.invariant in
    let residuals = c.args.run.residuals.now in
    let all = take_all c.loop-i.i residuals (omega (arith, c.loop-i-test.false)) in
    let s = c.args.run.state.statistics in
    let settings = c.args.run.settings in
    let words = writes_words settings v z t k s residuals c.args.writer.bits within has some in
    rw (was.text, was.statistics, all)
    (subst (λ (w : CoderState). Writes (λ j. z) (λ j. t + j) k residuals w c.args.writer.bits
    (with_band v z (statistics_from settings.rescaling.size s residuals)) (c.args.writer.bits ++ words_from settings s residuals)) (same_band v z s (sym own)) words)
