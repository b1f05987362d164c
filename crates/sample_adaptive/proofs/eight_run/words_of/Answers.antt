use Rattle.std.proofs.Common.{◌≡◌, ◌+◌, ◌<◌, ◌≤◌, ℕ, get_or, min, inl, inr, arith}
use Rattle.std.proofs.lemmas.Bool.{cases_lt, lt-ltb, le-ltb}
use Rattle.lanes.specs.Lanes.{number}
use Rattle.sample_adaptive.specs.Runs.{IsPlainWord, statistics_within, sum_after}
use Rattle.sample_adaptive.specs.Statistics.{code_parameter}
use Rattle.sample_adaptive.proofs.Eights.{lower_parameter_is, small_sum, upper_parameter_is}
use Rattle.sample_adaptive.proofs.eight_run.words_of.Goals as goal

pub where_less-lower-requires-clause-a : goal.where_less-lower-requires-clause-a
where_less-lower-requires-clause-a c j few =
    omega (arith, small_sum _ _ _ _ c.requires.piece c.args.i j few c.requires.within, c.requires.before j few)

pub where_less-lower-requires-clause-b : goal.where_less-lower-requires-clause-b
where_less-lower-requires-clause-b c j few = omega (arith, c.thresholds_of.ensures.small j few)

-- the word of a lane, and its code parameter
word : (c : goal.After-lane_words) (j : ℕ) → j < 8
    → IsPlainWord (code_parameter c.args.run.settings.bits (statistics_within c.args.run.state.statistics c.args.run.residuals.now (c.args.i + j)))
    (min (get_or c.args.run.residuals.now (c.args.i + j) 0) 32767) (number c.lane_words.result.bits j) (number c.lane_words.result.lengths j)
    × (c.args.codes.k ≤ code_parameter c.args.run.settings.bits (statistics_within c.args.run.state.statistics c.args.run.residuals.now (c.args.i + j)))
word c j few =
    let settings = c.args.run.settings in
    let s = c.args.run.state.statistics in
    let residuals = c.args.run.residuals.now in
    let table = c.args.run.thresholds.now in
    let k : ℕ = c.args.codes.k in
    let i : ℕ = c.args.i in
    let piece = c.requires.piece in
    let middle = c.thresholds_of.ensures.lanes j few in
    let before : number c.args.before j ≡ sum_after s residuals (i + j) = c.requires.before j few in
    let there : number c.numbers_at-residuals.result j ≡ get_or residuals (i + j) 0 = c.numbers_at-residuals.ensures.same j few in
    let chosen = c.where_less-lower.ensures j few in
    elim (cases_lt (number c.args.before j) (number c.thresholds_of.result j)) [
      | inl less ↦ (let is = lower_parameter_is settings s table residuals piece k i j few c.requires.within c.requires.kept.k c.requires.neighbours (omega (arith, less, middle, before)) in
          let set = rw (lt-ltb _ _ less) at chosen in
          let made = c.lane_words.ensures.lower j few set in
          (rw (is, ← there) made, omega (arith, is)))
      | inr more ↦ (let is = upper_parameter_is settings s table residuals piece k i j few c.requires.within c.requires.kept.k c.requires.neighbours (omega (arith, more, middle, before)) in
          let clear = rw (le-ltb _ _ more) at chosen in
          let made = c.lane_words.ensures.upper j few clear in
          (rw (is, ← there) made, omega (arith, is)))
    ]

pub returns : goal.returns
returns c = record { word = λ j few. (word c j few).0; parameter = λ j few. (word c j few).1 }
