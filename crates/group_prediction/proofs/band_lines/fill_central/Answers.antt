use Rattle.std.proofs.Common.{◌≡◌, ◌+◌, ◌<◌, pos, get_or, slice_index, sym, ap, arith, ◌∙◌, ℕ}
use Rattle.std.proofs.lemmas.Int.{ints}
use Rattle.cube_core.specs.Image.{IsPlace}
use Rattle.sample_prediction.specs.Lines.{line_sum}
use Rattle.group_prediction.proofs.GroupLines.{sum_small, central_small, taken_at, difference_told}
use Rattle.group_prediction.proofs.band_lines.fill_central.Goals as goal
use Rattle.group_prediction.proofs.band_lines.fill_central.Goals.{After-fill_differences}

module _ (c : After-fill_differences) (i : ℕ) (l : i < c.args.run.now.count) (h : 0 < c.args.run.now.y + (c.args.run.now.x + i)) where
  there : IsPlace c.args.run.now.image.shape c.args.z c.args.run.now.y (c.args.run.now.x + i)
  there = record { band = c.requires.run.place.band; row = c.requires.run.place.row; column = omega (arith, l, c.requires.run.inside) }

  sums_told : get_or c.fill_sums.new.sums i (pos 0)
      ≡ pos (line_sum c.is_column.result c.fill_run_lines.new.lines.current c.fill_run_lines.new.lines.above i)
  sums_told =
      c.fill_sums.ensures i (let f = c.requires.run.few in omega (arith, l, f))
      (sum_small c.args.predictor.now c.args.run.now.image c.prove_is_row.ensures.cube c.requires.bits c.args.z c.args.run.now.y (c.args.run.now.x + i) h c.requires.wide there _
      (rw (c.is_column.ensures, c.y.ensures) (c.fill_run_lines.ensures.sum i l h)))

pub returns-clause-sums : goal.returns-clause-sums
returns-clause-sums c i l h = rw (c.is_column.ensures, c.y.ensures) at (sums_told c i l h)

pub returns-clause-sums_are : goal.returns-clause-sums_are
returns-clause-sums_are c i l h = rw (sums_told c i l h, c.is_column.ensures, c.y.ensures) (sym (c.fill_run_lines.ensures.sum i l h))

pub returns-clause-own_are : goal.returns-clause-own_are
returns-clause-own_are c i l h =
    let within : i < 64 = (let f = c.requires.run.few in omega (arith, l, f)) in
    let small = central_small c.args.predictor.now c.args.run.now.image c.prove_is_row.ensures.cube c.requires.bits c.args.z c.args.run.now.y (c.args.run.now.x + i) h c.requires.wide (there c i l h) in
    let told = rw (c.is_column.ensures, c.y.ensures) at (sums_told c i l h) in
    difference_told _ _ _ _ _ _ told (taken_at c.fill_run_lines.new.lines.current 1 i within ∙ ap (λ k. slice_index c.fill_run_lines.new.lines.current k) (omega arith))
    (c.fill_run_lines.ensures.central i l h) small (c.fill_differences.ensures i within (rw told (omega (arith, ints))))
