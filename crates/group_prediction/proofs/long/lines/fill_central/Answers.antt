use Rattle.std.proofs.Common.{pos, ◌+ℤ◌, ◌*ℤ◌, sym, ap, arith, ◌∙◌}
use Rattle.cube_core.specs.Kind.{smin}
use Rattle.group_prediction.proofs.long.lines.fill_central.Goals as goal

pub returns-clause-sums : goal.returns-clause-sums
returns-clause-sums c i l h = rw (c.is_column.ensures, c.y.ensures) at (c.fill_own.ensures.sums i (let f = c.requires.run.few in omega (arith, l, f)))

pub returns-clause-sums_are : goal.returns-clause-sums_are
returns-clause-sums_are c i l h =
    let told = rw (c.is_column.ensures, c.y.ensures) at (c.fill_own.ensures.sums i (let f = c.requires.run.few in omega (arith, l, f))) in
    ap (λ s. pos 4 *ℤ smin c.args.run.now.image.kind +ℤ s) told ∙ sym (c.fill_run_lines.ensures.sum i l h)

pub returns-clause-own_are : goal.returns-clause-own_are
returns-clause-own_are c i l h =
    let told = rw (c.is_column.ensures, c.y.ensures) at (c.fill_own.ensures.own i (let f = c.requires.run.few in omega (arith, l, f))) in
    told ∙ sym (c.fill_run_lines.ensures.central i l h)
