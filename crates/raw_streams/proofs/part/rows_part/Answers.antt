use Rattle.std.proofs.Common.{◌≡◌, ◌+◌, ◌*◌, ◌≤◌, ℕ, arith, ap, ◌∙◌}
use Rattle.std.proofs.lemmas.Nat.{mul-le}
use Rattle.cube_core.specs.Parts.{unit_count, unit_of}
use Rattle.raw_streams.specs.Rows.{rows_in, samples_in_row}
use Rattle.raw_streams.proofs.part.rows_part.Goals as goal

-- some rows are among so many rows of as many units
rows_are_part : (y count rows units all : ℕ) → y + count ≤ rows → rows * units ≡ all → y * units + count * units ≤ all
rows_are_part y count rows units all more whole =
    let low : (y + count) * units ≤ rows * units = mul-le (y + count) units rows units more (omega arith) in
    let sum : (y + count) * units ≡ y * units + count * units = grind arith in
    omega (arith, low, sum, whole)

rows_size : (y units unit size : ℕ) → units * unit ≡ size → y * units * unit ≡ y * size
rows_size y units unit size row = let same : y * units * unit ≡ y * (units * unit) = grind arith in same ∙ ap (λ (n : ℕ). y * n) row

pub returns-clause-part : goal.returns-clause-part
returns-clause-part c = rw c.from-units.ensures (rows_are_part c.args.y c.args.count (rows_in c.args.shape c.args.layout) c.row_units.result
    (unit_count c.args.layout.order c.args.shape) c.requires.inside c.row_units.ensures.all)

pub returns-clause-first : goal.returns-clause-first
returns-clause-first c = rw c.from-units.ensures (rows_size c.args.y c.row_units.result (unit_of c.args.layout.order c.args.shape)
    (samples_in_row c.args.shape c.args.layout) c.row_units.ensures.row)

pub returns-clause-samples : goal.returns-clause-samples
returns-clause-samples c = rw c.from-units.ensures (rows_size c.args.count c.row_units.result (unit_of c.args.layout.order c.args.shape)
    (samples_in_row c.args.shape c.args.layout) c.row_units.ensures.row)
