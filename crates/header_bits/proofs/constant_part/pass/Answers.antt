use Rattle.std.proofs.Common.{◌≡◌, arith, sym, ◌∙◌, ◌*◌}
use Rattle.std.proofs.lemmas.List.{length-drop}
use Rattle.std.proofs.lemmas.Result.{err_from_is_err_and}
use Rattle.header_bits.specs.Layout.{total}
use Rattle.header_bits.specs.TableParts.{table_fields}
use Rattle.header_bits.proofs.TableNumbers.{total_table}
use Rattle.header_bits.proofs.TablePassing.{constants_absent, constants_short, constants_entry, constants_passed}
use Rattle.header_bits.proofs.constant_part.pass.Goals as goal
use Rattle.header_bits.proofs.constant_part.pass.Goals.{After-table_bits}

-- how many bits the table takes, with a constant for each band
size : (c : After-table_bits) → c.table_bits.result ≡ total (table_fields c.args.image.now.shape.bands 4)
size c = rw c.bands-bands.ensures.value at c.table_bits.ensures.total

pub returns-then-not-has_table : goal.returns-then-not-has_table
returns-then-not-has_table c = constants_absent _ _ _ _ (sym c.has_table.ensures ∙ c.if-not-has_table.true)

pub returns-then-left-table_bits : goal.returns-then-left-table_bits
returns-then-left-table_bits c =
    constants_short _ _ _ _ (sym c.has_table.ensures ∙ c.if-not-has_table.false) (omega (arith, size (goal.at.returns-then-left-table_bits c).After-table_bits))

pub pass_constants-requires : goal.pass_constants-requires
pass_constants-requires c = record { whole = omega (arith, total_table c.bands-bands.result 4) }

pub returns-in_err-pass_constants : goal.returns-in_err-pass_constants
returns-in_err-pass_constants c =
    let p = err_from_is_err_and c.from_residual.result c.from_residual.ensures.1 in
    let bad = rw (c.bands-bands.ensures.value, c.bits.ensures.value) at c.in_err-pass_constants.ensures.test in
    rw (p.1, p.2) (constants_entry _ _ _ _ _ (sym c.has_table.ensures ∙ c.if-not-has_table.false)
    (omega (arith, size (goal.at.returns-in_err-pass_constants c).After-table_bits)) (sym bad))

pub pass_fill-requires-clause-whole : goal.pass_fill-requires-clause-whole
pass_fill-requires-clause-whole c =
    let fill = rw c.number_bits-bits.ensures.value at c.fill_of.ensures.value in
    rw c.in_ok-pass_constants.ensures.left
    (omega (arith, length-drop (c.bands-bands.result * 4) c.args.reader.now.left, total_table c.bands-bands.result 4, fill))

pub returns : goal.returns
returns c =
    let good = rw (c.bands-bands.ensures.value, c.bits.ensures.value) at c.in_ok-pass_constants.ensures.test in
    let fill =
    rw (c.fill_of.ensures.value, c.in_ok-pass_constants.ensures.left, c.number_bits-bits.ensures.value, c.bands-bands.ensures.value) at c.pass_fill.ensures in
    constants_passed _ _ _ _ _ _ (sym c.has_table.ensures ∙ c.if-not-has_table.false) (omega (arith, size (goal.at.returns c).After-table_bits))
    (sym good) fill.test fill.left
