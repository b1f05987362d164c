use Rattle.std.proofs.Common.{codes, decimal, append_assoc}
use Rattle.command_reports.specs.Lines.{size_lines}
use Rattle.command_reports.proofs.Named.{at_last, named}
use Rattle.command_reports.proofs.lines.put_sizes.Goals as goal

pub returns-clause-lines : goal.returns-clause-lines
unfolding size_lines
returns-clause-lines c =
    let user = named (codes "user") (decimal c.args.params.now.user) _ _ c.in_ok-put_number.ensures.line in
    let columns = named (codes "columns") (decimal c.columns.result) _ _ c.in_ok-put_number-2.ensures.line in
    let rows = named (codes "rows") (decimal c.rows.result) _ _ c.in_ok-put_number-3.ensures.line in
    at_last c.put_number-4.result _ _ c.put_number-4.ensures.line (λ last.
    let bands = named (codes "bands") (decimal c.bands.result) _ _ last in
    rw (bands, c.bands.ensures.value, rows, c.rows.ensures.value, columns, c.columns.ensures.value, user) (simp append_assoc))
