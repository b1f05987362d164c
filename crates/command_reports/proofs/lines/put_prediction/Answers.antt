use Rattle.std.proofs.Common.{codes, decimal, append_assoc}
use Rattle.command_reports.specs.Lines.{choice, prediction_lines}
use Rattle.command_reports.proofs.Named.{at_last, named}
use Rattle.command_reports.proofs.lines.put_prediction.Goals as goal

pub returns-clause-lines : goal.returns-clause-lines
unfolding prediction_lines
returns-clause-lines c =
    let p = c.args.params.now in
    let previous = named (codes "previous") (decimal p.previous) _ _ c.in_ok-put_number.ensures.line in
    let mode = named (codes "mode") (choice p.reduced (codes "reduced") (codes "full")) _ _ c.in_ok-put_flag.ensures.line in
    let sums = named (codes "sums") (choice p.column (codes "column") (codes "neighbour")) _ _ c.in_ok-put_flag-2.ensures.line in
    let register = named (codes "register") (decimal p.register) _ _ c.in_ok-put_number-2.ensures.line in
    at_last c.put_number-3.result _ _ c.put_number-3.ensures.line (λ last.
    let omega_line = named (codes "omega") (decimal p.omega) _ _ last in
    rw (omega_line, register, sums, mode, previous) (simp append_assoc))
