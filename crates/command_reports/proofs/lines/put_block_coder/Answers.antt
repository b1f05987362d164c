use Rattle.std.proofs.Common.{codes, decimal, append_assoc}
use Rattle.command_reports.specs.Lines.{choice, coder_lines}
use Rattle.command_reports.proofs.Named.{at_last, named}
use Rattle.command_reports.proofs.lines.put_block_coder.Goals as goal

pub returns-clause-lines : goal.returns-clause-lines
unfolding coder_lines
returns-clause-lines c =
    let restricted = named (codes "restricted") (choice c.args.restricted (codes "yes") (codes "no")) _ _ c.in_ok-put_flag.ensures.line in
    at_last c.put_number-2.result _ _ c.put_number-2.ensures.line (λ last.
    let reference = named (codes "reference") (decimal c.args.reference) _ _ last in
    rw (reference, restricted, c.in_ok-put_number.ensures.line) (simp append_assoc))
