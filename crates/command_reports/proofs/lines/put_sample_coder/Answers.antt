use Rattle.std.proofs.Common.{append_assoc}
use Rattle.command_reports.specs.Lines.{constant_text, coder_lines}
use Rattle.command_reports.proofs.Named.{at_last, shown}
use Rattle.command_reports.proofs.lines.put_sample_coder.Goals as goal

pub returns-clause-lines : goal.returns-clause-lines
unfolding coder_lines
returns-clause-lines c =
    at_last c.put_line.result _ _ c.put_line.ensures.line (λ last.
    let k = last (constant_text c.args.start.now) (shown _ _ c.in_ok-constant_text.ensures.text) in
    rw (k, c.in_ok-put_number-3.ensures.line, c.in_ok-put_number-2.ensures.line, c.in_ok-put_number.ensures.line) (simp append_assoc))
