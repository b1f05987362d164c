use Rattle.std.proofs.Common.{decimal, refl, append_assoc}
use Rattle.command_reports.specs.Lines.{header_lines as lines_of}
use Rattle.command_reports.proofs.lines.header_lines.Goals as goal

pub returns-clause-lines : goal.returns-clause-lines
unfolding lines_of
returns-clause-lines c =
    let header = c.in_ok-put_line.ensures.line (decimal c.args.size) refl in
    rw c.into_bytes.ensures.value
    (rw (
      header,
      c.in_ok-put_coder.ensures.lines,
      c.in_ok-put_weights.ensures.lines,
      c.in_ok-put_prediction.ensures.lines,
      c.in_ok-put_samples.ensures.lines,
      c.in_ok-put_sizes.ensures.lines,
      c.new-text.ensures.bytes,
    )
    (simp append_assoc))
