use Rattle.std.proofs.Common.{codes, decimal, append_assoc}
use Rattle.command_reports.specs.Lines.{choice, coder_text, order_text, sample_lines}
use Rattle.command_reports.proofs.Named.{at_last, named, shown}
use Rattle.command_reports.proofs.lines.put_samples.Goals as goal

pub returns-clause-lines : goal.returns-clause-lines
unfolding sample_lines
returns-clause-lines c =
    let p = c.args.params.now in
    let sample = named (codes "sample") (choice c.is_signed.result (codes "signed") (codes "unsigned")) _ _ c.in_ok-put_flag.ensures.line in
    let bits = named (codes "bits") (decimal c.bits.result) _ _ c.in_ok-put_number.ensures.line in
    let order =
    named (codes "order") (order_text p.order) _ _ (c.in_ok-put_line.ensures.line (order_text p.order) (shown _ _ c.in_ok-order_text.ensures.text)) in
    let word = named (codes "word") (decimal p.word) _ _ c.in_ok-put_number-2.ensures.line in
    at_last c.put_line-2.result _ _ c.put_line-2.ensures.line (λ last.
    let coder = named (codes "coder") (coder_text p.coder) _ _ (last (coder_text p.coder) (shown _ _ c.coder_text.ensures)) in
    rw (coder, word, order, bits, c.bits.ensures.value, sample, c.is_signed.ensures) (simp append_assoc))
