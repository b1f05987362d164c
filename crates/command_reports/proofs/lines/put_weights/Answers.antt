use Rattle.std.proofs.Common.{codes, decimal, append_assoc, SFits, w32, to_z-of_z, arith}
use Rattle.std.proofs.lemmas.Int.{ints}
use Rattle.std.specs.Fmt.{signed_decimal}
use Rattle.command_reports.specs.Lines.{start_text, weight_lines}
use Rattle.command_reports.proofs.Named.{at_last, named, shown}
use Rattle.command_reports.proofs.lines.put_weights.Goals as goal

pub returns-clause-lines : goal.returns-clause-lines
unfolding weight_lines
returns-clause-lines c =
    let p = c.args.params.now in
    let interval = named (codes "interval") (decimal c.interval.result) _ _ c.in_ok-put_number.ensures.line in
    let least : SFits w32 p.vmin = omega (arith, ints, c.requires.vmin) in
    let greatest : SFits w32 p.vmax = omega (arith, ints, c.requires.vmax) in
    let vmin = named (codes "vmin") (signed_decimal p.vmin) _ _
    (c.in_ok-put_line.ensures.line (signed_decimal p.vmin) (shown _ _ (simp (to_z-of_z least) at c.in_ok-signed_text.ensures.text))) in
    let vmax = named (codes "vmax") (signed_decimal p.vmax) _ _
    (c.in_ok-put_line-2.ensures.line (signed_decimal p.vmax) (shown _ _ (simp (to_z-of_z greatest) at c.in_ok-signed_text-2.ensures.text))) in
    at_last c.put_line-3.result _ _ c.put_line-3.ensures.line (λ last.
    let start = named (codes "start") (start_text p.start) _ _ (last (start_text p.start) (shown _ _ c.in_ok-start_text.ensures.text)) in
    rw (start, vmax, vmin, interval, c.interval.ensures) (simp append_assoc))
