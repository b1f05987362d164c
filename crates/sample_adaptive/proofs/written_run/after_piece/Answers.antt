use Rattle.std.proofs.Common.{◌≡◌, suc, ◌+◌, ◌-◌, ◌*◌, ◌^◌, length, sym, ap, ◌∙◌, arith}
use Rattle.std.proofs.lemmas.Nat.{pow_pos}
use Rattle.std.proofs.Math.Nat.{pow-succ'}
use Rattle.sample_adaptive.proofs.Pieces.{counts_within, halves_at_end}
use Rattle.sample_adaptive.proofs.written_run.after_piece.Goals as goal

pub returns-then-counter-rescaling-clause-value : goal.returns-then-counter-rescaling-clause-value
returns-then-counter-rescaling-clause-value c = λ residuals long is.
    rw (← long, is) (sym (counts_within c.args.rescaling.size c.args.s residuals (omega (arith, c.if-counter-rescaling.true, c.args.rescaling.greatest_is, long, c.requires.statistics))))

pub returns-clause-value : goal.returns-clause-value
returns-clause-value c = λ residuals long is.
    let full : c.args.s.counter + length residuals ≡ 2 ^ c.args.rescaling.size =
    omega (arith, c.if-counter-rescaling.false, c.args.rescaling.greatest_is, long, c.requires.piece) in
    rw (← long, full, is) (sym (halves_at_end c.args.rescaling.size c.args.s residuals (omega (arith, long, c.requires.piece)) full))

pub returns-clause-statistics : goal.returns-clause-statistics
returns-clause-statistics c =
    let size = c.args.rescaling.size in
    let e : suc (size - 1) ≡ size = omega (arith, c.args.rescaling.size_in) in
    let twice : 2 ^ size ≡ 2 * 2 ^ (size - 1) = ap (λ k. 2 ^ k) (sym e) ∙ pow-succ' 2 (size - 1) in
    let some = pow_pos (size - 1) in
    let full : c.args.s.counter + c.args.count ≡ 2 ^ size = omega (arith, c.if-counter-rescaling.false, c.args.rescaling.greatest_is, c.requires.piece) in
    record { least = omega (arith, full, twice, some); most = omega (arith, full, twice, some); bound = omega (arith, full, twice, c.requires.accumulator) }
