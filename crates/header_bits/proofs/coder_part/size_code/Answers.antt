use Rattle.std.proofs.Common.{sym, refl, arith}
use Rattle.std.proofs.lemmas.Bool.{ne_eqb}
use Rattle.header_bits.proofs.coder_part.size_code.Goals as goal

pub returns : goal.returns
returns c = rw (
  ne_eqb c.args.size 8 (λ e. c.loop-code.invariant 0 (omega (arith, c.loop-code-test.false)) (sym e)),
  ne_eqb c.args.size 16 (λ e. c.loop-code.invariant 1 (omega (arith, c.loop-code-test.false)) (sym e)),
  ne_eqb c.args.size 32 (λ e. c.loop-code.invariant 2 (omega (arith, c.loop-code-test.false)) (sym e)),
) refl
