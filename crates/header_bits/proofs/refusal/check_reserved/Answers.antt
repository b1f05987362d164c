use Rattle.std.proofs.Common.{sym, ap, ◌+◌, ◌∙◌, Err, ℕ}
use Rattle.cube_core.specs.declared.fault.Fault.TheVariants.{Reserved}
use Rattle.header_bits.proofs.ReservedBits.{reserved_next, reserved_found, reserved_done}
use Rattle.header_bits.proofs.refusal.check_reserved.Goals as goal

pub returns-then-value-n-ne0 : goal.returns-then-value-n-ne0
returns-then-value-n-ne0 c =
    ap (λ (k : ℕ). Err (Reserved (c.args.at + k))) c.from.ensures ∙ sym (reserved_found _ _ _ _ _ c.loop-i-test.true c.loop-i.invariant c.if-value-n-ne0.true)

pub loop-i-preserved : goal.loop-i-preserved
loop-i-preserved c = reserved_next c.args.at c.args.n c.loop-i.i c.args.value _ c.loop-i-test.true c.loop-i.invariant c.if-value-n-ne0.false

pub returns : goal.returns
returns c = sym (reserved_done c.args.at c.args.n c.loop-i.i c.args.value _ c.loop-i-test.false c.loop-i.invariant)
