use Rattle.std.proofs.Common.{◌≡◌, ◌⊎◌, ℕ, arith}
use Rattle.cube_core.specs.Shape.{InRange}
use Rattle.command_words.proofs.Refused.{passed}
use Rattle.command_words.proofs.words.layout.Goals as goal

one_or_two : (n : ℕ) → (n ≡ 1) ⊎ (n ≡ 2) → InRange 1 2 n
one_or_two n h = (omega (arith, h), omega (arith, h))

pub returns-in_err-raw_order-clause-refused : goal.returns-in_err-raw_order-clause-refused
returns-in_err-raw_order-clause-refused c =
    passed _ _ _ c.from_residual.ensures.1 (c.in_err-raw_order.ensures.refused.0, λ l of range. c.in_err-raw_order.ensures.refused.1 l.order of.order)

pub returns-in_err-number_in-clause-refused : goal.returns-in_err-number_in-clause-refused
returns-in_err-number_in-clause-refused c = passed _ _ _ c.from_residual-in_err-number_in.ensures.1
    (c.in_err-number_in.ensures.refused.0, λ l of range. c.in_err-number_in.ensures.refused.1 l.bytes of.bytes (one_or_two l.bytes range))
