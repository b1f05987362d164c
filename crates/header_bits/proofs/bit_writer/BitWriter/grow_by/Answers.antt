use Rattle.std.proofs.Common.{arith, ap}
use Rattle.header_bits.proofs.Pushes.{written_length}
use Rattle.header_bits.proofs.bit_writer.BitWriter.grow_by.Goals as goal

pub returns-then-bits-bit_count-clause-within : goal.returns-then-bits-bit_count-clause-within
returns-then-bits-bit_count-clause-within c =
    λ h. absurd (omega (arith, h, ap (λ w. w.room) c.self.view_is, written_length _ _ c.self.inside.part _ (ap (λ w. w.bits) c.self.view_is)))

pub returns-clause-room : goal.returns-clause-room
returns-clause-room c =
    omega (arith, c.in_ok-grow.ensures.room, c.in_ok-grow.ensures.len, written_length _ _ c.self.inside.part _ (ap (λ w. w.bits) c.self.view_is))

pub returns-in_err-grow-clause-bounded : goal.returns-in_err-grow-clause-bounded
returns-in_err-grow-clause-bounded c = omega (
  arith,
  c.in_err-grow.ensures.bounded,
  c.in_err-grow.ensures.len,
  ap (λ w. w.room) c.self.view_is,
  written_length _ _ c.self.inside.part _ (ap (λ w. w.bits) c.self.view_is),
)

pub returns-clause-bounded : goal.returns-clause-bounded
returns-clause-bounded c = omega (
  arith,
  c.in_ok-grow.ensures.bounded,
  c.in_ok-grow.ensures.len,
  ap (λ w. w.room) c.self.view_is,
  written_length _ _ c.self.inside.part _ (ap (λ w. w.bits) c.self.view_is),
)

pub overflow_add-more : goal.overflow_add-more
overflow_add-more c = omega arith

pub overflow_add-more-2 : goal.overflow_add-more-2
overflow_add-more-2 c = omega arith

pub returns-in_err-grow-clause-within : goal.returns-in_err-grow-clause-within
returns-in_err-grow-clause-within c = grind arith
