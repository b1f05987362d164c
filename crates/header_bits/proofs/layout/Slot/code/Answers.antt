use Rattle.std.proofs.Common.{arith}
use Rattle.header_bits.proofs.layout.Slot.code.Goals as goal

pub returns-in-Plain-clause-code : goal.returns-in-Plain-clause-code
returns-in-Plain-clause-code c = rw c.in-Plain.is c.from-in-Plain.ensures

pub returns-in-Plain-clause-below : goal.returns-in-Plain-clause-below
returns-in-Plain-clause-below c = rw c.in-Plain.is (omega (arith, rw c.in-Plain.is at c.requires.value, c.from-in-Plain.ensures))
