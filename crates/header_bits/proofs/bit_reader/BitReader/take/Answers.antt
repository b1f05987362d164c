use Rattle.std.proofs.Common.{arith, ap, sym, ◌∙◌, ◌≡◌, ◌++◌, ℕ, List, Bool, drop, ◌+◌, Ok, Err}
use Rattle.cube_core.specs.declared.fault.Fault.TheVariants.{Truncated}
use Rattle.header_bits.specs.Bits.{bits_of, bits_of_bytes}
use Rattle.header_bits.specs.Reading.{number_at}
use Rattle.header_bits.proofs.Reading.{number_again, number_short}
use Rattle.header_bits.proofs.Windows.{left_length}
use Rattle.header_bits.proofs.bit_reader.BitReader.take.Goals as goal

pub returns-then-left-from-clause-reads : goal.returns-then-left-from-clause-reads
returns-then-left-from-clause-reads c =
    number_short c.args.self.now.count c.args.n c.args.self.now.left (omega arith) ∙ ap (λ k. Err (Truncated k)) (sym c.count.ensures)

pub number_of_bits-number-requires-clause-enough : goal.number_of_bits-number-requires-clause-enough
number_of_bits-number-requires-clause-enough c =
    omega (arith, left_length _ _ _ c.self.invariant.0 c.self.view_is, c.if-left-from.false, c.left.ensures, c.from.ensures)

pub invariant_of-self : goal.invariant_of-self
invariant_of-self c =
    let position = left_length _ _ _ c.self.invariant.0 c.self.view_is in
    (omega (arith, position, c.if-left-from.false, c.left.ensures, c.from.ensures, c.from-2.ensures), c.self.invariant.1)

pub returns-clause-reads : goal.returns-clause-reads
returns-clause-reads c =
    let after : List Bool = drop (c.self.inside.at + c.args.n) (bits_of_bytes c.self.inside.bytes.now) in
    let front : c.args.self.now.left ≡ bits_of c.args.n c.number_of_bits-number.result ++ after =
    sym (ap (λ w. w.left) c.self.view_is) ∙ c.number_of_bits-number.ensures.bits in
    ap (number_at c.args.self.now.count c.args.n) front ∙ number_again _ _ _ after c.number_of_bits-number.ensures.below
    ∙ ap (λ (k : ℕ). Ok (c.number_of_bits-number.result, drop (c.self.inside.at + k) (bits_of_bytes c.self.inside.bytes.now))) (sym c.from-2.ensures)

pub returns-clause-taken : goal.returns-clause-taken
returns-clause-taken c = cc

pub returns-then-left-from-clause-enough : goal.returns-then-left-from-clause-enough
returns-then-left-from-clause-enough c = (λ h. absurd cc, λ h. absurd (omega arith))

pub returns-then-left-from-clause-short : goal.returns-then-left-from-clause-short
returns-then-left-from-clause-short c = λ _. omega arith
