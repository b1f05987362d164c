use Rattle.std.proofs.lemmas.Grind.{common_steps}
use Rattle.std.proofs.Common.{arith, ap, sym, ◌∙◌, ◌++◌, ◌+◌, ◌*◌, ◌≤◌, false, List, Bool, length, replicate, Err}
use Rattle.cube_core.specs.declared.fault.Fault.TheVariants.{Truncated}
use Rattle.header_bits.specs.Bits.{bits_of_bytes}
use Rattle.header_bits.proofs.Reading.{ends_at, ends_taken, full_at, full_taken, short_at, no_one}
use Rattle.header_bits.proofs.Windows.{left_length}
use Rattle.header_bits.proofs.bit_reader.BitReader.count_zeros.Goals as goal
use Rattle.header_bits.proofs.bit_reader.BitReader.count_zeros.Goals.{After-min-most}

-- where zeros are looked for lies within the bytes
within : (c : After-min-most) → c.self.inside.at + c.min-most.result ≤ 8 * length c.self.inside.bytes.now
within c = omega (arith, left_length _ _ _ c.self.invariant.0 c.self.view_is, c.left.ensures, c.min-most.ensures)

pub zeros_ahead-zeros-requires-clause-enough : goal.zeros_ahead-zeros-requires-clause-enough
zeros_ahead-zeros-requires-clause-enough c = within (goal.at.zeros_ahead-zeros-requires-clause-enough c).After-min-most

pub overflow_add-self-then-zeros-most : goal.overflow_add-self-then-zeros-most
overflow_add-self-then-zeros-most c = omega (arith, within (goal.at.overflow_add-self-then-zeros-most c).After-min-most)

pub invariant_of-self : goal.invariant_of-self
invariant_of-self c = (omega (arith, within (goal.at.invariant_of-self c).After-min-most), c.self.invariant.1)

pub returns-then-zeros-most-clause-reads : goal.returns-then-zeros-most-clause-reads
returns-then-zeros-most-clause-reads c =
    ends_at _ _ _ _ (bits_of_bytes c.self.inside.bytes.now) _ (omega arith) (ap (λ w. w.left) c.self.view_is) c.zeros_ahead-zeros.ensures.zeros
    (c.zeros_ahead-zeros.ensures.one c.if-zeros-most.true)

pub returns-then-zeros-most-clause-short : goal.returns-then-zeros-most-clause-short
returns-then-zeros-most-clause-short c =
    let one = c.zeros_ahead-zeros.ensures.zeros
    ∙ ap (λ (x : List Bool). replicate c.zeros_ahead-zeros.result false ++ x) (c.zeros_ahead-zeros.ensures.one c.if-zeros-most.true) in
    (λ h. absurd cc, λ h. absurd (no_one (length c.args.self.now.left) c.zeros_ahead-zeros.result _ (sym h.1 ∙ sym (ap (λ w. w.left) c.self.view_is) ∙ one)))

pub returns-then-most-limit-clause-reads : goal.returns-then-most-limit-clause-reads
returns-then-most-limit-clause-reads c =
    short_at _ _ _ _ (bits_of_bytes c.self.inside.bytes.now) _ (omega arith) (omega arith) (ap (λ w. w.left) c.self.view_is) c.zeros_ahead-zeros.ensures.zeros
    ∙ ap (λ k. Err (Truncated k)) (sym c.count.ensures)

pub overflow_add-self-2 : goal.overflow_add-self-2
overflow_add-self-2 c = omega (arith, within (goal.at.overflow_add-self-2 c).After-min-most, c.zeros_ahead-zeros.ensures.within)

pub invariant_of-self-2 : goal.invariant_of-self-2
invariant_of-self-2 c = (omega (arith, within (goal.at.invariant_of-self-2 c).After-min-most, c.zeros_ahead-zeros.ensures.within), c.self.invariant.1)

pub returns-clause-reads : goal.returns-clause-reads
returns-clause-reads c =
    full_at _ _ _ _ (bits_of_bytes c.self.inside.bytes.now) _ (omega arith) (ap (λ w. w.left) c.self.view_is) c.zeros_ahead-zeros.ensures.zeros

pub returns-then-zeros-most-clause-taken : goal.returns-then-zeros-most-clause-taken
returns-then-zeros-most-clause-taken c =
    ends_taken _ _ _ (bits_of_bytes c.self.inside.bytes.now) _ (omega arith) (ap (λ w. w.left) c.self.view_is) c.zeros_ahead-zeros.ensures.zeros
    (c.zeros_ahead-zeros.ensures.one c.if-zeros-most.true)

pub returns-clause-taken : goal.returns-clause-taken
returns-clause-taken c =
    full_taken _ _ _ (bits_of_bytes c.self.inside.bytes.now) _ (omega arith) (ap (λ w. w.left) c.self.view_is) c.zeros_ahead-zeros.ensures.zeros

pub returns-clause-short : goal.returns-clause-short
returns-clause-short c = (λ h. absurd cc, λ h. absurd (omega (arith, h.0, c.left.ensures, c.min-most.ensures)))

pub returns-then-most-limit-clause-short : goal.returns-then-most-limit-clause-short
returns-then-most-limit-clause-short c = grind (arith, common_steps)
