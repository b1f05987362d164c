use Rattle.std.proofs.Common.{ℕ, List, ◌+◌, ◌-◌, ◌*◌, ◌/◌, ◌%◌, ◌^◌, ◌<◌, ◌≤◌, ◌≡◌, length, replicate, refl, ap, sym, subst, ◌∙◌, arith, w32}
use lib.Lanes.{zip2}
use Rattle.lanes.specs.Lanes.{number, bits_as_float}
use Rattle.lanes.proofs.Plain.{plain, plain_step_by, length-step}
use Rattle.lanes.proofs.Floats.{is_number, logarithm_of}
use Rattle.lanes.proofs.eight.logarithms.Goals as goal

pub float_to_bits-result : goal.float_to_bits-result
float_to_bits-result c = is_number c.args.by (omega (arith, c.requires.low 0 (omega arith), c.requires.high 0 (omega arith)))

abbrev less : List ℕ → ℕ → List ℕ
less bits by = zip2 (λ x y. (x + (4294967296 - y)) % 4294967296) bits (replicate 8 (bits_as_float by))

-- a lane of what is computed
lane_is : (bits : List ℕ) (by a k : ℕ) → length bits ≡ 8 → k < 8 → number bits k ≡ bits_as_float a
    → number (zip2 (λ x y. x / 2 ^ y) (less bits by) (replicate 8 23)) k ≡ (bits_as_float a + (2 ^ 32 - bits_as_float by)) % 2 ^ 32 / 2 ^ 23
lane_is bits by a k long lt is =
    plain_step_by (λ x y. x / 2 ^ y) (less bits by) 23 8 k (length-step _ bits (replicate 8 (bits_as_float by)) 8 long refl) lt
    ∙ ap (λ n. n / 2 ^ 23) (plain_step_by (λ x y. (x + (4294967296 - y)) % 4294967296) bits (bits_as_float by) 8 k long lt
    ∙ ap (λ n. (n + (2 ^ 32 - bits_as_float by)) % 2 ^ 32) is)

pub returns-clause-fits : goal.returns-clause-fits
returns-clause-fits c k lt =
    let b = plain w32 8 c.float_bits.result _ c.float_bits.type_inv in
    let a : ℕ = number c.args.a k in
    let e = lane_is c.float_bits.result c.args.by a k b.0 lt (c.float_bits.ensures k lt) in
    subst (λ n. c.args.by * 2 ^ n ≤ a) (sym e) (logarithm_of c.args.by a c.requires.some (c.requires.low k lt) (c.requires.high k lt)).fits

pub returns-clause-passes : goal.returns-clause-passes
returns-clause-passes c k lt =
    let b = plain w32 8 c.float_bits.result _ c.float_bits.type_inv in
    let a : ℕ = number c.args.a k in
    let e = lane_is c.float_bits.result c.args.by a k b.0 lt (c.float_bits.ensures k lt) in
    subst (λ n. a < 2 * (c.args.by * 2 ^ n)) (sym e) (logarithm_of c.args.by a c.requires.some (c.requires.low k lt) (c.requires.high k lt)).passes
