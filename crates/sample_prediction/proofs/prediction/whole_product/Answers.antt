use Rattle.std.proofs.Common.{◌≡◌, ◌+◌, ◌*◌, ◌^◌, ◌≤◌, unsigned_abs, w32, w64, to_z, of_z, to_z-of_z, arith, pow_pos, ◌∙◌}
use Rattle.std.proofs.lemmas.Int.{ints}
use Rattle.std.proofs.Math.Pow.{pow-add}
use Rattle.sample_prediction.specs.Arithmetic.{floor_div}
use Rattle.sample_prediction.proofs.Floors.{floor_within}
use Rattle.sample_prediction.proofs.prediction.whole_product.Goals as goal
use Rattle.sample_prediction.proofs.prediction.whole_product.Goals.{After-floor_shift}

-- the quotient, and how large it is
quotient : (c : After-floor_shift) → c.floor_shift.result ≡ floor_div c.args.product (2 ^ c.args.omega)
quotient c = simp (to_z-of_z c.ranges.product) at c.floor_shift.ensures.value

small : (c : After-floor_shift) → unsigned_abs c.floor_shift.result ≤ 18 * 2 ^ 20
small c =
    let e : 2 ^ (c.args.omega + 2) ≡ 2 ^ c.args.omega * 2 ^ 2 = pow-add 2 c.args.omega 2 in let b = c.requires.product_in in
    rw (quotient c) (floor_within c.args.product (18 * 2 ^ 20) (2 ^ c.args.omega) (pow_pos c.args.omega) (omega (arith, e, b)))

-- it fits 32 bits
narrowed : (c : After-floor_shift) → to_z w32 (of_z w32 (to_z w64 (of_z w64 c.floor_shift.result))) ≡ c.floor_shift.result
narrowed c = let s = small c in omega (arith, ints, s)

pub overflow_cast-result : goal.overflow_cast-result
overflow_cast-result c = let s = small c in omega (arith, ints, s)

pub returns-clause-value : goal.returns-clause-value
returns-clause-value c = narrowed c ∙ quotient c

pub returns-clause-bound : goal.returns-clause-bound
returns-clause-bound c = rw (narrowed c) (small c)
