use Rattle.std.proofs.Common.{◌≡◌, ◌*◌, ◌%◌, ◌^◌, ◌∙◌, arith, w32}
use Rattle.std.proofs.lemmas.Nat.{pow_below}
use Rattle.lanes.specs.Lanes.{number}
use Rattle.lanes.proofs.Plain.{plain, plain_step_on}
use Rattle.lanes.proofs.eight.powers.Goals as goal

pub returns : goal.returns
returns c k lt =
    let e = plain w32 8 c.args.exponents _ c.well_formed.0 in
    let p = pow_below (number c.args.exponents k) 32 (c.requires k lt) in
    let one : 1 * 2 ^ number c.args.exponents k % 4294967296 ≡ 2 ^ number c.args.exponents k = omega (arith, p) in
    plain_step_on (λ x y. x * 2 ^ y % 4294967296) 1 c.args.exponents 8 k e.0 lt ∙ one
