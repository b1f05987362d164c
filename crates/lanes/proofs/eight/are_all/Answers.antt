use Rattle.std.proofs.Common.{◌+◌, ◌-◌, ◌%◌, replicate, arith, w32, eqb-true}
use lib.Lanes.{zip2}
use Rattle.lanes.proofs.Plain.{plain, plain_step_by, lane_bits}
use Rattle.lanes.proofs.eight.are_all.Goals as goal

pub returns : goal.returns
returns c none k lt =
    let a = plain w32 8 c.args.a _ c.well_formed.0 in
    let e = plain_step_by (λ x y. (x + (4294967296 - y)) % 4294967296) c.args.a c.args.value 8 k a.0 lt in
    let low = lane_bits 0 k (zip2 (λ x y. (x + (4294967296 - y)) % 4294967296) c.args.a (replicate 8 c.args.value)) in
    let zero = eqb-true _ _ none in
    omega (arith, e, low, zero, (a.1 k).fits, c.ranges.value.fits)
