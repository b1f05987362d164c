use Rattle.std.proofs.Common.{◌≡◌, ℕ, List, [], replicate, ◌+◌, ◌*◌, ◌^◌, ◌<◌, ◌≤◌, ℤ, pos, ◌+ℤ◌, unsigned_abs, ◌∙◌, refl, sym, ap, subst, arith, get_or, w64, le_trans, pow_mono}
use Rattle.lanes.specs.Lanes.{lane, pair_sum}
use Rattle.lanes.proofs.Ranges.{vector}
use Rattle.lanes.proofs.Steps.{kept, two}
use Rattle.sample_prediction.specs.Prediction.{inner_product}
use Rattle.band_lanes.specs.Rows.{weights_of, pairs_of}
use Rattle.band_lanes.proofs.Fours.{long_enough}
use Rattle.band_lanes.proofs.LongRows.{rows_within, row_products_none, row_products_more, products_in, pair_in}
use Rattle.band_lanes.proofs.long.predict.sums_of.Goals as goal

abbrev zeros : List ℤ
zeros = replicate 2 (pos 0)

pub loop-c-init : goal.loop-c-init
loop-c-init g c k l = two (λ k. lane zeros k ≡ pos 0) refl refl k l ∙ sym (row_products_none (2 * c.args.j + k) c.args.weights.now c.args.components.now)

pub loop-c-preserved : goal.loop-c-preserved
loop-c-preserved g c k l =
    let n : ℕ = c.loop-c.c in let b : ℕ = 2 * c.args.j + k in let q : ℕ = g.row.Q in let inside : n < q = c.loop-c-test.true in let few = c.requires.few in
    let band : b < 8 = (let h = c.requires.bands in omega (arith, h, l)) in
    let ws : List (List ℤ) = c.args.weights.now in let us : List (List ℤ) = c.args.components.now in
    let long_w = c.told-weights in let long_u = c.told-components in
    let within = rows_within (2 ^ (c.args.omega + 2)) q ws (omega (arith, few, long_w)) c.requires.weights_in in
    let most : c.args.omega + 2 ≤ 21 = (let h = c.requires.omega_in in omega (arith, h)) in let power : 2 ^ (c.args.omega + 2) ≤ 2 ^ 21 = pow_mono most in
    let r = vector w64 2 c.with_products-sums.result _ c.with_products-sums.type_inv in
    let pair : ℤ = pair_sum (get_or ws n []) (get_or us n []) b in
    let small : unsigned_abs pair < 2 ^ 63 = pair_in (get_or ws n []) (get_or us n []) b band (λ i m. le_trans (within n i inside m) power)
    (λ i m. c.requires.components_in n i inside m) in
    let more = ap (λ v. v +ℤ pair) (c.loop-c.invariant k l)
    ∙ sym (row_products_more n b ws us (omega (arith, inside, few, long_w)) (omega (arith, inside, few, long_u))) in
    let fits = subst (λ v. unsigned_abs v < 2 ^ 63) (sym more)
    (long_enough c.args.omega (inner_product (weights_of (n + 1) b ws) (pairs_of (n + 1) b us)) c.requires.omega_in
    (products_in (2 ^ (c.args.omega + 2)) (n + 1) q b ws us (omega (arith, inside)) few (omega (arith, few, long_w)) (omega (arith, few, long_u)) band within
    c.requires.components_in)) in
    kept w64 c.with_products-sums.result k r.1 ∙ c.with_products-sums.ensures k l small fits ∙ more

pub returns : goal.returns
returns g c k l =
    let done : c.loop-c.c ≡ g.row.Q = (let e = c.loop-c.auto.c-end in let f = c.loop-c-test.false in omega (arith, e, f)) in
    c.loop-c.invariant k l ∙ ap (λ n. inner_product (weights_of n (2 * c.args.j + k) c.args.weights.now) (pairs_of n (2 * c.args.j + k) c.args.components.now)) done
