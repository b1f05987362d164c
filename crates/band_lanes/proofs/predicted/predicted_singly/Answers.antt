use Rattle.std.proofs.Common.{◌≡◌, ℕ, List, replicate, ◌+◌, ◌^◌, ◌<◌, ◌≤◌, ℤ, pos, ◌+ℤ◌, unsigned_abs, ◌∙◌, sym, ap, subst, arith, map, to_z, w32}
use Rattle.std.proofs.lemmas.Int.{ints}
use Rattle.std.specs.Int.{int_rem_euclid}
use Rattle.lanes.specs.Lanes.{lane, halved}
use Rattle.lanes.proofs.Ranges.{vector}
use Rattle.lanes.proofs.Steps.{kept, eight}
use Rattle.sample_prediction.specs.Prediction.{inner_product}
use Rattle.sample_prediction.specs.Arithmetic.{floor_div}
use Rattle.band_lanes.specs.Rows.{weights_of, components_of}
use Rattle.band_lanes.specs.Sums.{IsSplit}
use Rattle.band_lanes.proofs.Floors.{of_parts, halved_is}
use Rattle.band_lanes.proofs.Rows.{products_more, products_none}
use Rattle.band_lanes.proofs.Sums.{one_more, none}
use Rattle.band_lanes.proofs.predicted.predicted_singly.Goals as goal

same_split : (fraction n : ℕ) (s t high low p q : ℤ) → IsSplit fraction n s high low → t ≡ s → p ≡ high → q ≡ low → IsSplit fraction n t p q
same_split fraction n s t high low p q h e f k = rw (e, f, k) h

abbrev zeros : List ℤ
zeros = replicate 8 (pos 0)

pub full_products-pair-requires : goal.full_products-pair-requires
full_products-pair-requires g c k l = c.requires.small c.loop-k.k k (let t = c.loop-k-test.true in let f = c.requires.few in omega arith) l

pub loop-k-init : goal.loop-k-init
loop-k-init g c b l =
    subst (λ s. IsSplit c.args.omega 0 s (lane zeros b) (lane zeros b)) (sym (products_none b c.args.weights.now c.args.pairs.now c.args.i))
    (eight (λ b. IsSplit c.args.omega 0 (pos 0) (lane zeros b) (lane zeros b)) (none _) (none _) (none _) (none _) (none _) (none _) (none _) (none _) b l)

pub loop-k-preserved : goal.loop-k-preserved
loop-k-preserved g c b l =
    let k : ℕ = c.loop-k.k in let inside : k < 9 = (let t = c.loop-k-test.true in let f = c.requires.few in omega arith) in
    let number = lane c.full_products-pair.result b in
    let r = vector w32 8 c.full_products-pair.result _ c.full_products-pair.type_inv in let h = vector w32 8 c.with_whole-high.result _ c.with_whole-high.type_inv in
    let w = vector w32 8 c.with_rest-low.result _ c.with_rest-low.type_inv in
    let size : unsigned_abs number ≤ 2 ^ 31 = (let s = (r.1 b).sfits in omega (arith, ints, s)) in
    let grown = one_more c.args.omega k _ _ _ number c.requires.omega_in.0 c.requires.omega_in.1 (omega (arith, inside)) size (c.loop-k.invariant b l) in
    let told = kept w32 c.full_products-pair.result b r.1 in
    let high = lane (map (to_z w32) c.loop-k.high) b in let low = lane (map (to_z w32) c.loop-k.low) b in
    let high_fits : unsigned_abs (high +ℤ halved number c.args.omega) < 2 ^ 31 = (let s = grown.high_in in omega (arith, s, inside)) in
    let low_fits : unsigned_abs (low +ℤ int_rem_euclid number (pos (2 ^ c.args.omega))) < 2 ^ 31 =
    (let s = grown.low_least in let t = grown.low_most in omega (arith, ints, s, t, inside)) in
    let up = kept w32 c.with_whole-high.result b h.1
    ∙ c.with_whole-high.ensures b l (subst (λ x. unsigned_abs (high +ℤ halved x c.args.omega) < 2 ^ 31) (sym told) high_fits)
    ∙ ap (λ x. high +ℤ halved x c.args.omega) told in
    let down = kept w32 c.with_rest-low.result b w.1
    ∙ c.with_rest-low.ensures b l (subst (λ x. unsigned_abs (low +ℤ int_rem_euclid x (pos (2 ^ c.args.omega))) < 2 ^ 31) (sym told) low_fits)
    ∙ ap (λ x. low +ℤ int_rem_euclid x (pos (2 ^ c.args.omega))) told in
    let sum = products_more k b c.args.weights.now c.args.pairs.now c.args.i (omega (arith, c.told-weights, inside)) (omega (arith, c.told-pairs, inside))
    ∙ ap (λ x. inner_product (weights_of k b c.args.weights.now) (components_of k b c.args.pairs.now c.args.i) +ℤ x)
    (sym (kept w32 c.full_products-pair.result b r.1 ∙ c.full_products-pair.ensures b l) ∙ told) in
    same_split c.args.omega (k + 1) _ _ _ _ _ _ grown sum up down

pub returns : goal.returns
returns g c b l =
    let k : ℕ = c.loop-k.k in
    let all : k ≡ g.row.Q = (let e = c.loop-k.auto.k-end in let f = c.loop-k-test.false in omega arith) in
    let last : k ≤ 9 = (let f = c.requires.few in omega (arith, all, f)) in
    let h = c.loop-k.invariant b l in let high = lane (map (to_z w32) c.loop-k.high) b in let low = lane (map (to_z w32) c.loop-k.low) b in
    let r = vector w32 8 c.with_whole.result _ c.with_whole.type_inv in
    let size : unsigned_abs low ≤ 2 ^ 31 = (let s = h.low_least in let t = h.low_most in omega (arith, ints, s, t, last)) in
    let grown = one_more c.args.omega k _ high low low c.requires.omega_in.0 c.requires.omega_in.1 (omega (arith, last)) size h in
    let fits : unsigned_abs (high +ℤ halved low c.args.omega) < 2 ^ 31 = (let s = grown.high_in in omega (arith, s, last)) in
    kept w32 c.with_whole.result b r.1 ∙ c.with_whole.ensures b l fits ∙ ap (λ x. high +ℤ x) (halved_is low c.args.omega)
    ∙ of_parts c.args.omega _ high low h.value
    ∙ ap (λ n. floor_div (inner_product (weights_of n b c.args.weights.now) (components_of n b c.args.pairs.now c.args.i)) (2 ^ c.args.omega)) all
