use Rattle.std.proofs.Common.{◌≡◌, ℕ, List, replicate, ◌+◌, ◌*◌, ◌^◌, ◌<◌, ◌≤◌, ◌/◌, min, ℤ, pos, ◌+ℤ◌, unsigned_abs, ◌∙◌, sym, ap, subst, arith, map, to_z, w32}
use Rattle.std.proofs.lemmas.Int.{ints}
use Rattle.std.specs.Int.{int_rem_euclid}
use Rattle.lanes.specs.Lanes.{lane, halved}
use Rattle.lanes.proofs.Ranges.{vector}
use Rattle.lanes.proofs.Steps.{kept, eight}
use Rattle.sample_prediction.specs.Prediction.{inner_product}
use Rattle.sample_prediction.specs.Arithmetic.{floor_div}
use Rattle.band_lanes.specs.Rows.{weights_of, components_of}
use Rattle.band_lanes.specs.Sums.{IsSplit}
use Rattle.band_lanes.proofs.Floors.{of_parts, halved_is}
use Rattle.band_lanes.proofs.Rows.{products_none}
use Rattle.band_lanes.proofs.Sums.{one_more, none}
use Rattle.band_lanes.proofs.predicted.predicted.Goals as goal

same_split : (fraction n : ℕ) (s t high low p q : ℤ) → IsSplit fraction n s high low → t ≡ s → p ≡ high → q ≡ low → IsSplit fraction n t p q
same_split fraction n s t high low p q h e f k = rw (e, f, k) h

abbrev zeros : List ℤ
zeros = replicate 8 (pos 0)

pub loop-k-init : goal.loop-k-init
loop-k-init g c b l =
    let nothing : min 0 g.row.Q ≡ 0 = omega arith in
    let e = ap (λ n. inner_product (weights_of n b c.args.weights.now) (components_of n b c.args.pairs.now c.args.i)) nothing
    ∙ products_none b c.args.weights.now c.args.pairs.now c.args.i in
    subst (λ s. IsSplit c.args.omega 0 s (lane zeros b) (lane zeros b)) (sym e)
    (eight (λ b. IsSplit c.args.omega 0 (pos 0) (lane zeros b) (lane zeros b)) (none _) (none _) (none _) (none _) (none _) (none _) (none _) (none _) b l)

few_groups : (q k : ℕ) → q ≤ 9 → k < (q + 1) / 2 → (k < 8) × (2 * k < q)
few_groups q k h l = (omega arith, omega arith)

pub loop-k-preserved : goal.loop-k-preserved
loop-k-preserved g c b l =
    let k : ℕ = c.loop-k.k in let few = few_groups g.row.Q k c.requires.few c.loop-k-test.true in
    let number = lane c.group_sum-sum.result b in
    let r = vector w32 8 c.group_sum-sum.result _ c.group_sum-sum.type_inv in let h = vector w32 8 c.with_whole-high.result _ c.with_whole-high.type_inv in
    let w = vector w32 8 c.with_rest-low.result _ c.with_rest-low.type_inv in
    let size : unsigned_abs number ≤ 2 ^ 31 = (let s = (r.1 b).sfits in omega (arith, ints, s)) in
    let grown = one_more c.args.omega k _ _ _ number c.requires.omega_in.0 c.requires.omega_in.1 (let f = few.0 in omega (arith, f)) size (c.loop-k.invariant b l) in
    let told = kept w32 c.group_sum-sum.result b r.1 in
    let high = lane (map (to_z w32) c.loop-k.high) b in let low = lane (map (to_z w32) c.loop-k.low) b in
    let high_fits : unsigned_abs (high +ℤ halved number c.args.omega) < 2 ^ 31 = (let s = grown.high_in in let f = few.0 in omega (arith, s, f)) in
    let low_fits : unsigned_abs (low +ℤ int_rem_euclid number (pos (2 ^ c.args.omega))) < 2 ^ 31 =
    (let s = grown.low_least in let t = grown.low_most in let f = few.0 in omega (arith, ints, s, t, f)) in
    let up = kept w32 c.with_whole-high.result b h.1
    ∙ c.with_whole-high.ensures b l (subst (λ x. unsigned_abs (high +ℤ halved x c.args.omega) < 2 ^ 31) (sym told) high_fits)
    ∙ ap (λ x. high +ℤ halved x c.args.omega) told in
    let down = kept w32 c.with_rest-low.result b w.1
    ∙ c.with_rest-low.ensures b l (subst (λ x. unsigned_abs (low +ℤ int_rem_euclid x (pos (2 ^ c.args.omega))) < 2 ^ 31) (sym told) low_fits)
    ∙ ap (λ x. low +ℤ int_rem_euclid x (pos (2 ^ c.args.omega))) told in
    let next : min (2 * (k + 1)) g.row.Q ≡ min (2 * k + 2) g.row.Q = omega arith in let inside : 2 * k ≡ min (2 * k) g.row.Q = (let f = few.1 in omega arith) in
    let sum = ap (λ n. inner_product (weights_of n b c.args.weights.now) (components_of n b c.args.pairs.now c.args.i)) next ∙ c.group_sum-sum.ensures b l
    ∙ ap (λ n. inner_product (weights_of n b c.args.weights.now) (components_of n b c.args.pairs.now c.args.i) +ℤ number) inside in
    same_split c.args.omega (k + 1) _ _ _ _ _ _ grown sum up down

pub returns : goal.returns
returns g c b l =
    let k : ℕ = c.loop-k.k in let last : k ≤ 5 = (let e = c.loop-k.auto.k-end in let f = c.requires.few in omega arith) in
    let all : min (2 * k) g.row.Q ≡ g.row.Q = (let e = c.loop-k-test.false in omega arith) in
    let h = c.loop-k.invariant b l in let high = lane (map (to_z w32) c.loop-k.high) b in let low = lane (map (to_z w32) c.loop-k.low) b in
    let r = vector w32 8 c.with_whole.result _ c.with_whole.type_inv in
    let size : unsigned_abs low ≤ 2 ^ 31 = (let s = h.low_least in let t = h.low_most in omega (arith, ints, s, t, last)) in
    let grown = one_more c.args.omega k _ high low low c.requires.omega_in.0 c.requires.omega_in.1 (omega (arith, last)) size h in
    let fits : unsigned_abs (high +ℤ halved low c.args.omega) < 2 ^ 31 = (let s = grown.high_in in omega (arith, s, last)) in
    kept w32 c.with_whole.result b r.1 ∙ c.with_whole.ensures b l fits ∙ ap (λ x. high +ℤ x) (halved_is low c.args.omega)
    ∙ of_parts c.args.omega _ high low h.value
    ∙ ap (λ n. floor_div (inner_product (weights_of n b c.args.weights.now) (components_of n b c.args.pairs.now c.args.i)) (2 ^ c.args.omega)) all
