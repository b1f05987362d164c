use Rattle.std.proofs.Common.{◌≡◌, ◌+◌, ◌*◌, ◌^◌, ◌<◌, min, ℤ, ◌+ℤ◌, unsigned_abs, ◌∙◌, sym, ap, ap₂, subst, arith, map, to_z, w32}
use Rattle.std.proofs.lemmas.Int.{ints}
use Rattle.lanes.specs.Lanes.{lane}
use Rattle.lanes.proofs.Ranges.{vector}
use Rattle.lanes.proofs.Steps.{kept}
use Rattle.sample_prediction.specs.Prediction.{inner_product}
use Rattle.band_lanes.specs.Rows.{weights_of, components_of}
use Rattle.band_lanes.proofs.Rows.{products_more}
use Rattle.band_lanes.proofs.predicted.group_sum.Goals as goal
use Rattle.band_lanes.proofs.predicted.group_sum.Goals.{then-k, else-k}

sums_in : (x y : ℤ) → unsigned_abs x < 2 ^ 30 → unsigned_abs y < 2 ^ 30 → unsigned_abs (x +ℤ y) < 2 ^ 31
sums_in x y h k = omega (arith, ints, h, k)

added : (a b n p q r : ℤ) → a ≡ b +ℤ q → b ≡ n +ℤ p → r ≡ p +ℤ q → a ≡ n +ℤ r
added a b n p q r e f h = omega (arith, ints, e, f, h)

pub products-first-requires : goal.products-first-requires
products-first-requires g c = λ k l. c.requires.small (2 * c.args.k) k (let q = c.requires.group in let f = c.requires.few in omega arith) l

pub products-second-requires : goal.products-second-requires
products-second-requires g c = λ k l. c.requires.small (2 * c.args.k + 1) k (let q = c.if-k.true in let f = c.requires.few in omega arith) l

pub returns : goal.returns
returns g c b l =
    let few = c.requires.few in let group = c.requires.group in
    let p = vector w32 8 c.products-first.result _ c.products-first.type_inv in
    let first = kept w32 c.products-first.result b p.1 ∙ c.products-first.ensures.value b l in
    let one = products_more (2 * c.args.k) b c.args.weights.now c.args.pairs.now c.args.i (omega (arith, c.told-weights, few, group))
    (omega (arith, c.told-pairs, few, group)) in
    elim c.if-k.branch [
      | then-k w ↦
          (let more = w.if-k.true in let q = vector w32 8 w.products-second.result _ w.products-second.type_inv in
          let r = vector w32 8 w.sum.result _ w.sum.type_inv in
          let second = kept w32 w.products-second.result b q.1 ∙ w.products-second.ensures.value b l in
          let two = products_more (2 * c.args.k + 1) b c.args.weights.now c.args.pairs.now c.args.i (omega (arith, c.told-weights, few, more))
          (omega (arith, c.told-pairs, few, more)) in
          let end : min (2 * c.args.k + 2) g.row.Q ≡ 2 * c.args.k + 1 + 1 = omega (arith, more) in
          let both = ap₂ (λ x y. x +ℤ y) first second in
          let small = sums_in (lane c.products-first.result b) (lane w.products-second.result b) (c.products-first.ensures.bound b l) (w.products-second.ensures.bound b l) in
          let fits = subst (λ x. unsigned_abs x < 2 ^ 31) (sym (ap₂ (λ x y. x +ℤ y) (kept w32 c.products-first.result b p.1) (kept w32 w.products-second.result b q.1)))
          small in
          let sum = ap (λ xs. lane (map (to_z w32) xs) b) w.result-is ∙ kept w32 w.sum.result b r.1 ∙ w.sum.ensures b l fits ∙ both in
          ap (λ n. inner_product (weights_of n b c.args.weights.now) (components_of n b c.args.pairs.now c.args.i)) end ∙ added _ _ _ _ _ _ two one sum)
      | else-k w ↦
          (let last = w.if-k.false in let end : min (2 * c.args.k + 2) g.row.Q ≡ 2 * c.args.k + 1 = omega (arith, last, group) in
          let sum = ap (λ xs. lane (map (to_z w32) xs) b) w.result-is ∙ first in
          ap (λ n. inner_product (weights_of n b c.args.weights.now) (components_of n b c.args.pairs.now c.args.i)) end ∙ one
          ∙ ap (λ x. inner_product (weights_of (2 * c.args.k) b c.args.weights.now) (components_of (2 * c.args.k) b c.args.pairs.now c.args.i) +ℤ x) (sym sum))
    ]
