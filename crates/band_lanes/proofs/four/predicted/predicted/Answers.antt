use Rattle.std.proofs.Common.{◌≡◌, ℕ, List, replicate, ◌+◌, ◌*◌, ◌^◌, ◌<◌, ◌≤◌, ℤ, pos, ◌+ℤ◌, ◌*ℤ◌, unsigned_abs, ◌∙◌, length, refl, sym, ap, subst, arith, map, to_z, get_or, w64, w32}
use Rattle.lanes.specs.Lanes.{lane, place, halved}
use Rattle.lanes.proofs.Ranges.{vector}
use Rattle.lanes.proofs.Steps.{kept}
use Rattle.lanes.proofs.TurningFour.{four}
use Rattle.sample_prediction.specs.Prediction.{inner_product}
use Rattle.sample_prediction.specs.Bounds.{AllWithin}
use Rattle.band_lanes.specs.declared.four.rows.Rows.{Rows}
use Rattle.band_lanes.specs.Fours.{column_of, no_rows, row_components}
use Rattle.band_lanes.proofs.Floors.{halved_is}
use Rattle.band_lanes.proofs.Fours.{column_less, components_less, products_none, products_more, products_in, long_enough, quotient_in}
use Rattle.band_lanes.proofs.four.predicted.predicted.Given as given
use Rattle.band_lanes.proofs.four.predicted.predicted.Goals as goal
use Rattle.band_lanes.proofs.four.predicted.predicted.Goals.{After-loop-c}

abbrev zeros : List ℤ
zeros = replicate 4 (pos 0)

-- what is predicted of the first n components
part_in : (fraction n m b i : ℕ) (weights : List (List ℤ)) (rows : List Rows) → n ≤ m → m ≤ 18 → length weights ≡ 18 → length rows ≡ 18
    → AllWithin (2 ^ (fraction + 2)) (column_of m b weights) → AllWithin (2 ^ 18) (row_components m b rows i)
    → unsigned_abs (inner_product (column_of n b weights) (row_components n b rows i)) ≤ 18 * (2 ^ (fraction + 2) * 2 ^ 18)
part_in fraction n m b i weights rows h few e f w u =
    products_in fraction n b weights rows i (omega (arith, h, few)) (omega (arith, h, few, f))
    (column_less (2 ^ (fraction + 2)) n m b weights h (omega (arith, few, e)) w) (components_less (2 ^ 18) n m b rows i h (omega (arith, few, f)) u)

pub loop-c-init : goal.loop-c-init
loop-c-init g c b l = four (λ k. lane zeros k ≡ pos 0) refl refl refl refl b l ∙ sym (products_none b c.args.weights.now c.args.rows.now c.args.i)

pub loop-c-preserved : goal.loop-c-preserved
loop-c-preserved g c b l =
    let n : ℕ = c.loop-c.c in let q : ℕ = g.row.Q in let inside : n < 2 * q = c.loop-c-test.true in let few = c.requires.few in
    let ws : List (List ℤ) = c.args.weights.now in let us : List Rows = c.args.rows.now in let i : ℕ = c.args.i in
    let r = vector w64 4 c.with_products-sums.result _ c.with_products-sums.type_inv in let long_w = c.told-weights in let long_u = c.told-rows in
    let sum : ℤ = lane (map (to_z w64) c.loop-c.sums) b +ℤ place ws n b *ℤ place (get_or us n no_rows).places i b in
    let more : sum ≡ inner_product (column_of (n + 1) b ws) (row_components (n + 1) b us i) =
    ap (λ v. v +ℤ place ws n b *ℤ place (get_or us n no_rows).places i b) (c.loop-c.invariant b l)
    ∙ sym (products_more n b ws us i (omega (arith, inside, few, long_w)) (omega (arith, inside, few, long_u))) in
    let fits : unsigned_abs sum < 2 ^ 63 = subst (λ v. unsigned_abs v < 2 ^ 63) (sym more)
    (long_enough c.args.omega (inner_product (column_of (n + 1) b ws) (row_components (n + 1) b us i)) c.requires.omega_in
    (part_in c.args.omega (n + 1) (2 * q) b i ws us (omega (arith, inside)) (omega (arith, few)) long_w long_u (c.requires.weights_in b l) (c.requires.components_in b l))) in
    kept w64 c.with_products-sums.result b r.1 ∙ c.with_products-sums.ensures b l fits ∙ more

module _ (g : given.Over) (c : After-loop-c g) where
  done : c.loop-c.c ≡ 2 * g.row.Q
  done = let e = c.loop-c.auto.c-end in let f = c.loop-c-test.false in omega arith

  sum_is : (b : ℕ) → b < 4 → lane (map (to_z w64) c.loop-c.sums) b
      ≡ inner_product (column_of (2 * g.row.Q) b c.args.weights.now) (row_components (2 * g.row.Q) b c.args.rows.now c.args.i)
  sum_is b l = c.loop-c.invariant b l ∙ ap (λ n. inner_product (column_of n b c.args.weights.now) (row_components n b c.args.rows.now c.args.i)) done

  fits : (b : ℕ) → b < 4 → unsigned_abs (halved (inner_product (column_of (2 * g.row.Q) b c.args.weights.now)
      (row_components (2 * g.row.Q) b c.args.rows.now c.args.i)) c.args.omega) ≤ 18 * 2 ^ 20
  fits b l =
      quotient_in c.args.omega (inner_product (column_of (2 * g.row.Q) b c.args.weights.now) (row_components (2 * g.row.Q) b c.args.rows.now c.args.i))
      (part_in c.args.omega (2 * g.row.Q) (2 * g.row.Q) b c.args.i c.args.weights.now c.args.rows.now (omega arith) (let few = c.requires.few in omega (arith, few))
      c.told-weights c.told-rows (c.requires.weights_in b l) (c.requires.components_in b l))

pub quotients-requires-clause-fit : goal.quotients-requires-clause-fit
quotients-requires-clause-fit g c k l =
    let d = (goal.at.quotients-requires-clause-fit g c).After-loop-c in let small = fits g d k l in
    subst (λ v. unsigned_abs (halved v c.args.omega) < 2 ^ 31) (sym (sum_is g d k l)) (omega (arith, small))

pub returns-clause-value : goal.returns-clause-value
returns-clause-value g c b l =
    let d = (goal.at.returns-clause-value g c).After-loop-c in let r = vector w32 4 c.quotients.result _ c.quotients.type_inv in
    kept w32 c.quotients.result b r.1 ∙ c.quotients.ensures b l ∙ ap (λ v. halved v c.args.omega) (sum_is g d b l)
    ∙ halved_is (inner_product (column_of (2 * g.row.Q) b c.args.weights.now) (row_components (2 * g.row.Q) b c.args.rows.now c.args.i)) c.args.omega

pub returns-clause-bound : goal.returns-clause-bound
returns-clause-bound g c b l =
    let d = (goal.at.returns-clause-bound g c).After-loop-c in let r = vector w32 4 c.quotients.result _ c.quotients.type_inv in
    subst (λ v. unsigned_abs v ≤ 18 * 2 ^ 20)
    (sym (kept w32 c.quotients.result b r.1 ∙ c.quotients.ensures b l ∙ ap (λ v. halved v c.args.omega) (sum_is g d b l))) (fits g d b l)
