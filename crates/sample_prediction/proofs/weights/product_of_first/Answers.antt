use Rattle.std.proofs.Common.{◌≡◌, ◌≤◌, ◌*◌, ◌^◌, ◌*ℤ◌, ◌+ℤ◌, ℤ, pos, take, get_or, unsigned_abs, SFits, to_z-of_z, w64, arith, subst}
use Rattle.sample_prediction.specs.Prediction.{inner_product}
use Rattle.sample_prediction.proofs.Products.{product_up, product_bound, sum_bound, sum_fits}
use Rattle.sample_prediction.proofs.Prefixes.{product_next, product_none}
use Rattle.sample_prediction.proofs.Inner.{first_within}
use Rattle.sample_prediction.proofs.weights.product_of_first.Goals as goal

pub loop-i-init : goal.loop-i-init
loop-i-init g c = record { begun = product_none c.args.weights.now c.args.differences.now; bound = omega arith }

pub overflow_add-sum : goal.overflow_add-sum
overflow_add-sum g c =
    let w : ℤ = get_or c.args.weights.now c.loop-i.i (pos 0) in let u : ℤ = get_or c.args.differences.now c.loop-i.i (pos 0) in
    let wb : unsigned_abs w ≤ 2 ^ 21 = c.requires.weights_in c.loop-i.i (omega arith) in
    let ub : unsigned_abs u ≤ 2 ^ 18 = c.requires.differences_in c.loop-i.i (omega arith) in
    let kept : unsigned_abs c.loop-i.sum ≤ c.loop-i.i * 2 ^ 39 = rw c.loop-i.sum-is at c.loop-i.invariant.bound in
    rw (c.loop-i.sum-is, product_up w u wb ub) (sum_fits c.loop-i.sum (w *ℤ u) c.loop-i.i (omega arith) kept (product_bound w u wb ub))

pub loop-i-preserved : goal.loop-i-preserved
loop-i-preserved g c =
    let w : ℤ = get_or c.args.weights.now c.loop-i.i (pos 0) in let u : ℤ = get_or c.args.differences.now c.loop-i.i (pos 0) in
    let wb : unsigned_abs w ≤ 2 ^ 21 = c.requires.weights_in c.loop-i.i (omega arith) in
    let ub : unsigned_abs u ≤ 2 ^ 18 = c.requires.differences_in c.loop-i.i (omega arith) in
    let kept : unsigned_abs c.loop-i.sum ≤ c.loop-i.i * 2 ^ 39 = rw c.loop-i.sum-is at c.loop-i.invariant.bound in
    let begun = rw c.loop-i.sum-is at c.loop-i.invariant.begun in
    let fits : SFits w64 (c.loop-i.sum +ℤ w *ℤ u) = sum_fits c.loop-i.sum (w *ℤ u) c.loop-i.i (omega arith) kept (product_bound w u wb ub) in
    rw (c.loop-i.sum-is, product_up w u wb ub, to_z-of_z fits)
    (record {
      begun = product_next c.args.weights.now c.args.differences.now c.loop-i.i c.loop-i.sum (omega arith) (omega arith) begun;
      bound = sum_bound c.loop-i.sum (w *ℤ u) c.loop-i.i kept (product_bound w u wb ub);
    })

pub returns-clause-bound_by : goal.returns-clause-bound_by
returns-clause-bound_by g c n within =
    let done : c.loop-i.i ≡ g.row.N = omega arith in
    let sum : c.loop-i.sum ≡ inner_product (take g.row.N c.args.weights.now) (take g.row.N c.args.differences.now) =
    subst (λ n. c.loop-i.sum ≡ inner_product (take n c.args.weights.now) (take n c.args.differences.now)) done
    (rw c.loop-i.sum-is at c.loop-i.invariant.begun) in
    rw (c.loop-i.sum-is, sum) (first_within n g.row.N c.args.weights.now c.args.differences.now c.requires.few within c.requires.differences_in)
