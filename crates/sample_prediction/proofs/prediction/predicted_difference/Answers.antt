use Rattle.std.proofs.Common.{take, SFits, w32, w64, to_z-of_z, rules, refl, le_trans}
use Rattle.sample_prediction.proofs.Moves.{limit_within}
use Rattle.sample_prediction.proofs.Predicted.{of_product}
use Rattle.sample_prediction.proofs.prediction.predicted_difference.Goals as goal

pub product_of_first-product-requires-clause-weights_in : goal.product_of_first-product-requires-clause-weights_in
product_of_first-product-requires-clause-weights_in g c =
    λ i l. le_trans (c.requires.weights_in i l) (limit_within c.args.predictor.now.omega c.requires.lawful.omega.1)

pub returns-then-may_wrap-clause-scaled : goal.returns-then-may_wrap-clause-scaled
returns-then-may_wrap-clause-scaled g c =
    let product_fits : SFits w64 c.product_of_first-product.result = search rules in let result_fits : SFits w32 c.wrapped_difference.result = search rules in
    rw (to_z-of_z result_fits)
    (simp (to_z-of_z c.ranges.sum) at (c.wrapped_difference.ensures.scaled (take g.row.N c.args.weights.now) (take g.row.N c.args.differences.now)
    (rw (to_z-of_z product_fits) c.product_of_first-product.ensures.value)))

pub returns-else-may_wrap-clause-scaled : goal.returns-else-may_wrap-clause-scaled
returns-else-may_wrap-clause-scaled g c =
    let p = c.args.predictor.now in let product_fits : SFits w64 c.product_of_first-product.result = search rules in
    let result_fits : SFits w32 c.whole_product-part.result = search rules in
    let kept = rw c.product_of_first-product.ensures.value at
    (simp (to_z-of_z product_fits, to_z-of_z c.ranges.sum) at (c.if-may_wrap.ensures.kept refl)) in
    let value = rw c.product_of_first-product.ensures.value at (simp (to_z-of_z product_fits) at c.whole_product-part.ensures.value) in
    rw (to_z-of_z result_fits)
    (of_product p c.args.range.now.kind c.args.sum _ _ _ kept value)
