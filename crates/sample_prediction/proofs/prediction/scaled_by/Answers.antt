use Rattle.std.proofs.Common.{take, SFits, w32, w64, to_z-of_z, rules, le_trans}
use Rattle.sample_prediction.proofs.Moves.{limit_within}
use Rattle.sample_prediction.proofs.prediction.scaled_by.Goals as goal

pub product_of-product-requires-clause-weights_in : goal.product_of-product-requires-clause-weights_in
product_of-product-requires-clause-weights_in c =
    λ i l. le_trans (c.requires.weights_in i l) (limit_within c.args.predictor.now.omega c.requires.lawful.omega.1)

pub returns-clause-value : goal.returns-clause-value
returns-clause-value c us l same =
    let result_fits : SFits w32 c.scaled_by_product.result = search rules in let product_fits : SFits w64 c.product_of-product.result = search rules in
    rw (to_z-of_z result_fits) (simp (to_z-of_z c.ranges.sum) at (c.scaled_by_product.ensures.value (take c.args.count c.args.weights.now) us
    (rw (to_z-of_z product_fits) (c.product_of-product.ensures.value us l same))))
