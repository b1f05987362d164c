use Rattle.std.proofs.Common.{SFits, w32, to_z-of_z, rules, sym, ◌∙◌}
use Rattle.sample_prediction.proofs.Predicted.{of_scaled}
use Rattle.sample_prediction.proofs.prediction.wrapped_difference.Goals as goal

pub returns-clause-scaled : goal.returns-clause-scaled
returns-clause-scaled c ws us e =
    let scaled_fits : SFits w32 c.scaled_by_product.result = search rules in let result_fits : SFits w32 c.difference_of.result = search rules in
    let value = simp (to_z-of_z c.ranges.sum) at (c.scaled_by_product.ensures.value ws us (rw (to_z-of_z c.ranges.product) e)) in
    let part = simp (to_z-of_z scaled_fits, to_z-of_z c.ranges.sum) at c.difference_of.ensures.value in rw (to_z-of_z result_fits) (sym value
    ∙ of_scaled c.args.range.now.kind c.args.sum c.scaled_by_product.result c.difference_of.result c.scaled_by_product.ensures.scaled part)
