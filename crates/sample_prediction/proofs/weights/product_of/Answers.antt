use Rattle.std.proofs.Common.{◌-◌, SFits, w64, to_z-of_z, rules, arith}
use Rattle.sample_prediction.proofs.Prefixes.{product_in_use, nothing_in_use}
use Rattle.sample_prediction.proofs.weights.product_of.Goals as goal

pub returns-then-count-eq0-clause-value : goal.returns-then-count-eq0-clause-value
returns-then-count-eq0-clause-value c us l e = nothing_in_use c.args.count c.args.weights.now us c.if-count-eq0.true l

pub returns-then-count-le8-clause-value : goal.returns-then-count-le8-clause-value
returns-then-count-le8-clause-value c us l e =
    let fits : SFits w64 c.product_of_first.result = search rules in rw (to_z-of_z fits)
    (product_in_use _ us _ 8 (18 - c.args.count) _ l (omega arith) (omega arith) (rw e at c.product_of_first.ensures.value))

pub returns-else-count-le8-clause-value : goal.returns-else-count-le8-clause-value
returns-else-count-le8-clause-value c us l e =
    let fits : SFits w64 c.product_of_first-else-count-le8.result = search rules in rw (to_z-of_z fits)
    (product_in_use _ us _ 18 (18 - c.args.count) _ l (omega arith) (omega arith) (rw e at c.product_of_first-else-count-le8.ensures.value))
