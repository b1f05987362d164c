use Rattle.std.proofs.Common.{◌-◌, SFits, to_z-of_z, w32, rules, arith, refl}
use Rattle.sample_prediction.specs.Weights.{updated_weights}
use Rattle.sample_prediction.proofs.Prefixes.{update_in_use}
use Rattle.sample_prediction.proofs.weights.update.Goals as goal

pub returns-then-count-eq0-clause-value : goal.returns-then-count-eq0-clause-value
unfolding updated_weights
returns-then-count-eq0-clause-value c us l e = rw c.if-count-eq0.true refl

pub returns-then-count-le8-clause-value : goal.returns-then-count-le8-clause-value
returns-then-count-le8-clause-value c us l e =
    let fits : SFits w32 c.sign_mask_of-sign_mask.result = search rules in update_in_use _ _ _ _ us _ _ 8 (18 - c.args.count) l (omega arith) (omega arith)
    (rw e at (simp (to_z-of_z c.ranges.exponent, to_z-of_z fits, c.sign_mask_of-sign_mask.ensures.value) at c.update_first.ensures.value))

pub returns-else-count-le8-clause-value : goal.returns-else-count-le8-clause-value
returns-else-count-le8-clause-value c us l e =
    let fits : SFits w32 c.sign_mask_of-sign_mask.result = search rules in update_in_use _ _ _ _ us _ _ 18 (18 - c.args.count) l (omega arith) (omega arith)
    (rw e at (simp (to_z-of_z c.ranges.exponent, to_z-of_z fits, c.sign_mask_of-sign_mask.ensures.value) at c.update_first-else-count-le8.ensures.value))
