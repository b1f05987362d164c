use Rattle.std.proofs.Common.{rules}
use Rattle.std.proofs.lemmas.Int.{ints}
use Rattle.sample_prediction.proofs.sample_limits.SampleLimits.of.Goals as goal

pub invariant_of-result-clause-smid_is : goal.invariant_of-result-clause-smid_is
invariant_of-result-clause-smid_is c = search rules

pub invariant_of-result-clause-mid : goal.invariant_of-result-clause-mid
invariant_of-result-clause-mid c = search (rules, ints)
