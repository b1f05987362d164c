use Rattle.std.proofs.Common.{rules}
use Rattle.block_adaptive.specs.Reading.{run_at}
use Rattle.block_adaptive.proofs.data_sets.run.Goals as goal

pub returns-in_err-zeros-clause-fault : goal.returns-in_err-zeros-clause-fault
unfolding run_at
returns-in_err-zeros-clause-fault c = search rules

pub returns-then-zeros-limit-clause-fault : goal.returns-then-zeros-limit-clause-fault
unfolding run_at
returns-then-zeros-limit-clause-fault c = search rules

pub returns-then-zeros-eq4-clause-found : goal.returns-then-zeros-eq4-clause-found
unfolding run_at
returns-then-zeros-eq4-clause-found c = search rules

pub returns-then-named-from-clause-fault : goal.returns-then-named-from-clause-fault
unfolding run_at
returns-then-named-from-clause-fault c = search rules

pub returns-clause-found : goal.returns-clause-found
unfolding run_at
returns-clause-found c = search rules
