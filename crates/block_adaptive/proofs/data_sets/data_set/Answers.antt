use Rattle.std.proofs.Common.{rules}
use Rattle.block_adaptive.specs.Reading.{data_set_at}
use Rattle.block_adaptive.proofs.data_sets.data_set.Goals as goal

pub returns-in_err-found-clause-read : goal.returns-in_err-found-clause-read
unfolding data_set_at
returns-in_err-found-clause-read c = search rules

pub returns-then-more-eq0-clause-read : goal.returns-then-more-eq0-clause-read
unfolding data_set_at
returns-then-more-eq0-clause-read c = search rules

pub returns-in_err-split-clause-read : goal.returns-in_err-split-clause-read
unfolding data_set_at
returns-in_err-split-clause-read c = search rules

pub returns-in_ok-split-clause-read : goal.returns-in_ok-split-clause-read
unfolding data_set_at
returns-in_ok-split-clause-read c = search rules
