use Rattle.std.proofs.Common.{rules}
use Rattle.sample_adaptive.proofs.column.take_residual.Goals as goal

pub returns-then-first-clause-reads : goal.returns-then-first-clause-reads
returns-then-first-clause-reads c = search rules

pub returns-clause-counts : goal.returns-clause-counts
returns-clause-counts c = search rules
