use Rattle.std.proofs.Common.{rules}
use Rattle.sample_adaptive.proofs.column.take_known.Goals as goal

pub returns-clause-counts : goal.returns-clause-counts
returns-clause-counts c = search rules

pub returns-clause-reads : goal.returns-clause-reads
returns-clause-reads c = search rules
