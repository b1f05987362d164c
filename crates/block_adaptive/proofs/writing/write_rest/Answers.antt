use Rattle.std.proofs.Common.{rules}
use Rattle.block_adaptive.specs.DataSets.{spelled, rest_code}
use Rattle.block_adaptive.proofs.writing.write_rest.Goals as goal

pub returns-clause-appended : goal.returns-clause-appended
unfolding spelled rest_code
returns-clause-appended c = search rules
