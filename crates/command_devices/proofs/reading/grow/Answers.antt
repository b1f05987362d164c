use Rattle.std.proofs.Common.{rules}
use Rattle.command_devices.proofs.reading.grow.Goals as goal

pub returns-clause-grown : goal.returns-clause-grown
returns-clause-grown c = search rules

pub returns-clause-limited : goal.returns-clause-limited
returns-clause-limited c = search rules

pub returns-clause-doubled : goal.returns-clause-doubled
returns-clause-doubled c = search rules
