use Rattle.cube_core.proofs.Spelled.{wide_enough}
use Rattle.cube_core.proofs.laws.wide_enough.Goals as goal

pub returns : goal.returns
returns c = wide_enough
