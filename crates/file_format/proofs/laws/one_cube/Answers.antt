use Rattle.predict_core.proofs.OneCube.{one_cube}
use Rattle.file_format.proofs.laws.one_cube.Goals as goal

pub returns : goal.returns
returns c = one_cube
