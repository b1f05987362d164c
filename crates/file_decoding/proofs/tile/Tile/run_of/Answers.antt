use Rattle.std.proofs.Common.{rules}
use Rattle.file_decoding.proofs.tile.Tile.run_of.Goals as goal

pub loop-i-preserved : goal.loop-i-preserved
loop-i-preserved c = search rules
