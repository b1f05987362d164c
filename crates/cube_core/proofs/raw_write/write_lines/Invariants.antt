use Rattle.std.proofs.Common.{◌≡◌, ◌+◌, ◌*◌, ◌<◌}
use Rattle.cube_core.proofs.Words.{AreWrittenTo}
use Rattle.cube_core.proofs.raw_write.write_lines.Given as goal

abbrev pub invariant-loop-line : goal.invariant-loop-line
invariant-loop-line l = record {
  spot : l.y * l.shape.bands + l.z ≡ l.part.first + l.line;
  band : l.z < l.shape.bands;
  written : AreWrittenTo l.shape l.fn.kind l.layout (l.part.first * l.shape.columns) (l.line * l.shape.columns) l.offsets l.bytes;
}
