use Rattle.std.proofs.Common.{◌+◌, ◌-◌, ◌*◌, ◌≤◌}
use Rattle.cube_core.proofs.Words.{AreWrittenTo, IsWrittenAt}
use Rattle.cube_core.proofs.Parts.{EachOfBlock}
use Rattle.cube_core.proofs.raw_write.write_pixels.Given as goal

abbrev pub invariant-loop-z : goal.invariant-loop-z
invariant-loop-z l = EachOfBlock l.shape (IsWrittenAt l.shape l.fn.kind l.layout (l.part.first * l.shape.bands) l.offsets l.bytes) (l.part.first + l.pixel)
    l.block l.z

abbrev pub invariant-loop-pixel : goal.invariant-loop-pixel
invariant-loop-pixel l = record {
  within : l.pixel ≤ l.part.count;
  written : AreWrittenTo l.shape l.fn.kind l.layout (l.part.first * l.shape.bands) (l.pixel * l.shape.bands) l.offsets l.bytes;
}

abbrev pub decreases-loop-pixel : goal.decreases-loop-pixel
decreases-loop-pixel l = l.part.count - l.pixel
