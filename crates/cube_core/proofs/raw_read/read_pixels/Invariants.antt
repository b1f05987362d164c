use Rattle.std.proofs.Common.{◌+◌, ◌-◌, ◌*◌, ◌≤◌}
use Rattle.cube_core.proofs.Words.{AreOffsets, AreReadTo, IsReadAt}
use Rattle.cube_core.proofs.Parts.{EachOfBlock}
use Rattle.cube_core.proofs.raw_read.read_pixels.Given as goal

abbrev pub invariant-loop-z : goal.invariant-loop-z
invariant-loop-z l = record {
  offsets : AreOffsets l.shape l.fn.kind l.offsets;
  read : EachOfBlock l.shape (IsReadAt l.shape l.fn.kind l.layout (l.part.first * l.shape.bands) l.bytes l.fn.offsets
      l.offsets) (l.part.first + l.pixel) l.block l.z;
}

abbrev pub invariant-loop-pixel : goal.invariant-loop-pixel
invariant-loop-pixel l = record {
  within : l.pixel ≤ l.part.count;
  offsets : AreOffsets l.shape l.fn.kind l.offsets;
  read : AreReadTo l.shape l.fn.kind l.layout (l.part.first * l.shape.bands) (l.pixel * l.shape.bands) l.bytes l.initial.offsets l.offsets;
}

abbrev pub decreases-loop-pixel : goal.decreases-loop-pixel
decreases-loop-pixel l = l.part.count - l.pixel
