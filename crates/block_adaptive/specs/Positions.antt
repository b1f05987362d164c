-- The position of a block among the others.
use Rattle.std.specs.Prelude.{ℕ, ◌<◌}
use Rattle.cube_core.specs.Shape.{InRange}
use Rattle.block_adaptive.specs.declared.segments.Position.{Position}
use Rattle.block_adaptive.specs.Segments.{segment_rest}

-- the block is one of `count`, and r is 1 to 4096
pub record IsPosition (p : Position) : Type 0 where
  pub reference : InRange 1 4096 p.reference
  pub block : p.block < p.count

-- the number of blocks from this block to the end of its segment
abbrev pub blocks_from : Position → ℕ
blocks_from p = segment_rest p.reference p.count p.block
