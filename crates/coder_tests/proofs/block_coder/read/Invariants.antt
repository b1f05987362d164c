use Rattle.std.proofs.Common.{◌≡◌}
use Rattle.cube_core.specs.Shape.{sample_count}
use Rattle.block_adaptive.specs.Settings.{IsCutOf}
use Rattle.block_adaptive.specs.Given.{given_count}
use Rattle.coder_tests.proofs.block_coder.read.Given as goal

abbrev pub invariant-loop-number : goal.invariant-loop-number
invariant-loop-number g l = record {
  room : IsCutOf (sample_count l.params.shape) l.blocks.cut;
  count : given_count l.blocks ≡ l._number;
}
