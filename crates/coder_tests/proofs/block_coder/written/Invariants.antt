use Rattle.std.proofs.Common.{◌≡◌}
use Rattle.cube_core.specs.Shape.{sample_count}
use Rattle.block_adaptive.specs.Settings.{IsCutOf, cut_by}
use Rattle.block_adaptive.specs.Taken.{taken_count}
use Rattle.coder_tests.proofs.block_coder.written.Given as goal

abbrev pub invariant-loop-number : goal.invariant-loop-number
invariant-loop-number g l = record {
  cut : l.blocks.cut ≡ cut_by l.params;
  room : IsCutOf (sample_count l.params.shape) l.blocks.cut;
  count : taken_count l.blocks ≡ l.number-index;
}
