use Rattle.std.proofs.Common.{◌≡◌, take}
use Rattle.cube_core.specs.Shape.{sample_count}
use Rattle.block_adaptive.specs.Settings.{IsCutOf, cut_by}
use Rattle.block_adaptive.specs.Taken.{HasTaken, taken_count}
use Rattle.speed.proofs.block_coder.encoded.Given as goal

abbrev pub invariant-loop-number : goal.invariant-loop-number
invariant-loop-number l = record {
  cut : l.blocks.cut ≡ cut_by l.params;
  room : IsCutOf (sample_count l.params.shape) l.blocks.cut;
  count : taken_count l.blocks ≡ l.number-index;
  taken : HasTaken l.blocks (take l.number-index l.numbers) l.writer.bits;
}
