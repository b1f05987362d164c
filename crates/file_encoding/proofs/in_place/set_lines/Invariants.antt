use Rattle.file_encoding.specs.InPlace.{AreLinesSet}
use Rattle.file_encoding.specs.Pieces.{row_start}
use Rattle.file_encoding.proofs.in_place.set_lines.Given as goal

abbrev pub invariant-loop-k : goal.invariant-loop-k
invariant-loop-k l = record {
  set : AreLinesSet l.initial.cube l.cube l.first l.y l.k (λ k. row_start l.initial.cube.shape.columns k l.initial.cube.shape.columns l.lines);
}
