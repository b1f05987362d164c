use Rattle.file_encoding.specs.ByPlanes.{IsRow}
use Rattle.file_encoding.specs.InPlace.{HasLinesAt}
use Rattle.file_encoding.proofs.copied.copy_row.Given as goal

abbrev pub invariant-loop-z : goal.invariant-loop-z
invariant-loop-z l = record {
  lines : HasLinesAt l.cube l.y l.z l.row;
  row : IsRow l.params l.row;
}
