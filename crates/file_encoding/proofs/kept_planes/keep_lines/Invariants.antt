use Rattle.file_encoding.specs.ByPlanes.{AreSameBut, HasLinesOf}
use Rattle.file_encoding.proofs.kept_planes.keep_lines.Given as goal

abbrev pub invariant-loop-k : goal.invariant-loop-k
invariant-loop-k l = record {
  lines : HasLinesOf l.params.shape l.base l.y l.planes l.k l.row;
  others : AreSameBut l.params.shape l.y l.initial.planes l.planes;
}
