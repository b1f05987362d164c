use Rattle.std.proofs.Common.{◌≡◌, ◌+◌, ◌*◌, ◌<◌, ℕ, get_or}
use Rattle.file_encoding.specs.ByPlanes.{HasLinesOf, IsRow}
use Rattle.file_encoding.proofs.kept_planes.put_lines.Given as goal

abbrev pub invariant-loop-k : goal.invariant-loop-k
invariant-loop-k l = record {
  lines : HasLinesOf l.params.shape l.base l.y l.planes l.k l.row;
  before : (z x : ℕ) → z < l.base → x < l.params.shape.columns
      → get_or l.row (z * l.params.shape.columns + x) 0 ≡ get_or l.initial.row (z * l.params.shape.columns + x) 0;
  row : IsRow l.params l.row;
}
