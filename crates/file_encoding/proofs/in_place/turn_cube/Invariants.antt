use Rattle.std.proofs.Common.{◌≡◌, ◌-◌, ◌*◌, ◌^◌, ◌<◌, ◌≤◌, length, drop}
use Rattle.std.specs.List.{AllByRecursion}
use Rattle.sample_prediction.specs.HandedRows.{row_size}
use Rattle.file_encoding.specs.ByPlanes.{IsRow}
use Rattle.file_encoding.specs.InPlace.{AreTurned}
use Rattle.file_encoding.specs.Walks.{AreAt, bands_of}
use Rattle.file_encoding.proofs.CopiedRows.{HasFirstLines}
use Rattle.file_encoding.proofs.in_place.turn_cube.Given as goal

abbrev pub invariant-loop-y : goal.invariant-loop-y
invariant-loop-y l = record {
  turned : AreTurned l.params l.initial.cube l.cube l.y;
  at : AreAt l.params l.initial.cube (l.y * l.params.shape.columns) l.bands;
  same : bands_of l.bands ≡ bands_of l.initial.bands;
  size : length l.handed.offsets ≡ l.y * row_size l.params.shape;
  range : AllByRecursion (λ v. v < 2 ^ l.params.kind.bits) l.handed.offsets;
  lines : HasFirstLines l.initial.cube l.handed.offsets l.y;
  last : 1 ≤ l.y → l.present.items ≡ drop ((l.y - 1) * row_size l.params.shape) l.handed.offsets;
  present : IsRow l.params l.present.items;
  above : IsRow l.params l.above.items;
}
