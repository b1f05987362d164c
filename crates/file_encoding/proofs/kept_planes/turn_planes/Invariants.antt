use Rattle.std.proofs.Common.{◌≡◌, ◌-◌, ◌*◌, ◌^◌, ◌<◌, ◌≤◌, ◌∷◌, [], ℕ, length, drop, get_or}
use Rattle.std.specs.List.{flat_map, AllByRecursion}
use Rattle.cube_core.specs.Order.{upto}
use Rattle.sample_prediction.specs.HandedRows.{image_of_rows, row_size}
use Rattle.file_encoding.specs.ByPlanes.{IsRow, least_kept}
use Rattle.file_encoding.specs.Own.{row_of}
use Rattle.file_encoding.specs.Pieces.{row_start}
use Rattle.file_encoding.specs.Walks.{AreAt, bands_of}
use Rattle.file_encoding.proofs.TurnedPlanes.{AreSameFrom, HasRowsOf}
use Rattle.file_encoding.proofs.kept_planes.turn_planes.Given as goal

abbrev pub invariant-loop-y : goal.invariant-loop-y
invariant-loop-y l = record {
  at : AreAt l.params (image_of_rows l.params.shape l.params.kind l.handed.offsets) (l.y * l.params.shape.columns) l.bands;
  same : bands_of l.bands ≡ bands_of l.initial.bands;
  size : length l.handed.offsets ≡ l.y * row_size l.params.shape;
  range : AllByRecursion (λ v. v < 2 ^ l.params.kind.bits) l.handed.offsets;
  own : HasRowsOf l.params.shape l.first l.initial.planes (length l.initial.bands) l.handed.offsets l.y;
  before : HasRowsOf l.params.shape (least_kept l.params l.first) l.initial.previous (l.first - least_kept l.params l.first) l.handed.offsets l.y;
  left : AreSameFrom l.params.shape l.y l.initial.planes l.planes;
  previous_left : AreSameFrom l.params.shape l.y l.initial.previous l.previous;
  last : 1 ≤ l.y → l.present.items ≡ drop ((l.y - 1) * row_size l.params.shape) l.handed.offsets;
  present : IsRow l.params l.present.items;
  above : IsRow l.params l.above.items;
  turned : (k : ℕ) → k < length l.initial.bands → row_start l.plane k (l.y * l.params.shape.columns) l.planes
      ≡ flat_map (λ y. row_of l.params (image_of_rows l.params.shape l.params.kind l.handed.offsets) (get_or (bands_of l.initial.bands) k 0 ∷ []) y) (upto l.y);
  moved : HasRowsOf l.params.shape l.least l.previous l.many l.handed.offsets l.y;
}
