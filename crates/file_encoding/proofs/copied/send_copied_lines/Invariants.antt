use Rattle.std.proofs.Common.{◌≡◌, ◌-◌, ◌*◌, ◌^◌, ◌<◌, ◌≤◌, [], length, drop, true}
use Rattle.std.specs.List.{flat_map, AllByRecursion}
use Rattle.cube_core.specs.Order.{upto}
use Rattle.sample_prediction.specs.HandedRows.{row_size}
use Rattle.file_encoding.specs.ByPlanes.{IsRow}
use Rattle.file_encoding.specs.Own.{line_of}
use Rattle.file_encoding.specs.Walks.{AreAt, bands_of}
use Rattle.file_encoding.proofs.CopiedRows.{HasFirstLines}
use Rattle.file_encoding.proofs.copied.send_copied_lines.Given as goal

abbrev pub invariant-loop-y : goal.invariant-loop-y
invariant-loop-y g l = record {
  at : AreAt l.params l.cube (l.y * l.params.shape.columns) l.bands;
  same : bands_of l.bands ≡ bands_of l.initial.bands;
  sent : g.T.Taker.takes l.initial.taker l.taker true (flat_map (λ y. line_of l.params l.cube 0 [] l.depth y) (upto l.y));
  size : length l.handed.offsets ≡ l.y * row_size l.params.shape;
  range : AllByRecursion (λ v. v < 2 ^ l.params.kind.bits) l.handed.offsets;
  lines : HasFirstLines l.cube l.handed.offsets l.y;
  last : 1 ≤ l.y → l.present.items ≡ drop ((l.y - 1) * row_size l.params.shape) l.handed.offsets;
  present : IsRow l.params l.present.items;
  above : IsRow l.params l.above.items;
}
