use Rattle.std.proofs.Common.{◌≡◌, ◌*◌, ◌<◌, ◌∷◌, [], ℕ, length, get_or}
use Rattle.std.specs.List.{flat_map}
use Rattle.cube_core.specs.Order.{upto}
use Rattle.file_encoding.specs.Own.{row_of}
use Rattle.file_encoding.specs.Pieces.{row_start}
use Rattle.file_encoding.specs.Walks.{AreAt, bands_of}
use Rattle.file_encoding.proofs.each_plane.send_all_planes.Given as goal

abbrev pub invariant-loop-y : goal.invariant-loop-y
invariant-loop-y g l = record {
  at : AreAt l.params l.cube (l.y * l.cube.shape.columns) l.bands;
  same : bands_of l.bands ≡ bands_of l.initial.bands;
  kept : (k : ℕ) → k < length l.initial.bands → row_start l.plane k (l.y * l.cube.shape.columns) l.room
      ≡ flat_map (λ y. row_of l.params l.cube (get_or (bands_of l.initial.bands) k 0 ∷ []) y) (upto l.y);
}
