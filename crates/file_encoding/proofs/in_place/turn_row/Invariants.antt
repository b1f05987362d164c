use Rattle.std.proofs.Common.{◌≤◌, ◌+◌, ◌*◌, ◌-◌, ◌∷◌, [], length}
use Rattle.file_encoding.specs.InPlace.{AreLinesSet}
use Rattle.file_encoding.specs.Own.{row_of}
use Rattle.file_encoding.specs.Walks.{IsAt}
use Rattle.file_encoding.proofs.Sending.{Parted}
use Rattle.file_encoding.proofs.in_place.turn_row.Given as goal

abbrev pub invariant-loop-first : goal.invariant-loop-first
invariant-loop-first l = record {
  parted : Parted (IsAt l.params l.rows.image ((l.rows.y + 1) * l.rows.image.shape.columns)) l.params l.rows.image (l.rows.y * l.rows.image.shape.columns) l.first l.bands l.initial.bands;
  within : l.first ≤ length l.bands;
  set : AreLinesSet l.initial.cube l.cube 0 l.rows.y l.first (λ z. row_of l.params l.rows.image (z ∷ []) l.rows.y);
}

abbrev pub decreases-loop-first : goal.decreases-loop-first
decreases-loop-first l = length l.bands - l.first
