use Rattle.std.proofs.Common.{◌≡◌, ◌+◌, ◌*◌, ◌-◌, ◌<◌, ◌≤◌, ◌∷◌, [], ◌++◌, ℕ, length, get_or}
use Rattle.std.specs.List.{flat_map}
use Rattle.cube_core.specs.Order.{upto}
use Rattle.file_encoding.specs.Own.{column_of}
use Rattle.file_encoding.specs.Pieces.{row_start}
use Rattle.file_encoding.specs.Walks.{AreAt, bands_of}
use Rattle.file_encoding.proofs.side_by_side.keep_row.Given as goal

abbrev pub invariant-loop-x : goal.invariant-loop-x
invariant-loop-x l = record {
  within : l.x ≤ l.rows.image.shape.columns;
  at : AreAt l.params l.rows.image (l.rows.y * l.rows.image.shape.columns + l.x) l.bands;
  same : bands_of l.bands ≡ bands_of l.initial.bands;
  kept : (k : ℕ) → k < length l.initial.bands → row_start l.stretch k (l.start + l.x) l.room ≡ row_start l.stretch k l.start l.initial.room
      ++ flat_map (λ i. column_of l.params l.rows.image (get_or (bands_of l.initial.bands) k 0 ∷ []) l.rows.y i) (upto l.x);
  left : (k i : ℕ) → l.start + l.x ≤ i → i < l.stretch → get_or l.room (k * l.stretch + i) 0 ≡ get_or l.initial.room (k * l.stretch + i) 0;
}

abbrev pub decreases-loop-x : goal.decreases-loop-x
decreases-loop-x l = l.columns - l.x
