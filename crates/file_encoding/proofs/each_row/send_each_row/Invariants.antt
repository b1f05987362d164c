use Rattle.std.proofs.Common.{◌+◌, ◌*◌, ◌-◌, ◌∷◌, [], true, take, length}
use Rattle.std.specs.List.{flat_map}
use Rattle.file_encoding.specs.Own.{row_of}
use Rattle.file_encoding.specs.Walks.{IsAt, bands_of}
use Rattle.file_encoding.proofs.Sending.{Parted}
use Rattle.file_encoding.proofs.each_row.send_each_row.Given as goal

abbrev pub invariant-loop-first : goal.invariant-loop-first
invariant-loop-first g l = record {
  parted : Parted (IsAt l.params l.rows.image ((l.rows.y + 1) * l.rows.image.shape.columns)) l.params l.rows.image (l.rows.y * l.rows.image.shape.columns) l.first l.bands l.initial.bands;
  sent : g.T.Taker.takes l.initial.taker l.taker true
      (flat_map (λ z. row_of l.params l.rows.image (z ∷ []) l.rows.y) (take l.first (bands_of l.initial.bands)));
}

abbrev pub decreases-loop-first : goal.decreases-loop-first
decreases-loop-first g l = length l.bands - l.first
