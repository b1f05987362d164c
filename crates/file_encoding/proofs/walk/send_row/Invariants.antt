use Rattle.std.proofs.Common.{◌≡◌, ◌+◌, ◌*◌, ◌-◌, ◌≤◌, true}
use Rattle.std.specs.List.{flat_map}
use Rattle.cube_core.specs.Order.{upto}
use Rattle.file_encoding.specs.Own.{column_of}
use Rattle.file_encoding.specs.Walks.{AreAt, bands_of}
use Rattle.file_encoding.proofs.walk.send_row.Given as goal

abbrev pub invariant-loop-x : goal.invariant-loop-x
invariant-loop-x g l = record {
  within : l.x ≤ l.rows.image.shape.columns;
  at : AreAt l.params l.rows.image (l.rows.y * l.rows.image.shape.columns + l.x) l.bands;
  same : bands_of l.bands ≡ bands_of l.initial.bands;
  sent : g.T.Taker.takes l.initial.taker l.taker true (flat_map (λ x. column_of l.params l.rows.image (bands_of l.initial.bands) l.rows.y x) (upto l.x));
}

abbrev pub decreases-loop-x : goal.decreases-loop-x
decreases-loop-x g l = l.columns - l.x
