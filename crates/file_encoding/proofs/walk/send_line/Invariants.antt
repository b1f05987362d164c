use Rattle.std.proofs.Common.{◌≡◌, ◌+◌, ◌*◌, min, length, true}
use Rattle.std.specs.List.{flat_map}
use Rattle.cube_core.specs.Order.{upto, group}
use Rattle.file_encoding.specs.Own.{own, row_of}
use Rattle.file_encoding.specs.Walks.{IsAt}
use Rattle.file_encoding.proofs.Sending.{Parted}
use Rattle.file_encoding.proofs.walk.send_line.Given as goal

abbrev pub invariant-loop-i : goal.invariant-loop-i
invariant-loop-i g l = record {
  first : l.first ≡ min (l.i * l.depth) l.rows.image.shape.bands;
  slot : l.slot ≡ length (own l.predictor l.deal (upto l.first));
  parted : Parted (IsAt l.params l.rows.image ((l.rows.y + 1) * l.rows.image.shape.columns)) l.params l.rows.image (l.rows.y * l.rows.image.shape.columns) l.slot l.bands l.initial.bands;
  sent : g.T.Taker.takes l.initial.taker l.taker true
      (flat_map (λ i. row_of l.params l.rows.image (own l.predictor l.deal (group l.rows.image.shape l.depth i)) l.rows.y) (upto l.i));
}
