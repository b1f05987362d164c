use Rattle.std.proofs.Common.{◌≡◌, ◌*◌, ◌∷◌, [], true}
use Rattle.std.specs.List.{flat_map}
use Rattle.cube_core.specs.Order.{upto}
use Rattle.file_encoding.specs.Own.{row_of}
use Rattle.file_encoding.specs.Walks.{AreAt, bands_of}
use Rattle.file_encoding.proofs.each_row.send_each_line.Given as goal

abbrev pub invariant-loop-y : goal.invariant-loop-y
invariant-loop-y g l = record {
  at : AreAt l.params l.cube (l.y * l.cube.shape.columns) l.bands;
  same : bands_of l.bands ≡ bands_of l.initial.bands;
  sent : g.T.Taker.takes l.initial.taker l.taker true
      (flat_map (λ y. flat_map (λ z. row_of l.params l.cube (z ∷ []) y) (bands_of l.initial.bands)) (upto l.y));
}
