use Rattle.std.proofs.Common.{◌≡◌, ◌≤◌, ◌+◌, ap, refl, sym, arith, ◌∙◌}
use Rattle.std.proofs.lemmas.Bool.{eqb-true}
use Rattle.std.proofs.lemmas.List.{nil_from_length}
use Rattle.std.specs.List.{flat_map}
use Rattle.cube_core.specs.Order.{upto}
use Rattle.file_encoding.specs.Own.{column_of, row_of}
use Rattle.file_encoding.specs.Walks.{bands_of}
use Rattle.file_encoding.specs.Pieces.{held_of}
use Rattle.file_encoding.proofs.Sending.{Steps, at_same, none_yet, stepped, piece_rest, row_of_none}
use Rattle.file_encoding.proofs.RowPieces.{held_is, past_at}
use Rattle.file_encoding.proofs.walk.send_row.Goals as goal
use Rattle.file_encoding.proofs.walk.send_row.Goals.{After-predict_pieces}
use Rattle.file_encoding.proofs.walk.send_row.Given.{Over}

module _ (g : Over) (c : After-predict_pieces g) where
  within : c.loop-x.x + c.min-count.result ≤ c.args.rows.now.image.shape.columns
  within = omega (arith, ap (λ s. s.columns) c.shape.ensures)

  same : bands_of c.predict_pieces.new.bands ≡ bands_of c.args.bands.now
  same = c.predict_pieces.ensures.same ∙ c.loop-x.invariant.same

  step : Steps g.T.Taker.may g.T.Taker.takes c.args.taker.now c.loop-x.taker
      (row_of c.args.params.now c.args.rows.now.image (bands_of c.args.bands.now) c.args.rows.now.y) (held_of c.predict_pieces.new.bands c.min-count.result)
      (flat_map (λ x. column_of c.args.params.now c.args.rows.now.image (bands_of c.args.bands.now) c.args.rows.now.y x) (upto (c.loop-x.x + c.min-count.result)))
  unfolding row_of
  step =
      stepped g.met.T.Taker.laws c.loop-x.invariant.sent c.requires.may (piece_rest _ _ _ _ within)
      (held_is _ _ _ _ _ _ _ c.predict_pieces.ensures.past same)

pub returns-then-is_empty-clause-sent : goal.returns-then-is_empty-clause-sent
returns-then-is_empty-clause-sent g c =
    let none = nil_from_length c.args.bands.now (eqb-true _ 0 (sym c.is_empty.ensures ∙ c.if-is_empty.true)) in
    rw (none, row_of_none) (none_yet g.met.T.Taker.laws c.requires.may)

pub send_pieces-requires-clause-may : goal.send_pieces-requires-clause-may
send_pieces-requires-clause-may g c = (step g (goal.at.send_pieces-requires-clause-may g c).After-predict_pieces).fits

pub returns-then-not-send_pieces-clause-sent : goal.returns-then-not-send_pieces-clause-sent
returns-then-not-send_pieces-clause-sent g c =
    (step g (goal.at.returns-then-not-send_pieces-clause-sent g c).After-predict_pieces).cut _ _ c.if-not-send_pieces.true c.send_pieces.ensures.sent

pub loop-x-preserved : goal.loop-x-preserved
loop-x-preserved g c =
    let d = (goal.at.loop-x-preserved g c).After-predict_pieces in
    record {
      within = within g d;
      at = past_at _ _ _ _ _ _ c.predict_pieces.ensures.past (omega arith);
      same = same g d;
      sent = (step g d).more _ _ c.if-not-send_pieces.false c.send_pieces.ensures.sent;
    }

pub returns-clause-sent : goal.returns-clause-sent
unfolding row_of
returns-clause-sent g c =
    let all : c.loop-x.x ≡ c.args.rows.now.image.shape.columns = omega (arith, ap (λ s. s.columns) c.shape.ensures) in
    rw all at c.loop-x.invariant.sent

pub loop-x-init : goal.loop-x-init
loop-x-init g c =
    record { within = omega arith; at = at_same _ _ _ _ _ c.requires.at (omega arith); same = refl; sent = none_yet g.met.T.Taker.laws c.requires.may }
