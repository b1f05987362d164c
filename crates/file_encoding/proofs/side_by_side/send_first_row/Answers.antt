use Rattle.std.proofs.Common.{◌≡◌, ◌≤◌, ◌<◌, ◌+◌, ℕ, List, ◌∷◌, [], length, take, get_or, ap, ap₂, refl, sym, arith, ◌∙◌, ◌++◌, append_assoc, append-nil}
use Rattle.std.specs.List.{flat_map}
use Rattle.cube_core.specs.Order.{from, upto}
use Rattle.predict_core.specs.Following.{PredictorState}
use Rattle.file_encoding.specs.Own.{column_of, row_of}
use Rattle.file_encoding.specs.Pieces.{row_start}
use Rattle.file_encoding.specs.Walks.{bands_of}
use Rattle.file_encoding.proofs.Sending.{Steps, at_same, none_yet, stepped, piece_rest}
use Rattle.file_encoding.proofs.RowPieces.{row_piece, past_at}
use Rattle.file_encoding.proofs.side_by_side.send_first_row.Goals as goal
use Rattle.file_encoding.proofs.side_by_side.send_first_row.Goals.{After-piece_residuals}
use Rattle.file_encoding.proofs.side_by_side.send_first_row.Given.{Over}

module _ (g : Over) (c : After-piece_residuals g) where
  abbrev column : ℕ → ℕ → List ℕ
  column k x = column_of c.args.params.now c.args.rows.now.image (get_or (bands_of c.args.bands.now) k 0 ∷ []) c.args.rows.now.y x

  within : c.loop-x.x + c.min-count.result ≤ c.args.rows.now.image.shape.columns
  within = omega (arith, ap (λ s. s.columns) c.shape.ensures)

  same : bands_of c.predict_pieces.new.bands ≡ bands_of c.args.bands.now
  same = c.predict_pieces.ensures.same ∙ c.loop-x.invariant.same

  held : (k : ℕ) (b : PredictorState) (numbers : List ℕ) → k < length c.args.bands.now
      → numbers ≡ take c.min-count.result (get_or c.predict_pieces.new.bands k b).piece
      → numbers ≡ flat_map (column k) (from c.loop-x.x c.min-count.result)
  held k b numbers lt is = row_piece _ _ _ _ _ k c.predict_pieces.new.bands _ b numbers (omega (arith, lt)) c.predict_pieces.ensures.past same is

  step : Steps g.T.Taker.may g.T.Taker.takes c.args.taker.now c.loop-x.taker
      (row_of c.args.params.now c.args.rows.now.image (get_or (bands_of c.args.bands.now) 0 0 ∷ []) c.args.rows.now.y) c.piece_residuals.result.now
      (flat_map (column 0) (upto (c.loop-x.x + c.min-count.result)))
  unfolding row_of
  step =
      stepped g.met.T.Taker.laws c.loop-x.invariant.sent c.requires.may (piece_rest (column 0) _ _ c.args.rows.now.image.shape.columns within)
      (held 0 _ _ (omega (arith, c.requires.some)) c.piece_residuals.ensures.value)

pub take-requires : goal.take-requires
take-requires g c = (step g (goal.at.take-requires g c).After-piece_residuals).fits

pub returns-then-not-take-clause-sent : goal.returns-then-not-take-clause-sent
returns-then-not-take-clause-sent g c =
    (step g (goal.at.returns-then-not-take-clause-sent g c).After-piece_residuals).cut _ _ c.if-not-take.true c.take.ensures

pub loop-x-preserved : goal.loop-x-preserved
loop-x-preserved g c =
    let d = (goal.at.loop-x-preserved g c).After-piece_residuals in
    let b = c.index-bands-0.result in
    record {
      within = within g d;
      at = past_at _ _ _ _ _ _ c.predict_pieces.ensures.past (omega arith);
      same = same g d;
      sent = (step g d).more _ _ c.if-not-take.false c.take.ensures;
      kept = λ k lt.
          let next = (piece_rest (column g d (k + 1)) c.loop-x.x c.min-count.result c.args.rows.now.image.shape.columns (within g d)).more in
          let many : k + 1 < length c.predict_pieces.new.bands = omega (arith, lt) in
          let place : c.args.start + (c.loop-x.x + c.min-count.result) ≡ c.args.start + c.loop-x.x + c.min-count.result = omega arith in
          ap (λ i. row_start c.args.stretch k i c.keep_pieces.new.room) place ∙ c.keep_pieces.ensures.kept k b many
          ∙ ap₂ (λ xs ys. xs ++ ys) (c.loop-x.invariant.kept k lt) (held g d (k + 1) b _ lt refl)
          ∙ append_assoc (row_start c.args.stretch k c.args.start c.args.room.now) _ _
          ∙ ap (λ xs. row_start c.args.stretch k c.args.start c.args.room.now ++ xs) (sym next);
    }

pub loop-x-init : goal.loop-x-init
loop-x-init g c = record {
  within = omega arith;
  at = at_same _ _ _ _ _ c.requires.at (omega arith);
  same = refl;
  sent = none_yet g.met.T.Taker.laws c.requires.may;
  kept = λ k lt.
      let place : c.args.start + 0 ≡ c.args.start = omega arith in
      ap (λ i. row_start c.args.stretch k i c.args.room.now) place ∙ sym (append-nil (row_start c.args.stretch k c.args.start c.args.room.now));
}

pub returns-clause-sent : goal.returns-clause-sent
unfolding row_of
returns-clause-sent g c =
    let all : c.loop-x.x ≡ c.args.rows.now.image.shape.columns = omega (arith, ap (λ s. s.columns) c.shape.ensures) in
    rw all at c.loop-x.invariant.sent

pub returns-clause-kept : goal.returns-clause-kept
unfolding row_of
returns-clause-kept g c = λ went k lt.
    let all : c.loop-x.x ≡ c.args.rows.now.image.shape.columns = omega (arith, ap (λ s. s.columns) c.shape.ensures) in
    rw all at (c.loop-x.invariant.kept k lt)
