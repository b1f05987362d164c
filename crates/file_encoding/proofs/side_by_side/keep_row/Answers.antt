use Rattle.std.proofs.Common.{◌≡◌, ◌≤◌, ◌<◌, ◌+◌, ℕ, List, ◌∷◌, [], length, take, get_or, ap, ap₂, refl, sym, arith, ◌∙◌, ◌++◌, append_assoc, append-nil}
use Rattle.std.specs.List.{flat_map}
use Rattle.cube_core.specs.Order.{from}
use Rattle.predict_core.specs.Following.{no_band}
use Rattle.file_encoding.specs.Own.{column_of, row_of}
use Rattle.file_encoding.specs.Pieces.{row_start}
use Rattle.file_encoding.specs.Walks.{bands_of}
use Rattle.file_encoding.proofs.Sending.{at_same, piece_rest}
use Rattle.file_encoding.proofs.RowPieces.{row_piece, past_at}
use Rattle.file_encoding.proofs.side_by_side.keep_row.Goals as goal
use Rattle.file_encoding.proofs.side_by_side.keep_row.Goals.{After-keep_pieces}

module _ (c : After-keep_pieces) (k : ℕ) (lt : k < length c.args.bands.now) where
  abbrev column : ℕ → List ℕ
  column x = column_of c.args.params.now c.args.rows.now.image (get_or (bands_of c.args.bands.now) k 0 ∷ []) c.args.rows.now.y x

  abbrev kept : List ℕ
  kept = take c.min-count.result (get_or c.predict_pieces.new.bands (k + 0) no_band).piece

  held : kept ≡ flat_map column (from c.loop-x.x c.min-count.result)
  held =
      let here : k + 0 ≡ k = omega arith in
      let same : bands_of c.predict_pieces.new.bands ≡ bands_of c.args.bands.now = c.predict_pieces.ensures.same ∙ c.loop-x.invariant.same in
      row_piece _ _ _ _ _ k c.predict_pieces.new.bands _ no_band kept (omega (arith, lt)) c.predict_pieces.ensures.past same
      (ap (λ i. take c.min-count.result (get_or c.predict_pieces.new.bands i no_band).piece) here)

pub loop-x-preserved : goal.loop-x-preserved
loop-x-preserved c =
    let d = (goal.at.loop-x-preserved c).After-keep_pieces in
    let within : c.loop-x.x + c.min-count.result ≤ c.args.rows.now.image.shape.columns = omega (arith, ap (λ s. s.columns) c.shape.ensures) in
    record {
      within = within;
      at = past_at _ _ _ _ _ _ c.predict_pieces.ensures.past (omega arith);
      same = c.predict_pieces.ensures.same ∙ c.loop-x.invariant.same;
      kept = λ k lt.
          let next = (piece_rest (column d k lt) c.loop-x.x c.min-count.result c.args.rows.now.image.shape.columns within).more in
          let many : k + 0 < length c.predict_pieces.new.bands = omega (arith, lt) in
          let place : c.args.start + (c.loop-x.x + c.min-count.result) ≡ c.args.start + c.loop-x.x + c.min-count.result = omega arith in
          ap (λ i. row_start c.args.stretch k i c.keep_pieces.new.room) place ∙ c.keep_pieces.ensures.kept k no_band many
          ∙ ap₂ (λ xs ys. xs ++ ys) (c.loop-x.invariant.kept k lt) (held d k lt)
          ∙ append_assoc (row_start c.args.stretch k c.args.start c.args.room.now) _ _
          ∙ ap (λ xs. row_start c.args.stretch k c.args.start c.args.room.now ++ xs) (sym next);
      left = λ k i past inside. c.keep_pieces.ensures.left k i (omega (arith, past)) inside ∙ c.loop-x.invariant.left k i (omega (arith, past)) inside;
    }

pub loop-x-init : goal.loop-x-init
loop-x-init c = record {
  within = omega arith;
  at = at_same _ _ _ _ _ c.requires.at (omega arith);
  same = refl;
  kept = λ k lt.
      let place : c.args.start + 0 ≡ c.args.start = omega arith in
      ap (λ i. row_start c.args.stretch k i c.args.room.now) place ∙ sym (append-nil (row_start c.args.stretch k c.args.start c.args.room.now));
  left = λ k i past inside. refl;
}

pub returns-clause-kept : goal.returns-clause-kept
unfolding row_of
returns-clause-kept c = λ k lt.
    let all : c.loop-x.x ≡ c.args.rows.now.image.shape.columns = omega (arith, ap (λ s. s.columns) c.shape.ensures) in
    rw all at (c.loop-x.invariant.kept k lt)

pub returns-clause-left : goal.returns-clause-left
returns-clause-left c = λ k i past inside.
    let all : c.loop-x.x ≡ c.args.rows.now.image.shape.columns = omega (arith, ap (λ s. s.columns) c.shape.ensures) in
    c.loop-x.invariant.left k i (omega (arith, all, past)) inside
