use Rattle.std.proofs.Common.{◌≡◌, ◌+◌, ◌-◌, ◌*◌, ℕ, List, ◌∷◌, [], true, length, take, ap, sym, arith, ◌∙◌}
use Rattle.std.specs.List.{flat_map}
use Rattle.std.proofs.lemmas.List.{length-map}
use Rattle.file_encoding.specs.Own.{row_of}
use Rattle.file_encoding.specs.Pieces.{row_start}
use Rattle.file_encoding.specs.Walks.{bands_of}
use Rattle.file_encoding.proofs.Sending.{Steps}
use Rattle.file_encoding.proofs.KeptRows.{kept_rows, others_sent}
use Rattle.file_encoding.proofs.each_row.send_next_rows.Goals as goal
use Rattle.file_encoding.proofs.each_row.send_next_rows.Goals.{After-send_first_row}
use Rattle.file_encoding.proofs.each_row.send_next_rows.Given.{Over}

-- the first row was sent, and the others are there
module _ (g : Over) (c : After-send_first_row g) (went : c.send_first_row.result ≡ true) where
  abbrev row : ℕ → List ℕ
  row z = row_of c.args.params.now c.args.rows.now.image (z ∷ []) c.args.rows.now.y

  abbrev kept : List ℕ
  kept = take ((length c.send_first_row.new.bands - 1) * c.columns-columns.result) c.send_first_row.new.room

  step : Steps g.T.Taker.may g.T.Taker.takes c.args.taker.now c.send_first_row.new.taker (flat_map row (bands_of c.args.bands.now)) kept
      (flat_map row (bands_of c.args.bands.now))
  step =
      let zs = bands_of c.args.bands.now in
      let columns = c.columns-columns.result in
      let many : length zs ≡ length c.args.bands.now = length-map c.args.bands.now (λ b. b.band) in
      let size : length c.send_first_row.new.bands ≡ length zs =
      sym (length-map c.send_first_row.new.bands (λ b. b.band)) ∙ ap (λ (v : List ℕ). length v) c.send_first_row.ensures.same in
      let all : columns ≡ 0 + c.args.rows.now.image.shape.columns = omega (arith, ap (λ s. s.columns) c.shape.ensures) in
      others_sent g.met.T.Taker.laws row zs (omega (arith, c.requires.some, many)) c.requires.may (rw went at c.send_first_row.ensures.sent)
      (kept_rows row columns (length c.send_first_row.new.bands) c.send_first_row.new.room zs size (λ k lt.
      ap (λ n. row_start columns k n c.send_first_row.new.room) all ∙ c.send_first_row.ensures.kept went k (omega (arith, lt, many))))

pub take-requires : goal.take-requires
take-requires g c = (step g (goal.at.take-requires g c).After-send_first_row c.if-not-send_first_row.false).fits

pub returns-clause-sent : goal.returns-clause-sent
returns-clause-sent g c =
    (step g (goal.at.returns-clause-sent g c).After-send_first_row c.if-not-send_first_row.false).so_far _ _ c.take.ensures
