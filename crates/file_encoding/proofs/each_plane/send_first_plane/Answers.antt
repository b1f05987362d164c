use Rattle.std.proofs.Common.{◌≡◌, ◌≤◌, ◌<◌, ◌+◌, ◌-◌, ◌*◌, ℕ, List, ◌∷◌, [], ◌++◌, length, take, get_or, ap, ap₂, refl, sym, arith, ◌∙◌}
use Rattle.std.specs.List.{flat_map}
use Rattle.std.proofs.lemmas.List.{length-map}
use Rattle.cube_core.specs.Order.{upto}
use Rattle.file_encoding.specs.Own.{row_of, rows_of}
use Rattle.file_encoding.specs.Pieces.{row_start}
use Rattle.file_encoding.specs.Walks.{bands_of}
use Rattle.file_encoding.proofs.Sending.{Steps, at_same, front_piece, none_yet, stepped, upto_rest}
use Rattle.file_encoding.proofs.KeptRows.{first_and_rest, kept_rows, others_sent}
use Rattle.file_encoding.proofs.each_plane.send_first_plane.Goals as goal
use Rattle.file_encoding.proofs.each_plane.send_first_plane.Goals.{In-loop-y, After-loop-y}
use Rattle.file_encoding.proofs.each_plane.send_first_plane.Given.{Over}

module _ (g : Over) (c : In-loop-y g) where
  abbrev row : ℕ → ℕ → List ℕ
  row k y = row_of c.args.params.now c.args.cube.now (get_or (bands_of c.args.bands.now) k 0 ∷ []) y

  next : c.loop-y.y < c.args.cube.now.shape.rows
  next = omega (arith, ap (λ s. s.rows) c.shape-shape.ensures)

  step : Steps g.T.Taker.may g.T.Taker.takes c.args.taker.now c.loop-y.taker
      (flat_map (λ z. rows_of c.args.params.now c.args.cube.now (z ∷ [])) (bands_of c.args.bands.now))
      (row_of c.args.params.now c.args.cube.now (get_or (bands_of c.loop-y.bands) 0 0 ∷ []) c.loop-y.y) (flat_map (row 0) (upto (c.loop-y.y + 1)))
  unfolding rows_of
  step =
      let zs = bands_of c.args.bands.now in
      let some : 1 ≤ length zs = omega (arith, c.requires.some, length-map c.args.bands.now (λ b. b.band)) in
      stepped g.met.T.Taker.laws c.loop-y.invariant.sent c.requires.may
      (rw (first_and_rest (λ z. rows_of c.args.params.now c.args.cube.now (z ∷ [])) zs some)
      (front_piece _ (upto_rest (row 0) c.loop-y.y c.args.cube.now.shape.rows next)))
      (ap (λ zs. row_of c.args.params.now c.args.cube.now (get_or zs 0 0 ∷ []) c.loop-y.y) c.loop-y.invariant.same)

pub loop-y-init : goal.loop-y-init
loop-y-init g c =
    let none : 0 * c.args.cube.now.shape.columns ≡ 0 = omega arith in
    record {
      at = at_same _ _ _ _ _ c.requires.at (omega arith);
      same = refl;
      sent = none_yet g.met.T.Taker.laws c.requires.may;
      kept = λ k lt. ap (λ n. row_start (c.rows.result * c.columns-columns.result) k n c.args.room.now) none;
    }

pub send_first_row-requires-clause-may : goal.send_first_row-requires-clause-may
send_first_row-requires-clause-may g c = rw c.of-rows.ensures ((step g (goal.at.send_first_row-requires-clause-may g c).In-loop-y).fits)

pub returns-then-not-send_first_row-clause-sent : goal.returns-then-not-send_first_row-clause-sent
returns-then-not-send_first_row-clause-sent g c =
    (step g (goal.at.returns-then-not-send_first_row-clause-sent g c).In-loop-y).cut _ _ c.if-not-send_first_row.true (rw c.of-rows.ensures at c.send_first_row.ensures.sent)

pub loop-y-preserved : goal.loop-y-preserved
loop-y-preserved g c =
    let d = (goal.at.loop-y-preserved g c).In-loop-y in
    let told = rw c.of-rows.ensures at c.send_first_row.ensures in let was = c.loop-y.invariant in
    let y = c.loop-y.y in let columns = c.args.cube.now.shape.columns in
    let plane = c.rows.result * c.columns-columns.result in
    let same : c.columns-columns.result ≡ columns = omega (arith, ap (λ s. s.columns) c.shape-shape.ensures) in
    let start : y * c.columns-columns.result ≡ y * columns = ap (λ n. y * n) same in
    let end : (y + 1) * columns ≡ y * c.columns-columns.result + columns = omega (arith, start) in
    record {
      at = told.at c.if-not-send_first_row.false;
      same = told.same ∙ was.same;
      sent = (step g d).more _ _ c.if-not-send_first_row.false told.sent;
      kept = λ k lt.
          ap (λ n. row_start plane k n c.send_first_row.new.room) end ∙ told.kept c.if-not-send_first_row.false k (omega (arith, lt))
          ∙ ap₂ (λ ns ms. ns ++ ms) (ap (λ n. row_start plane k n c.loop-y.room) start ∙ was.kept k lt)
          (ap (λ zs. row_of c.args.params.now c.args.cube.now (get_or zs (k + 1) 0 ∷ []) y) was.same)
          ∙ sym (upto_rest (row g d (k + 1)) y c.args.cube.now.shape.rows (next g d)).more;
    }

-- at the end the first plane was sent, and the others are there
module _ (g : Over) (c : After-loop-y g) where
  abbrev plane : ℕ → List ℕ
  plane z = rows_of c.args.params.now c.args.cube.now (z ∷ [])

  last_step : Steps g.T.Taker.may g.T.Taker.takes c.args.taker.now c.loop-y.taker (flat_map plane (bands_of c.args.bands.now))
      (take ((length c.loop-y.bands - 1) * (c.rows.result * c.columns-columns.result)) c.loop-y.room) (flat_map plane (bands_of c.args.bands.now))
  unfolding rows_of
  last_step =
      let zs = bands_of c.args.bands.now in
      let size = c.rows.result * c.columns-columns.result in
      let many : length zs ≡ length c.args.bands.now = length-map c.args.bands.now (λ b. b.band) in
      let rows : c.loop-y.y ≡ c.args.cube.now.shape.rows = omega (arith, ap (λ s. s.rows) c.shape-shape.ensures) in
      let end : size ≡ c.args.cube.now.shape.rows * c.args.cube.now.shape.columns = ap₂ (λ m n. m * n) (omega (arith, ap (λ s. s.rows) c.shape-shape.ensures))
      (omega (arith, ap (λ s. s.columns) c.shape-shape.ensures)) in
      others_sent g.met.T.Taker.laws plane zs (omega (arith, c.requires.some, many)) c.requires.may (rw rows at c.loop-y.invariant.sent)
      (kept_rows plane size (length c.loop-y.bands) c.loop-y.room zs (omega (arith, many)) (λ k lt.
      ap (λ n. row_start size k n c.loop-y.room) end ∙ rw rows at (c.loop-y.invariant.kept k (omega (arith, lt, many)))))

pub take-requires : goal.take-requires
take-requires g c = (last_step g (goal.at.take-requires g c).After-loop-y).fits

pub returns-clause-sent : goal.returns-clause-sent
returns-clause-sent g c = (last_step g (goal.at.returns-clause-sent g c).After-loop-y).so_far _ _ c.take.ensures
