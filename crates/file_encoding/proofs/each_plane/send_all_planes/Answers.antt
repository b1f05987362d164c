use Rattle.std.proofs.Common.{◌≡◌, ◌<◌, ◌+◌, ◌*◌, ℕ, List, ◌∷◌, [], ◌++◌, length, take, get_or, ap, ap₂, refl, sym, arith, ◌∙◌}
use Rattle.std.specs.List.{flat_map}
use Rattle.std.proofs.lemmas.List.{length-map}
use Rattle.file_encoding.specs.Own.{row_of, rows_of}
use Rattle.file_encoding.specs.Pieces.{row_start}
use Rattle.file_encoding.specs.Walks.{bands_of}
use Rattle.file_encoding.proofs.Sending.{Steps, at_same, last_piece, none_yet, stepped, upto_rest}
use Rattle.file_encoding.proofs.KeptRows.{all_rows}
use Rattle.file_encoding.proofs.each_plane.send_all_planes.Goals as goal
use Rattle.file_encoding.proofs.each_plane.send_all_planes.Goals.{After-loop-y}
use Rattle.file_encoding.proofs.each_plane.send_all_planes.Given.{Over}

pub loop-y-init : goal.loop-y-init
loop-y-init g c =
    let none : 0 * c.args.cube.now.shape.columns ≡ 0 = omega arith in
    record {
      at = at_same _ _ _ _ _ c.requires.at (omega arith);
      same = refl;
      kept = λ k lt. ap (λ n. row_start (c.rows.result * c.columns-columns.result) k n c.args.room.now) none;
    }

pub loop-y-preserved : goal.loop-y-preserved
loop-y-preserved g c =
    let told = rw c.of-rows.ensures at c.keep_row.ensures in let was = c.loop-y.invariant in
    let y = c.loop-y.y in let columns = c.args.cube.now.shape.columns in
    let plane = c.rows.result * c.columns-columns.result in
    let same : c.columns-columns.result ≡ columns = omega (arith, ap (λ s. s.columns) c.shape-shape.ensures) in
    let start : y * c.columns-columns.result ≡ y * columns = ap (λ n. y * n) same in
    let end : (y + 1) * columns ≡ y * c.columns-columns.result + columns = omega (arith, start) in
    let next : y < c.args.cube.now.shape.rows = omega (arith, ap (λ s. s.rows) c.shape-shape.ensures) in
    record {
      at = told.at;
      same = told.same ∙ was.same;
      kept = λ k lt.
          ap (λ n. row_start plane k n c.keep_row.new.room) end ∙ told.kept k (omega (arith, lt))
          ∙ ap₂ (λ ns ms. ns ++ ms) (ap (λ n. row_start plane k n c.loop-y.room) start ∙ was.kept k lt)
          (ap (λ zs. row_of c.args.params.now c.args.cube.now (get_or zs k 0 ∷ []) y) was.same)
          ∙ sym (upto_rest (λ y. row_of c.args.params.now c.args.cube.now (get_or (bands_of c.args.bands.now) k 0 ∷ []) y) y c.args.cube.now.shape.rows next).more;
    }

-- at the end all planes are there
module _ (g : Over) (c : After-loop-y g) where
  abbrev plane : ℕ → List ℕ
  plane z = rows_of c.args.params.now c.args.cube.now (z ∷ [])

  all_there : take (length c.loop-y.bands * (c.rows.result * c.columns-columns.result)) c.loop-y.room ≡ flat_map plane (bands_of c.args.bands.now)
  unfolding rows_of
  all_there =
      let zs = bands_of c.args.bands.now in
      let size = c.rows.result * c.columns-columns.result in
      let many : length zs ≡ length c.args.bands.now = length-map c.args.bands.now (λ b. b.band) in
      let now : length c.loop-y.bands ≡ length zs =
      sym (length-map c.loop-y.bands (λ b. b.band)) ∙ ap (λ (v : List ℕ). length v) c.loop-y.invariant.same in
      let rows : c.loop-y.y ≡ c.args.cube.now.shape.rows = omega (arith, ap (λ s. s.rows) c.shape-shape.ensures) in
      let end : size ≡ c.args.cube.now.shape.rows * c.args.cube.now.shape.columns = ap₂ (λ m n. m * n) (omega (arith, ap (λ s. s.rows) c.shape-shape.ensures))
      (omega (arith, ap (λ s. s.columns) c.shape-shape.ensures)) in
      ap (λ n. take (n * size) c.loop-y.room) now
      ∙ all_rows plane size c.loop-y.room zs (λ k lt.
      ap (λ n. row_start size k n c.loop-y.room) end ∙ rw rows at (c.loop-y.invariant.kept k (omega (arith, lt, many))))

  step : Steps g.T.Taker.may g.T.Taker.takes c.args.taker.now c.args.taker.now (flat_map plane (bands_of c.args.bands.now))
      (take (length c.loop-y.bands * (c.rows.result * c.columns-columns.result)) c.loop-y.room) (flat_map plane (bands_of c.args.bands.now))
  step = stepped g.met.T.Taker.laws (none_yet g.met.T.Taker.laws c.requires.may) c.requires.may (last_piece [] (flat_map plane (bands_of c.args.bands.now))) all_there

pub take-requires : goal.take-requires
take-requires g c = (step g (goal.at.take-requires g c).After-loop-y).fits

pub returns-clause-sent : goal.returns-clause-sent
returns-clause-sent g c = (step g (goal.at.returns-clause-sent g c).After-loop-y).so_far _ _ c.take.ensures
