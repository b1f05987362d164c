use Rattle.std.proofs.Common.{◌≡◌, ◌+◌, ◌*◌, ◌<◌, ◌≤◌, ℕ, List, [], ◌∷◌, length, get_or, sym, ap, ◌∙◌, subst, arith}
use Rattle.cube_core.proofs.Lists.{get_or-from}
use Rattle.cube_core.specs.Shape.{Sizes}
use Rattle.file_encoding.specs.Own.{row_of}
use Rattle.file_encoding.specs.Pieces.{row_start}
use Rattle.file_encoding.specs.Walks.{bands_of}
use Rattle.file_encoding.proofs.in_place.turn_bands.Goals as goal
use Rattle.file_encoding.proofs.in_place.turn_bands.Goals.{After-keep_row}

module _ (c : After-keep_row) where
  abbrev columns : ℕ
  columns = c.args.params.now.shape.columns

  width : c.columns-columns.result ≡ columns
  width = omega (arith, ap (λ (s : Sizes). s.columns) c.shape.ensures, ap (λ (s : Sizes). s.columns) c.requires.image.shape)

  there : c.args.cube.now.shape.columns ≡ columns
  there = ap (λ (s : Sizes). s.columns) c.requires.cube.shape

  line : (k : ℕ) → k < length c.args.bands.now → row_start columns k columns c.keep_row.new.room
      ≡ row_of c.args.params.now c.args.rows.now.image ((c.args.first + k) ∷ []) c.args.rows.now.y
  line k lt =
      let band : get_or (bands_of c.args.bands.now) k 0 ≡ c.args.first + k =
      ap (λ (zs : List ℕ). get_or zs k 0) c.requires.own ∙ get_or-from c.args.first (length c.args.bands.now) k 0 lt in
      let end : 0 + c.args.rows.now.image.shape.columns ≡ columns = omega (arith, ap (λ (s : Sizes). s.columns) c.requires.image.shape) in
      let kept = subst (λ w. row_start w k (0 + c.args.rows.now.image.shape.columns) c.keep_row.new.room
      ≡ row_of c.args.params.now c.args.rows.now.image (get_or (bands_of c.args.bands.now) k 0 ∷ []) c.args.rows.now.y) width (c.keep_row.ensures.kept k lt) in
      ap (λ n. row_start columns k n c.keep_row.new.room) (sym end) ∙ kept
      ∙ ap (λ z. row_of c.args.params.now c.args.rows.now.image (z ∷ []) c.args.rows.now.y) band

pub keep_row-requires-clause-room : goal.keep_row-requires-clause-room
keep_row-requires-clause-room c =
    let width : c.columns-columns.result ≡ c.args.params.now.shape.columns =
    omega (arith, ap (λ (s : Sizes). s.columns) c.shape.ensures, ap (λ (s : Sizes). s.columns) c.requires.image.shape) in
    subst (λ n. length c.args.bands.now * n ≤ length c.args.room.now) (sym width) c.requires.room

pub set_lines-requires-clause-bands : goal.set_lines-requires-clause-bands
set_lines-requires-clause-bands c = rw c.requires.cube.shape (omega (arith, c.requires.inside))

pub set_lines-requires-clause-place : goal.set_lines-requires-clause-place
set_lines-requires-clause-place c = rw (c.requires.cube.shape, ← c.requires.image.shape) (omega (arith, c.requires.row))

pub set_lines-requires-clause-size : goal.set_lines-requires-clause-size
set_lines-requires-clause-size c =
    let d = (goal.at.set_lines-requires-clause-size c).After-keep_row in
    let many : length c.keep_row.new.bands ≡ length c.args.bands.now = omega (arith, c.keep_row.auto.bands) in
    rw (there d, many) (omega (arith, c.requires.room, c.keep_row.auto.room))

pub set_lines-requires-clause-range : goal.set_lines-requires-clause-range
set_lines-requires-clause-range c =
    let d = (goal.at.set_lines-requires-clause-range c).After-keep_row in
    λ k lt.
    let within : k < length c.args.bands.now = omega (arith, lt) in
    rw (there d, c.requires.cube.kind, line d k within) (c.requires.range (c.args.first + k) (omega (arith, within, c.requires.inside)))

pub returns-clause-turned : goal.returns-clause-turned
returns-clause-turned c =
    let d = (goal.at.returns-clause-turned c).After-keep_row in
    let told = rw c.y.ensures at c.set_lines.ensures in
    record {
      shape = told.shape;
      kind = told.kind;
      set = λ k lt. rw (there d) at (told.set k (omega (arith, lt))) ∙ line d k lt;
      others = λ z y' x place out. told.others z y' x place (λ same low. omega (arith, out same low));
    }
