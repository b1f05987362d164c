use Rattle.std.proofs.Common.{◌≡◌, ◌+◌, ◌-◌, ◌*◌, ◌^◌, ◌<◌, ◌≤◌, ℕ, List, [], ◌∷◌, ◌++◌, length, take, get_or, refl, sym, ap, ap₂, ◌∙◌, subst, arith, suc, drop}
use Rattle.std.proofs.lemmas.Nat.{mul-le}
use Rattle.std.specs.List.{flat_map, AllByRecursion}
use Rattle.std.proofs.lemmas.List.{length-map}
use Rattle.cube_core.specs.Order.{upto}
use Rattle.cube_core.proofs.Lists.{get_or-from}
use Rattle.header_bits.specs.declared.params.Params.{Params}
use Rattle.sample_prediction.specs.HandedRows.{image_of_rows, row_size}
use Rattle.file_encoding.specs.ByPlanes.{image_of_planes, least_kept, plane_size}
use Rattle.file_encoding.specs.Own.{row_of, rows_of}
use Rattle.file_encoding.specs.Pieces.{row_start}
use Rattle.file_encoding.specs.Walks.{AreAt, bands_of}
use Rattle.file_encoding.proofs.KeptPlanes.{all_range, all_size, at_more, last_rows, residuals_more, row_last, seen_rows}
use Rattle.file_encoding.proofs.KeptRows.{all_rows}
use Rattle.file_encoding.proofs.Sending.{at_same, upto_rest}
use Rattle.file_encoding.proofs.TurnedPlanes.{HasRowsOf, group_residuals, later_rows, lines_were, planes_moved, range_was, rows_more, rows_moved, same_after, same_behind}
use Rattle.file_encoding.proofs.kept_planes.turn_planes.Goals as goal
use Rattle.file_encoding.proofs.kept_planes.turn_planes.Goals.{After-of_last-rows, After-loop-y, In-loop-y}

pub loop-y-init : goal.loop-y-init
loop-y-init c =
    let p = c.args.params.now in
    let none : c.none-handed.result.offsets ≡ [] = c.none-handed.ensures in
    let nothing : 0 * p.shape.columns ≡ 0 = omega arith in
    let no_rows : 0 * row_size p.shape ≡ 0 = omega arith in
    record {
      at = at_same _ _ 0 _ _ (c.requires.fresh (image_of_rows p.shape p.kind c.none-handed.result.offsets)) (sym nothing);
      same = refl;
      size = rw none (sym no_rows);
      range = rw none tt;
      own = λ k y x lt before column. absurd (omega (arith, before));
      before = λ k y x lt before column. absurd (omega (arith, before));
      left = λ k y x after inside column. refl;
      previous_left = λ k y x after inside column. refl;
      last = λ some. absurd (omega (arith, some));
      present = c.requires.present;
      above = c.requires.above;
      turned = λ k lt. ap (λ n. row_start (c.rows.result * c.columns-columns.result) k n c.args.planes.now) nothing;
      moved = λ k y x lt before column. absurd (omega (arith, before));
    }

-- ---- one row

module _ (c : In-loop-y) where
  abbrev p : Params
  p = c.args.params.now

  abbrev many : ℕ
  many = c.args.first + length c.args.bands.now - c.saturating_sub-least.result

  row_in : c.loop-y.y < p.shape.rows
  row_in = omega (arith, c.loop-y-test.true, c.rows-y-end.ensures.value)

  least_is : c.saturating_sub-least.result ≡ least_kept p (c.args.first + length c.args.bands.now)
  least_is = omega (arith, c.saturating_sub-least.ensures)

pub next_lines-requires-clause-range : goal.next_lines-requires-clause-range
next_lines-requires-clause-range c =
    let d = (goal.at.next_lines-requires-clause-range c).In-loop-y in
    range_was (p d) c.loop-y.y _ c.args.planes.now c.loop-y.planes (row_in d) c.loop-y.invariant.left c.requires.range

pub next_lines-requires-clause-previous_range : goal.next_lines-requires-clause-previous_range
next_lines-requires-clause-previous_range c =
    let d = (goal.at.next_lines-requires-clause-previous_range c).In-loop-y in
    range_was (p d) c.loop-y.y _ c.args.previous.now c.loop-y.previous (row_in d) c.loop-y.invariant.previous_left c.requires.previous_range

module _ (c : After-of_last-rows) where
  abbrev d : In-loop-y
  d = (goal.at.After-of_last-rows c).In-loop-y

  abbrev rows : List ℕ
  rows = c.loop-y.handed.offsets

  abbrev row : List ℕ
  row = c.next_lines.new.present.items

  offsets_are : c.and-handed.result.offsets ≡ rows ++ row
  offsets_are = c.and-handed.ensures ∙ ap (λ v. rows ++ v) c.deref.ensures.value

  rows_are : c.of_last-rows.result ≡ record { image = image_of_rows (p d).shape (p d).kind (rows ++ row); y = c.loop-y.y }
  rows_are = c.of_last-rows.ensures ∙ ap (λ offsets. record { image = image_of_rows (p d).shape (p d).kind offsets; y = c.loop-y.y }) offsets_are

pub of_last-rows-requires : goal.of_last-rows-requires
of_last-rows-requires c =
    let d = (goal.at.of_last-rows-requires c).In-loop-y in
    let was = c.loop-y.invariant in
    let lines = c.next_lines.ensures in
    let rows = c.loop-y.handed.offsets in
    let offsets : c.and-handed.result.offsets ≡ rows ++ c.next_lines.new.present.items = c.and-handed.ensures ∙ ap (λ v. rows ++ v) c.deref.ensures.value in
    rw (offsets, c.deref-in-loop-y.ensures.value, c.deref-in-loop-y-2.ensures.value)
    (last_rows (p d) c.loop-y.y rows c.next_lines.new.present.items was.size was.range lines.present (row_in d)
    c.next_lines.new.above.items c.loop-y.present.items lines.first lines.later was.last)

pub keep_row-requires-clause-image : goal.keep_row-requires-clause-image
keep_row-requires-clause-image c =
    let f = (goal.at.keep_row-requires-clause-image c).After-of_last-rows in
    rw (rows_are f) (seen_rows (p (d f)) (rows f ++ row f))

pub keep_row-requires-clause-row : goal.keep_row-requires-clause-row
unfolding image_of_rows
keep_row-requires-clause-row c =
    let f = (goal.at.keep_row-requires-clause-row c).After-of_last-rows in
    rw (rows_are f) (row_in (d f))

pub keep_row-requires-clause-inside : goal.keep_row-requires-clause-inside
unfolding image_of_rows
keep_row-requires-clause-inside c =
    let f = (goal.at.keep_row-requires-clause-inside c).After-of_last-rows in
    let y = c.loop-y.y in
    let columns = c.columns-columns.result in
    let up : suc y * columns ≤ c.rows.result * columns = mul-le (suc y) columns c.rows.result columns (omega (arith, row_in (d f), c.rows.ensures.value)) (omega arith) in
    let next : suc y * columns ≡ y * columns + columns = grind arith in
    rw (rows_are f) (omega (arith, up, next, c.columns-columns.ensures.value))

pub keep_row-requires-clause-room : goal.keep_row-requires-clause-room
keep_row-requires-clause-room c =
    let size : length c.args.bands.now * (c.rows.result * c.columns-columns.result) ≡ length c.args.bands.now * plane_size c.args.params.now.shape =
    ap₂ (λ m n. length c.args.bands.now * (m * n)) c.rows.ensures.value c.columns-columns.ensures.value in
    let bands : length c.loop-y.bands ≡ length c.args.bands.now = c.loop-y.auto.bands in
    rw bands (omega (arith, size, c.requires.planes, c.loop-y.auto.planes))

pub keep_row-requires-clause-at : goal.keep_row-requires-clause-at
unfolding image_of_rows
keep_row-requires-clause-at c =
    let f = (goal.at.keep_row-requires-clause-at c).After-of_last-rows in
    let was = c.loop-y.invariant in
    rw (rows_are f) (at_more (p (d f)) c.loop-y.y (rows f) (row f) was.size was.range c.next_lines.ensures.present (row_in (d f)) c.requires.lawful c.loop-y.bands was.at)

pub loop-y-preserved : goal.loop-y-preserved
unfolding image_of_rows
loop-y-preserved c =
    let f = (goal.at.loop-y-preserved c).After-of_last-rows in
    let g = d f in
    let told = rw (rows_are f) at c.keep_row.ensures in
    let kept = c.keep_lines.ensures in
    let was = c.loop-y.invariant in
    let lines = c.next_lines.ensures in
    let y = c.loop-y.y in
    let s = c.args.params.now.shape in
    let all = rows f ++ row f in
    let plane = c.rows.result * c.columns-columns.result in
    let count = length c.args.bands.now in
    let least = least_kept (p g) c.args.first in
    let offsets : all ≡ c.and-handed.result.offsets = sym (offsets_are f) in
    let start : y * c.columns-columns.result ≡ y * s.columns = ap (λ n. y * n) c.columns-columns.ensures.value in
    let size : plane ≡ plane_size s = ap₂ (λ m n. m * n) c.rows.ensures.value c.columns-columns.ensures.value in
    let end : (y + 1) * s.columns ≡ y * c.columns-columns.result + s.columns = omega (arith, start) in
    let same : y + 1 - 1 ≡ y = omega arith in
    let row_is : c.deref-in-loop-y-3.result.now ≡ row f = c.deref-in-loop-y-3.ensures.value in
    record {
      at = subst (λ ns. AreAt (p g) (image_of_rows s (p g).kind ns) ((y + 1) * s.columns) c.keep_row.new.bands) offsets told.at;
      same = told.same ∙ was.same;
      size = subst (λ ns. length ns ≡ (y + 1) * row_size s) offsets (all_size (p g) y (rows f) (row f) was.size was.range lines.present (row_in g));
      range = subst (λ ns. AllByRecursion (λ v. v < 2 ^ (p g).kind.bits) ns) offsets (all_range (p g) y (rows f) (row f) was.size was.range lines.present (row_in g));
      own = subst (λ ns. HasRowsOf s c.args.first c.args.planes.now count ns (y + 1)) offsets
          (rows_more s c.args.first count y c.args.planes.now (rows f) (row f) was.size (row_in g) c.requires.inside was.own
          (lines_were s c.args.first y count c.args.planes.now c.loop-y.planes (row f) (row_in g) was.left lines.lines));
      before = subst (λ ns. HasRowsOf s least c.args.previous.now (c.args.first - least) ns (y + 1)) offsets
          (rows_more s least (c.args.first - least) y c.args.previous.now (rows f) (row f) was.size (row_in g) (omega (arith, c.requires.inside)) was.before
          (lines_were s least y (c.args.first - least) c.args.previous.now c.loop-y.previous (row f) (row_in g) was.previous_left lines.previous));
      left = same_after s y c.args.planes.now c.loop-y.planes c.keep_row.new.room was.left
          (later_rows s y plane (y * c.columns-columns.result) c.loop-y.planes c.keep_row.new.room size start told.left);
      previous_left = same_after s y c.args.previous.now c.loop-y.previous c.keep_lines.new.planes was.previous_left
          (same_behind s y c.loop-y.previous c.keep_lines.new.planes kept.others);
      last = λ some. row_last (p g) y (rows f) (row f) was.size was.range lines.present (row_in g) ∙ ap₂ (λ n ns. drop (n * row_size s) ns) (sym same) offsets;
      present = lines.present;
      above = lines.above;
      turned = λ k lt.
          let zs = bands_of c.args.bands.now in
          let z = get_or zs k 0 in
          let band : z ≡ c.args.first + k = ap (λ ns. get_or ns k 0) c.requires.own ∙ get_or-from c.args.first count k 0 lt in
          ap (λ n. row_start plane k n c.keep_row.new.room) end ∙ told.kept k (omega (arith, lt))
          ∙ ap₂ (λ ns ms. ns ++ ms) (ap (λ n. row_start plane k n c.loop-y.planes) start ∙ was.turned k lt
          ∙ residuals_more (p g) y (rows f) (row f) was.size was.range lines.present (row_in g) c.requires.lawful z (omega (arith, band, lt, c.requires.inside)))
          (ap (λ zs. row_of (p g) (image_of_rows s (p g).kind all) (get_or zs k 0 ∷ []) y) was.same)
          ∙ sym (upto_rest (λ i. row_of (p g) (image_of_rows s (p g).kind all) (z ∷ []) i) y s.rows (row_in g)).more
          ∙ ap (λ ns. flat_map (λ i. row_of (p g) (image_of_rows s (p g).kind ns) (z ∷ []) i) (upto (y + 1))) offsets;
      moved = subst (λ ns. HasRowsOf s c.saturating_sub-least.result c.keep_lines.new.planes (many g) ns (y + 1)) offsets
          (rows_moved s c.saturating_sub-least.result (many g) y c.loop-y.previous c.keep_lines.new.planes (rows f) (row f) was.size (row_in g)
          (omega (arith, least_is g, c.requires.inside)) was.moved kept.others (rw row_is at kept.lines));
    }

-- ---- all rows

module _ (c : After-loop-y) where
  abbrev q : Params
  q = c.args.params.now

  abbrev handed : List ℕ
  handed = c.loop-y.handed.offsets

  abbrev count : ℕ
  count = length c.args.bands.now

  last : c.loop-y.y ≡ q.shape.rows
  last = omega (arith, c.loop-y-test.false, c.rows-y-end.ensures.value)

  own : HasRowsOf q.shape c.args.first c.args.planes.now count handed q.shape.rows
  own = subst (λ n. HasRowsOf q.shape c.args.first c.args.planes.now count handed n) last c.loop-y.invariant.own

  before : HasRowsOf q.shape (least_kept q c.args.first) c.args.previous.now (c.args.first - least_kept q c.args.first) handed q.shape.rows
  before =
      subst (λ n. HasRowsOf q.shape (least_kept q c.args.first) c.args.previous.now (c.args.first - least_kept q c.args.first) handed n) last c.loop-y.invariant.before

pub returns-clause-turned : goal.returns-clause-turned
unfolding image_of_rows rows_of
returns-clause-turned c = λ offsets own_is before_is.
    let e = (goal.at.returns-clause-turned c).After-loop-y in
    let zs = bands_of c.args.bands.now in
    let rows = handed e in
    let was = c.loop-y.invariant in
    let plane = c.rows.result * c.columns-columns.result in
    let many : length zs ≡ count e = length-map c.args.bands.now (λ b. b.band) in
    let size : plane ≡ plane_size (q e).shape = ap₂ (λ m n. m * n) c.rows.ensures.value c.columns-columns.ensures.value in
    ap₂ (λ m n. take (m * n) c.loop-y.planes) (sym many) (sym size)
    ∙ all_rows (λ z. rows_of (q e) (image_of_planes (q e).shape (q e).kind offsets) (z ∷ [])) plane c.loop-y.planes zs (λ k lt.
    let z = get_or zs k 0 in
    let band : z ≡ c.args.first + k = ap (λ ns. get_or ns k 0) c.requires.own ∙ get_or-from c.args.first (count e) k 0 (omega (arith, lt, many)) in
    let end : plane ≡ c.loop-y.y * (q e).shape.columns = size ∙ ap (λ n. n * (q e).shape.columns) (sym (last e)) in
    ap (λ n. row_start plane k n c.loop-y.planes) end ∙ was.turned k (omega (arith, lt, many))
    ∙ ap (λ n. flat_map (λ i. row_of (q e) (image_of_rows (q e).shape (q e).kind rows) (z ∷ []) i) (upto n)) (last e)
    ∙ group_residuals (q e) c.args.first (count e) c.args.planes.now c.args.previous.now rows offsets c.requires.inside (own e) (before e) own_is before_is
    c.requires.lawful z (omega (arith, band)) (omega (arith, band, lt, many)))

pub returns-clause-moved : goal.returns-clause-moved
returns-clause-moved c = λ offsets own_is before_is.
    let e = (goal.at.returns-clause-moved c).After-loop-y in
    let s = (q e).shape in
    let ends : c.args.first + length c.args.bands.now ≡ c.args.first + count e = omega (arith) in
    let least : c.saturating_sub-least.result ≡ least_kept (q e) (c.args.first + count e) = omega (arith, c.saturating_sub-least.ensures) in
    let many : c.args.first + count e - c.saturating_sub-least.result ≡ c.args.first + count e - least_kept (q e) (c.args.first + count e) =
    ap (λ n. c.args.first + count e - n) least in
    planes_moved (q e) c.args.first (count e) c.args.planes.now c.args.previous.now (handed e) offsets c.requires.inside (own e) (before e) own_is before_is c.loop-y.previous
    (subst (λ a. HasRowsOf s a c.loop-y.previous (c.args.first + count e - least_kept (q e) (c.args.first + count e)) (handed e) s.rows) least
    (subst (λ n. HasRowsOf s c.saturating_sub-least.result c.loop-y.previous n (handed e) s.rows) many
    (subst (λ n. HasRowsOf s c.saturating_sub-least.result c.loop-y.previous (c.args.first + count e - c.saturating_sub-least.result) (handed e) n) (last e)
    c.loop-y.invariant.moved)))
