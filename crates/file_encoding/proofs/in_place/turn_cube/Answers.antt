use Rattle.std.proofs.Common.{◌≡◌, ◌+◌, ◌-◌, ◌*◌, ◌^◌, ◌<◌, ℕ, List, [], ◌++◌, length, drop, refl, sym, ap, ap₂, ◌∙◌, subst, arith}
use Rattle.std.specs.List.{AllByRecursion}
use Rattle.header_bits.specs.declared.params.Params.{Params}
use Rattle.sample_prediction.specs.HandedRows.{image_of_rows, row_size}
use Rattle.file_encoding.proofs.CopiedRows.{HasFirstLines, at_back, at_there}
use Rattle.file_encoding.proofs.InPlace.{IsNextRow, copied, range_there, turned_now, turned_none}
use Rattle.file_encoding.proofs.KeptPlanes.{last_rows, all_range, all_size, row_last, seen_rows}
use Rattle.file_encoding.proofs.Sending.{at_same}
use Rattle.file_encoding.proofs.in_place.turn_cube.Goals as goal
use Rattle.file_encoding.proofs.in_place.turn_cube.Goals.{After-of_last-rows}

pub loop-y-init : goal.loop-y-init
loop-y-init c =
    let p = c.args.params.now in
    let none : c.none-handed.result.offsets ≡ [] = c.none-handed.ensures in
    let nothing : 0 * p.shape.columns ≡ 0 = omega arith in
    let no_rows : 0 * row_size p.shape ≡ 0 = omega arith in
    record {
      turned = turned_none p c.args.cube.now;
      at = at_same _ _ 0 _ _ (c.requires.fresh c.args.cube.now) (sym nothing);
      same = refl;
      size = rw none (sym no_rows);
      range = rw none tt;
      lines = λ z y x place lt. absurd (omega (arith, lt));
      last = λ some. absurd (omega (arith, some));
      present = c.requires.present;
      above = c.requires.above;
    }

module _ (c : After-of_last-rows) where
  abbrev p : Params
  p = c.args.params.now

  abbrev rows : List ℕ
  rows = c.loop-y.handed.offsets

  abbrev row : List ℕ
  row = c.next_row.new.present.items

  offsets_are : c.and-handed.result.offsets ≡ rows ++ row
  offsets_are = c.and-handed.ensures ∙ ap (λ v. rows ++ v) c.deref.ensures.value

  rows_are : c.of_last-rows.result ≡ record { image = image_of_rows p.shape p.kind (rows ++ row); y = c.loop-y.y }
  rows_are = c.of_last-rows.ensures ∙ ap (λ offsets. record { image = image_of_rows p.shape p.kind offsets; y = c.loop-y.y }) offsets_are

  next : IsNextRow p c.args.cube.now c.loop-y.cube c.loop-y.y rows row
  next =
      let was = c.loop-y.invariant in
      record {
        lawful = c.requires.lawful;
        order = c.requires.order;
        seen = c.requires.image;
        cube = c.requires.cube;
        inside = omega (arith, c.loop-y-test.true, c.rows-y-end.ensures.value);
        size = was.size;
        range = was.range;
        is_row = c.next_row.ensures.present;
        first = was.lines;
        turned = was.turned;
        lines = c.next_row.ensures.lines;
      }

pub of_last-rows-requires : goal.of_last-rows-requires
of_last-rows-requires c =
    let p = c.args.params.now in
    let was = c.loop-y.invariant in
    let lines = c.next_row.ensures in
    let rows = c.loop-y.handed.offsets in
    let offsets : c.and-handed.result.offsets ≡ rows ++ c.next_row.new.present.items = c.and-handed.ensures ∙ ap (λ v. rows ++ v) c.deref.ensures.value in
    let inside : c.loop-y.y < p.shape.rows = omega (arith, c.loop-y-test.true, c.rows-y-end.ensures.value) in
    rw (offsets, c.deref-in-loop-y.ensures.value, c.deref-in-loop-y-2.ensures.value)
    (last_rows p c.loop-y.y rows c.next_row.new.present.items was.size was.range lines.present inside
    c.next_row.new.above.items c.loop-y.present.items lines.first lines.later was.last)

pub turn_row-requires-clause-image : goal.turn_row-requires-clause-image
turn_row-requires-clause-image c =
    let d = (goal.at.turn_row-requires-clause-image c).After-of_last-rows in
    rw (rows_are d) (seen_rows (p d) (rows d ++ row d))

pub turn_row-requires-clause-row : goal.turn_row-requires-clause-row
unfolding image_of_rows
turn_row-requires-clause-row c =
    let d = (goal.at.turn_row-requires-clause-row c).After-of_last-rows in
    rw (rows_are d) (next d).inside

pub turn_row-requires-clause-range : goal.turn_row-requires-clause-range
turn_row-requires-clause-range c =
    let d = (goal.at.turn_row-requires-clause-range c).After-of_last-rows in
    rw (rows_are d) (range_there (next d))

pub turn_row-requires-clause-at : goal.turn_row-requires-clause-at
unfolding image_of_rows
turn_row-requires-clause-at c =
    let d = (goal.at.turn_row-requires-clause-at c).After-of_last-rows in
    rw (rows_are d) (at_there (copied (next d)) c.loop-y.bands c.loop-y.invariant.at)

pub loop-y-preserved : goal.loop-y-preserved
unfolding image_of_rows
loop-y-preserved c =
    let d = (goal.at.loop-y-preserved c).After-of_last-rows in
    let told = rw (rows_are d) at c.turn_row.ensures in
    let was = c.loop-y.invariant in
    let lines = c.next_row.ensures in
    let y = c.loop-y.y in
    let s = c.args.params.now.shape in
    let inside = (next d).inside in
    let offsets : rows d ++ row d ≡ c.and-handed.result.offsets = sym (offsets_are d) in
    let same : y + 1 - 1 ≡ y = omega arith in
    record {
      turned = turned_now (next d) told.turned;
      at = at_back (copied (next d)) c.turn_row.new.bands told.at;
      same = told.same ∙ was.same;
      size = subst (λ ns. length ns ≡ (y + 1) * row_size s) offsets (all_size (p d) y (rows d) (row d) was.size was.range lines.present inside);
      range = subst (λ ns. AllByRecursion (λ v. v < 2 ^ (p d).kind.bits) ns) offsets
          (all_range (p d) y (rows d) (row d) was.size was.range lines.present inside);
      lines = subst (λ ns. HasFirstLines c.args.cube.now ns (y + 1)) offsets (copied (next d)).lines;
      last = λ some. row_last (p d) y (rows d) (row d) was.size was.range lines.present inside ∙ ap₂ (λ n ns. drop (n * row_size s) ns) (sym same) offsets;
      present = lines.present;
      above = lines.above;
    }

pub returns : goal.returns
returns c =
    let last : c.loop-y.y ≡ c.args.params.now.shape.rows = omega (arith, c.loop-y-test.false, c.rows-y-end.ensures.value) in
    rw last at c.loop-y.invariant.turned
