use Rattle.std.proofs.Common.{◌≡◌, ◌+◌, ◌-◌, ◌*◌, ◌^◌, ◌<◌, ℕ, List, [], ◌++◌, length, drop, refl, sym, ap, ap₂, ◌∙◌, subst, arith}
use Rattle.std.specs.List.{flat_map, AllByRecursion}
use Rattle.cube_core.specs.Order.{upto}
use Rattle.cube_core.specs.Shape.{Sizes}
use Rattle.cube_core.specs.declared.order.Order.TheVariants.{Bi}
use Rattle.header_bits.specs.declared.params.Params.{Params}
use Rattle.sample_prediction.specs.HandedRows.{image_of_rows, row_size}
use Rattle.file_encoding.specs.Own.{line_of, own_residuals}
use Rattle.file_encoding.proofs.CopiedRows.{HasFirstLines, IsCopied, at_back, at_there, copied_more, line_back}
use Rattle.file_encoding.proofs.KeptPlanes.{last_rows, all_range, all_size, row_last, seen_rows}
use Rattle.file_encoding.proofs.Sending.{Steps, at_same, none_yet, stepped, upto_rest}
use Rattle.file_encoding.proofs.copied.send_copied_lines.Goals as goal
use Rattle.file_encoding.proofs.copied.send_copied_lines.Goals.{After-of_last-rows}
use Rattle.file_encoding.proofs.copied.send_copied_lines.Given.{Over}

pub loop-y-init : goal.loop-y-init
loop-y-init g c =
    let p = c.args.params.now in
    let none : c.none-handed.result.offsets ≡ [] = c.none-handed.ensures in
    let no_rows : 0 * row_size p.shape ≡ 0 = omega arith in
    record {
      at = at_same _ _ 0 _ _ c.requires.at (omega arith);
      same = refl;
      sent = none_yet g.met.T.Taker.laws c.requires.may;
      size = rw none (sym no_rows);
      range = rw none tt;
      lines = λ z y x place lt. absurd (omega (arith, lt));
      last = λ some. absurd (omega (arith, some));
      present = c.requires.present;
      above = c.requires.above;
    }

module _ (g : Over) (c : After-of_last-rows g) where
  abbrev p : Params
  p = c.args.params.now

  abbrev y : ℕ
  y = c.loop-y.y

  abbrev rows : List ℕ
  rows = c.loop-y.handed.offsets

  abbrev row : List ℕ
  row = c.next_row.new.present.items

  inside : y < p.shape.rows
  inside = omega (arith, c.loop-y-test.true, c.rows-y-end.ensures.value)

  offsets_are : c.and-handed.result.offsets ≡ rows ++ row
  offsets_are = c.and-handed.ensures ∙ ap (λ v. rows ++ v) c.deref.ensures.value

  rows_are : c.of_last-rows.result ≡ record { image = image_of_rows p.shape p.kind (rows ++ row); y = y }
  rows_are = c.of_last-rows.ensures ∙ ap (λ offsets. record { image = image_of_rows p.shape p.kind offsets; y = y }) offsets_are

  copied : IsCopied p c.args.cube.now y rows row
  copied =
      copied_more _ _ _ _ _ c.requires.lawful c.requires.image inside c.loop-y.invariant.size c.loop-y.invariant.lines c.next_row.ensures.lines

  steps : Steps g.T.Taker.may g.T.Taker.takes c.args.taker.now c.loop-y.taker (own_residuals p c.args.cube.now 0 [] (Bi c.args.depth))
      (line_of p (image_of_rows p.shape p.kind (rows ++ row)) 0 [] c.args.depth y)
      (flat_map (λ y. line_of p c.args.cube.now 0 [] c.args.depth y) (upto (y + 1)))
  steps =
      let next : y < c.args.cube.now.shape.rows = omega (arith, inside, ap (λ (s : Sizes). s.rows) c.requires.image.shape) in
      stepped g.met.T.Taker.laws c.loop-y.invariant.sent c.requires.may (upto_rest _ _ _ next) (line_back copied c.args.depth)

pub of_last-rows-requires : goal.of_last-rows-requires
of_last-rows-requires g c =
    let p = c.args.params.now in
    let was = c.loop-y.invariant in
    let lines = c.next_row.ensures in
    let rows = c.loop-y.handed.offsets in
    let offsets : c.and-handed.result.offsets ≡ rows ++ c.next_row.new.present.items = c.and-handed.ensures ∙ ap (λ v. rows ++ v) c.deref.ensures.value in
    let inside : c.loop-y.y < p.shape.rows = omega (arith, c.loop-y-test.true, c.rows-y-end.ensures.value) in
    rw (offsets, c.deref-in-loop-y.ensures.value, c.deref-in-loop-y-2.ensures.value)
    (last_rows p c.loop-y.y rows c.next_row.new.present.items was.size was.range lines.present inside
    c.next_row.new.above.items c.loop-y.present.items lines.first lines.later was.last)

pub send_all_bands-requires-clause-image : goal.send_all_bands-requires-clause-image
send_all_bands-requires-clause-image g c =
    let d = (goal.at.send_all_bands-requires-clause-image g c).After-of_last-rows in
    rw (rows_are g d) (seen_rows (p g d) (rows g d ++ row g d))

pub send_all_bands-requires-clause-row : goal.send_all_bands-requires-clause-row
unfolding image_of_rows
send_all_bands-requires-clause-row g c =
    let d = (goal.at.send_all_bands-requires-clause-row g c).After-of_last-rows in
    rw (rows_are g d) (inside g d)

pub send_all_bands-requires-clause-own : goal.send_all_bands-requires-clause-own
unfolding image_of_rows
send_all_bands-requires-clause-own g c =
    let d = (goal.at.send_all_bands-requires-clause-own g c).After-of_last-rows in
    rw (rows_are g d) (c.loop-y.invariant.same ∙ c.requires.own)

pub send_all_bands-requires-clause-at : goal.send_all_bands-requires-clause-at
unfolding image_of_rows
send_all_bands-requires-clause-at g c =
    let d = (goal.at.send_all_bands-requires-clause-at g c).After-of_last-rows in
    rw (rows_are g d) (at_there (copied g d) c.loop-y.bands c.loop-y.invariant.at)

pub send_all_bands-requires-clause-may : goal.send_all_bands-requires-clause-may
send_all_bands-requires-clause-may g c =
    let d = (goal.at.send_all_bands-requires-clause-may g c).After-of_last-rows in
    rw (rows_are g d) (steps g d).fits

pub returns-then-not-send_all_bands : goal.returns-then-not-send_all_bands
returns-then-not-send_all_bands g c =
    let d = (goal.at.returns-then-not-send_all_bands g c).After-of_last-rows in
    (steps g d).cut _ _ c.if-not-send_all_bands.true (rw (rows_are g d) at c.send_all_bands.ensures.sent)

pub loop-y-preserved : goal.loop-y-preserved
unfolding image_of_rows
loop-y-preserved g c =
    let d = (goal.at.loop-y-preserved g c).After-of_last-rows in
    let told = rw (rows_are g d) at c.send_all_bands.ensures in
    let was = c.loop-y.invariant in
    let lines = c.next_row.ensures in
    let y = c.loop-y.y in
    let s = c.args.params.now.shape in
    let inside = inside g d in
    let offsets : rows g d ++ row g d ≡ c.and-handed.result.offsets = sym (offsets_are g d) in
    let before : y + 1 - 1 ≡ y = omega arith in
    record {
      at = at_back (copied g d) c.send_all_bands.new.bands (told.at c.if-not-send_all_bands.false);
      same = told.same ∙ was.same;
      sent = (steps g d).more _ _ c.if-not-send_all_bands.false told.sent;
      size = subst (λ ns. length ns ≡ (y + 1) * row_size s) offsets (all_size (p g d) y (rows g d) (row g d) was.size was.range lines.present inside);
      range = subst (λ ns. AllByRecursion (λ v. v < 2 ^ (p g d).kind.bits) ns) offsets
          (all_range (p g d) y (rows g d) (row g d) was.size was.range lines.present inside);
      lines = subst (λ ns. HasFirstLines c.args.cube.now ns (y + 1)) offsets (copied g d).lines;
      last = λ some. row_last (p g d) y (rows g d) (row g d) was.size was.range lines.present inside ∙ ap₂ (λ n ns. drop (n * row_size s) ns) (sym before) offsets;
      present = lines.present;
      above = lines.above;
    }

pub returns : goal.returns
returns g c =
    let last : c.loop-y.y ≡ c.args.cube.now.shape.rows =
    omega (arith, c.loop-y-test.false, c.rows-y-end.ensures.value, ap (λ (s : Sizes). s.rows) c.requires.image.shape) in
    rw last at c.loop-y.invariant.sent
