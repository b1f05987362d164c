use Rattle.std.proofs.Common.{◌≡◌, ◌+◌, ◌-◌, ◌*◌, ◌<◌, ◌≤◌, ℕ, List, length, take, drop, get_or, sym, ap, ap₂, ◌∙◌, arith, rules, inl, inr, length-take, length-drop}
use Rattle.std.proofs.lemmas.Bool.{cases_lt}
use Rattle.std.proofs.lemmas.Nat.{mul-le}
use Rattle.cube_core.specs.Shape.{Sizes}
use Rattle.sample_prediction.specs.HandedRows.{row_size}
use Rattle.file_encoding.proofs.KeptPlanes.{line_at, line_inside, line_of_plane, number_there, numbers_apart, rows_apart}
use Rattle.file_encoding.proofs.kept_planes.keep_lines.Goals as goal
use Rattle.file_encoding.proofs.kept_planes.keep_lines.Goals.{In-loop-k}

module _ (c : In-loop-k) where
  abbrev s : Sizes
  s = c.args.params.now.shape

  same : c.columns-columns.result ≡ s.columns
  same = c.columns-columns.ensures.value

  line_fits : (c.args.base + c.loop-k.k) * c.columns-columns.result + c.columns-columns.result ≤ length c.args.row.now
  line_fits =
      let inside : (c.args.base + c.loop-k.k) * s.columns + s.columns ≤ row_size s =
      line_inside s c.args.base c.args.many c.loop-k.k c.requires.inside c.loop-k-test.true in
      rw same (omega (arith, inside, c.requires.row.size))

  begins : (c.loop-k.k * c.rows-rows.result + c.args.y) * c.columns-columns.result ≡ (c.loop-k.k * s.rows + c.args.y) * s.columns
  begins = ap₂ (λ m n. (c.loop-k.k * n + c.args.y) * m) same c.rows-rows.ensures.value

  fits : (c.loop-k.k * c.rows-rows.result + c.args.y) * c.columns-columns.result + c.columns-columns.result ≤ length c.loop-k.planes
  fits =
      omega (arith, line_of_plane s c.args.many c.loop-k.k c.args.y c.loop-k-test.true c.requires.place, begins, same, c.requires.size, c.loop-k.auto.planes)

pub slice_bounds-copy_from_slice-end : goal.slice_bounds-copy_from_slice-end
slice_bounds-copy_from_slice-end c = let h = fits (goal.at.slice_bounds-copy_from_slice-end c).In-loop-k in search rules

pub loop-k-preserved : goal.loop-k-preserved
loop-k-preserved c =
    let d = (goal.at.loop-k-preserved c).In-loop-k in
    let columns = (s d).columns in
    let rows = (s d).rows in
    let band = c.args.base + c.loop-k.k in
    let first = band * c.columns-columns.result in
    let there = c.loop-k.k * rows + c.args.y in
    let start = (c.loop-k.k * c.rows-rows.result + c.args.y) * c.columns-columns.result in
    let line = c.copy_from_slice.new.self in
    let width = first + c.columns-columns.result - first in
    let cut : line ≡ take width (drop first c.args.row.now) = c.copy_from_slice.ensures.after in
    let wide : width ≡ columns = omega (arith, same d) in
    let is : (x : ℕ) → x < columns → get_or line x 0 ≡ get_or c.args.row.now (band * columns + x) 0 =
    λ x lt. line_at columns first width c.args.row.now line cut wide x lt ∙ ap (λ n. get_or c.args.row.now (band * n + x) 0) (same d) in
    let long : length line ≡ columns =
    omega (arith, ap (λ (ns : List ℕ). length ns) cut, length-take width (drop first c.args.row.now), length-drop first c.args.row.now, line_fits d, same d) in
    let many = start + c.columns-columns.result - start in
    let size : many ≡ columns = omega (arith, same d) in
    let room : there * columns + columns ≤ length c.loop-k.planes = omega (arith, fits d, begins d, same d) in
    record {
      lines = λ k x lt column. elim (cases_lt k c.loop-k.k) [
        | inl before ↦
            let up : k * rows + rows ≤ c.loop-k.k * rows =
            let next : (k + 1) * rows ≡ k * rows + rows = grind arith in
            omega (arith, next, mul-le (k + 1) rows c.loop-k.k rows (omega (arith, before)) (omega arith)) in
            c.loop-k.invariant.lines k x before column
            ∙ sym (numbers_apart columns there start many c.loop-k.planes line (begins d) room long size (k * rows + c.args.y) x (λ one. omega (arith, up, one, c.requires.place)) column)
        | inr after ↦
            let here : k ≡ c.loop-k.k = omega (arith, lt, after) in
            rw here (sym (is x column) ∙ sym (number_there columns there start many c.loop-k.planes line (begins d) room long size x column))
      ];
      others = λ k y x inside apart column.
          numbers_apart columns there start many c.loop-k.planes line (begins d) room long size (k * rows + y) x
          (λ one. apart (rows_apart rows k c.loop-k.k y c.args.y inside c.requires.place one)) column
          ∙ c.loop-k.invariant.others k y x inside apart column;
    }
