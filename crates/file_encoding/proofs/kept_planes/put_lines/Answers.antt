use Rattle.std.proofs.Common.{◌≡◌, ◌+◌, ◌-◌, ◌*◌, ◌^◌, ◌<◌, ◌≤◌, ℕ, List, length, take, drop, get_or, ap, ap₂, ◌∙◌, arith, rules, inl, inr, length-take, length-drop}
use Rattle.std.proofs.lemmas.Bool.{cases_lt}
use Rattle.cube_core.specs.Shape.{Sizes}
use Rattle.sample_prediction.specs.HandedRows.{row_size}
use Rattle.file_encoding.proofs.KeptPlanes.{all_put, length_put, line_at, line_in_range, line_inside, line_of_plane, number_there, numbers_apart}
use Rattle.file_encoding.proofs.kept_planes.put_lines.Goals as goal
use Rattle.file_encoding.proofs.kept_planes.put_lines.Goals.{In-loop-k}

module _ (c : In-loop-k) where
  abbrev s : Sizes
  s = c.args.params.now.shape

  same : c.columns-columns.result ≡ s.columns
  same = c.columns-columns.ensures.value

  fits : (c.args.base + c.loop-k.k) * c.columns-columns.result + c.columns-columns.result ≤ length c.loop-k.row
  fits =
      let inside : (c.args.base + c.loop-k.k) * s.columns + s.columns ≤ row_size s =
      line_inside s c.args.base c.args.many c.loop-k.k c.requires.inside c.loop-k-test.true in
      rw same (omega (arith, inside, c.requires.row.size, c.loop-k.auto.row))

  begins : (c.loop-k.k * c.rows-rows.result + c.args.y) * c.columns-columns.result ≡ (c.loop-k.k * s.rows + c.args.y) * s.columns
  begins = ap₂ (λ m n. (c.loop-k.k * n + c.args.y) * m) same c.rows-rows.ensures.value

  line_fits : (c.loop-k.k * c.rows-rows.result + c.args.y) * c.columns-columns.result + c.columns-columns.result ≤ length c.args.planes.now
  line_fits = omega (arith, line_of_plane s c.args.many c.loop-k.k c.args.y c.loop-k-test.true c.requires.place, begins, same, c.requires.size)

pub slice_bounds-copy_from_slice-end : goal.slice_bounds-copy_from_slice-end
slice_bounds-copy_from_slice-end c = let h = fits (goal.at.slice_bounds-copy_from_slice-end c).In-loop-k in search rules

pub loop-k-preserved : goal.loop-k-preserved
loop-k-preserved c =
    let d = (goal.at.loop-k-preserved c).In-loop-k in
    let columns = (s d).columns in
    let band = c.args.base + c.loop-k.k in
    let first = band * c.columns-columns.result in
    let start = (c.loop-k.k * c.rows-rows.result + c.args.y) * c.columns-columns.result in
    let line = c.copy_from_slice.new.self in
    let width = start + c.columns-columns.result - start in
    let cut : line ≡ take width (drop start c.args.planes.now) = c.copy_from_slice.ensures.after in
    let wide : width ≡ columns = omega (arith, same d) in
    let is : (x : ℕ) → x < columns → get_or line x 0 ≡ get_or c.args.planes.now ((c.loop-k.k * (s d).rows + c.args.y) * columns + x) 0 =
    λ x lt. line_at columns start width c.args.planes.now line cut wide x lt ∙ ap (λ i. get_or c.args.planes.now (i + x) 0) (begins d) in
    let long : length line ≡ columns =
    omega (arith, ap (λ (ns : List ℕ). length ns) cut, length-take width (drop start c.args.planes.now), length-drop start c.args.planes.now, line_fits d, same d) in
    let place : first ≡ band * columns = ap (λ n. band * n) (same d) in
    let many = first + c.columns-columns.result - first in
    let size : many ≡ columns = omega (arith, same d) in
    let room : band * columns + columns ≤ length c.loop-k.row = omega (arith, fits d, place, same d) in
    record {
      lines = λ k x lt column. elim (cases_lt k c.loop-k.k) [
        | inl before ↦
            numbers_apart columns band first many c.loop-k.row line place room long size (c.args.base + k) x (λ one. omega (arith, before, one)) column
            ∙ c.loop-k.invariant.lines k x before column
        | inr after ↦
            let here : k ≡ c.loop-k.k = omega (arith, lt, after) in
            rw here (number_there columns band first many c.loop-k.row line place room long size x column ∙ is x column)
      ];
      before = λ z x lt column.
          numbers_apart columns band first many c.loop-k.row line place room long size z x (λ one. omega (arith, lt, one)) column ∙ c.loop-k.invariant.before z x lt column;
      row = record {
        size = omega (arith, c.loop-k.auto.row, c.requires.row.size, length_put first many c.loop-k.row line (omega (arith, fits d)) (omega (arith, long, size)));
        range = all_put (λ v. v < 2 ^ c.args.params.now.kind.bits) first many c.loop-k.row line c.loop-k.invariant.row.range
            (line_in_range (2 ^ c.args.params.now.kind.bits) columns line long (λ x lt. rw (is x lt) (c.requires.range c.loop-k.k x c.loop-k-test.true lt)));
      };
    }
