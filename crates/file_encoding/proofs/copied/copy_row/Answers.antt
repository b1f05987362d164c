use Rattle.std.proofs.Common.{◌≡◌, ◌+◌, ◌-◌, ◌*◌, ◌^◌, ◌<◌, ◌≤◌, ℕ, List, length, refl, sym, ap, ◌∙◌, subst, arith, rules, inl, inr}
use Rattle.std.proofs.lemmas.Bool.{cases_lt}
use borrow.Rule.Slice.PartMut.{put_mid}
use Rattle.cube_core.specs.Offsets.{AreRowOffsets}
use Rattle.cube_core.specs.Shape.{Sizes}
use Rattle.sample_prediction.specs.HandedRows.{row_size}
use Rattle.file_encoding.specs.Pieces.{row_start}
use Rattle.file_encoding.proofs.CopiedRows.{line_range}
use Rattle.file_encoding.proofs.KeptPlanes.{all_put, length_put, line_inside, line_there, lines_before}
use Rattle.file_encoding.proofs.copied.copy_row.Goals as goal
use Rattle.file_encoding.proofs.copied.copy_row.Goals.{In-loop-z}

module _ (c : In-loop-z) where
  width : c.args.cube.now.shape.columns ≡ c.columns-columns.result
  width = ap (λ (s : Sizes). s.columns) c.requires.image.shape ∙ sym c.columns-columns.ensures.value

  fits : c.loop-z.z * c.columns-columns.result + c.columns-columns.result ≤ length c.loop-z.row
  fits =
      let inside : (0 + c.loop-z.z) * c.args.params.now.shape.columns + c.args.params.now.shape.columns ≤ row_size c.args.params.now.shape =
      line_inside c.args.params.now.shape 0 c.args.params.now.shape.bands c.loop-z.z (omega arith) (omega (arith, c.loop-z-test.true, c.bands-z-end.ensures.value)) in
      rw c.columns-columns.ensures.value (omega (arith, inside, c.requires.row.size, c.loop-z.auto.row))

pub slice_bounds-copy_from_slice-end : goal.slice_bounds-copy_from_slice-end
slice_bounds-copy_from_slice-end c = let h = fits (goal.at.slice_bounds-copy_from_slice-end c).In-loop-z in search rules

pub loop-z-preserved : goal.loop-z-preserved
loop-z-preserved c =
    let d = (goal.at.loop-z-preserved c).In-loop-z in
    let z = c.loop-z.z in
    let columns = c.columns-columns.result in
    let first = z * columns in
    let line = c.copy_from_slice.new.self in
    let long : length line ≡ columns = omega (arith, ap (λ (ns : List ℕ). length ns) c.copy_from_slice.ensures.after, c.row.ensures.len, width d) in
    let many = first + columns - first in
    let size : many ≡ columns = omega arith in
    record {
      lines = λ k lt. elim (cases_lt k z) [
        | inl before ↦
            subst (λ w. AreRowOffsets c.args.cube.now k c.args.y (row_start w k w (put_mid first many c.loop-z.row line))) (sym (width d))
            (subst (AreRowOffsets c.args.cube.now k c.args.y) (sym (lines_before columns z first many c.loop-z.row line refl (fits d) long size k before))
            (subst (λ w. AreRowOffsets c.args.cube.now k c.args.y (row_start w k w c.loop-z.row)) (width d) (c.loop-z.invariant.lines k before)))
        | inr after ↦
            let here : k ≡ z = omega (arith, lt, after) in
            rw here (subst (λ w. AreRowOffsets c.args.cube.now z c.args.y (row_start w z w (put_mid first many c.loop-z.row line))) (sym (width d))
            (subst (AreRowOffsets c.args.cube.now z c.args.y)
            (sym (line_there columns z first many c.loop-z.row line refl (fits d) long size ∙ c.copy_from_slice.ensures.after)) c.row.ensures.samples))
      ];
      row = record {
        size = omega (arith, c.loop-z.auto.row, c.requires.row.size, length_put first many c.loop-z.row line (omega (arith, fits d)) (omega (arith, long, size)));
        range = all_put (λ v. v < 2 ^ c.args.params.now.kind.bits) first many c.loop-z.row line c.loop-z.invariant.row.range
            (rw c.copy_from_slice.ensures.after (line_range c.args.params.now c.args.cube.now z c.args.y c.row.result.now c.requires.image c.row.ensures.len c.row.ensures.samples));
      };
    }
