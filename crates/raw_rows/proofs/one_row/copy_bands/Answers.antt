use Rattle.std.proofs.Common.{◌≡◌, ◌+◌, ◌*◌, ◌<◌, ◌≤◌, ◌^◌, ℕ, suc, List, length, sym, ap, ◌∙◌, arith, inl, inr}
use Rattle.std.proofs.lemmas.Bool.{cases_lt}
use Rattle.std.proofs.lemmas.Nat.{mul-le}
use Rattle.std.specs.Prelude.{slice_index}
use Rattle.cube_core.specs.Image.{Image, sample_at}
use Rattle.cube_core.specs.Kind.{sample_of}
use Rattle.cube_core.specs.Shape.{Sizes}
use Rattle.raw_rows.proofs.one_row.copy_bands.Goals as goal

-- a band's row was put behind those of the bands before
one_more : (c : Image) (columns at : ℕ) (old new band : List ℕ) → c.shape.columns ≡ columns → length band ≡ columns
    → ((x : ℕ) → x < c.shape.columns → (slice_index band x < 2 ^ c.kind.bits) × (sample_at c at 0 x ≡ sample_of c.kind (slice_index band x)))
    → ((i : ℕ) → i < length band → slice_index new (at * columns + i) ≡ slice_index band i)
    → ((j : ℕ) → j < at * columns → slice_index new j ≡ slice_index old j)
    → ((z x : ℕ) → z < at → x < c.shape.columns → (slice_index old (z * c.shape.columns + x) < 2 ^ c.kind.bits)
    × (sample_at c z 0 x ≡ sample_of c.kind (slice_index old (z * c.shape.columns + x))))
    → (z x : ℕ) → z < at + 1 → x < c.shape.columns → (slice_index new (z * c.shape.columns + x) < 2 ^ c.kind.bits)
    × (sample_at c z 0 x ≡ sample_of c.kind (slice_index new (z * c.shape.columns + x)))
one_more c columns at old new band width long here put before copied z x lt in_row = elim (cases_lt z at) [
  | inl early ↦
      (let low : suc z * columns ≤ at * columns = mul-le (suc z) columns at columns early (omega arith) in
      let next : suc z * columns ≡ z * columns + columns = grind arith in
      let same : slice_index new (z * c.shape.columns + x) ≡ slice_index old (z * c.shape.columns + x) =
      rw width (before (z * columns + x) (omega (arith, low, next, rw width at in_row))) in
      rw same (copied z x early in_row))
  | inr late ↦
      (let last : z ≡ at = omega (arith, lt, late) in
      let same : slice_index new (z * c.shape.columns + x) ≡ slice_index band x = rw (last, width) (put x (rw long (rw width at in_row))) in
      rw (same, last) (here x in_row))
]

pub loop-z-preserved : goal.loop-z-preserved
loop-z-preserved c = record {
  within = omega (arith, c.loop-z-test.true);
  long = c.put_band.ensures.long ∙ c.loop-z.invariant.long;
  copied = one_more c.args.row.now c.columns-columns.result c.loop-z.z c.loop-z.samples c.put_band.new.samples c.row.result.now
      (sym (c.columns-columns.ensures.value ∙ ap (λ (s : Sizes). s.columns) c.shape.ensures))
      (c.row.ensures.len ∙ sym (c.columns-columns.ensures.value ∙ ap (λ (s : Sizes). s.columns) c.shape.ensures)) c.row.ensures.samples c.put_band.ensures.put
      c.put_band.ensures.before c.loop-z.invariant.copied;
}
