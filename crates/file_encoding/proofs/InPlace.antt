-- Mapped residuals take the place of an image's samples, row after row.
use Rattle.std.proofs.Common.{◌≡◌, ◌+◌, ◌-◌, ◌*◌, ◌^◌, ◌<◌, ◌≤◌, ℕ, zero, suc, ℤ, pos, ◌+ℤ◌, ◌-ℤ◌, unsigned_abs, List, [], ◌∷◌, ◌++◌, length, take, drop, get_or, map}
use Rattle.std.proofs.Common.{refl, sym, ap, ap₂, ◌∙◌, subst, arith, inl, inr}
use Rattle.std.specs.List.{flat_map, AllByRecursion}
use Rattle.std.proofs.Math.Seq.{take-append_seam, drop-append_seam}
use Rattle.std.proofs.lemmas.Bool.{cases_lt}
use Rattle.std.proofs.lemmas.Int.{ints}
use Rattle.std.proofs.lemmas.Nat.{pow_pos}
use Rattle.cube_core.specs.Shape.{Sizes}
use Rattle.cube_core.specs.Kind.{SampleKind, sample_of, smin}
use Rattle.cube_core.specs.Image.{Image, IsCube, IsPlace, sample_at}
use Rattle.cube_core.specs.Order.{IsOrder, from, upto}
use Rattle.cube_core.specs.Runs.{IsRunSet}
use Rattle.cube_core.proofs.Lists.{length-from}
use Rattle.cube_core.specs.declared.order.Order.TheVariants.{Bsq}
use Rattle.header_bits.specs.declared.params.Params.{Params}
use Rattle.header_bits.specs.Lawful.{IsLawful}
use Rattle.header_bits.proofs.Items.{all_append, all_first, all_last}
use Rattle.sample_prediction.specs.HandedRows.{image_of_rows, row_size}
use Rattle.sample_prediction.specs.Residual.{residuals}
use Rattle.sample_prediction.proofs.HandedRows.{image_is_cube}
use Rattle.predict_core.specs.Offsets.{number_at}
use Rattle.predict_core.proofs.OneCube.{residuals_inside}
use Rattle.file_encoding.specs.ByPlanes.{IsRow}
use Rattle.file_encoding.specs.InPlace.{AreLinesSet, AreTurned, HasLinesAt, all_offsets, offsets_of}
use Rattle.file_encoding.specs.Own.{own_residuals, row_of, rows_of}
use Rattle.file_encoding.specs.Walks.{IsSeen}
use Rattle.file_encoding.proofs.ByLines.{row_there}
use Rattle.file_encoding.proofs.CopiedRows.{HasFirstLines, IsCopied, first_more, same}
use Rattle.file_encoding.proofs.Encoding.{all_residuals, own_all}
use Rattle.file_encoding.proofs.Sending.{all_items, from_split, same_lists, upto_rest, upto_split}

-- ---- the offsets of a row's samples

number_of_offset : (least v : ℤ) (n : ℕ) → v ≡ least +ℤ pos n → unsigned_abs (v -ℤ least) ≡ n
number_of_offset least v n e = omega (arith, ints, e)

same_maps : (f g : ℕ → ℕ) (a n : ℕ) → ((i : ℕ) → i < n → f (a + i) ≡ g (a + i)) → map f (from a n) ≡ map g (from a n)
same_maps f g a zero h = refl
same_maps f g a (suc n) h =
    let first : f a ≡ g a = ap f (omega arith) ∙ h 0 (omega arith) ∙ ap g (omega arith) in
    ap₂ (λ v vs. v ∷ vs) first (same_maps f g (suc a) n (λ i lt. ap f (omega arith) ∙ h (suc i) (omega (arith, lt)) ∙ ap g (omega arith)))

pub offsets_are : (c : Image) (z y : ℕ) (line : List ℕ) → length line ≡ c.shape.columns
    → ((x : ℕ) → x < c.shape.columns → sample_at c z y x ≡ sample_of c.kind (get_or line x 0)) → line ≡ offsets_of c z y
offsets_are c z y line long are =
    all_items line 0 c.shape.columns long
    ∙ same_maps (λ x. get_or line x 0) (λ x. number_at c z y x) 0 c.shape.columns
    (λ i lt. sym (number_of_offset (smin c.kind) (sample_at c z y (0 + i)) (get_or line (0 + i) 0) (are (0 + i) (omega (arith, lt)))))

pub same_offsets : (c d : Image) (z y : ℕ) → d.shape ≡ c.shape → d.kind ≡ c.kind
    → ((x : ℕ) → x < c.shape.columns → sample_at c z y x ≡ sample_at d z y x) → offsets_of d z y ≡ offsets_of c z y
same_offsets c d z y shape kind same =
    let columns : d.shape.columns ≡ c.shape.columns = ap (λ (s : Sizes). s.columns) shape in
    ap (λ n. map (λ x. number_at d z y x) (upto n)) columns
    ∙ same_maps (λ x. number_at d z y x) (λ x. number_at c z y x) 0 c.shape.columns
    (λ i lt. sym (ap₂ (λ (v : ℤ) (k : SampleKind). unsigned_abs (v -ℤ smin k)) (same (0 + i) (omega (arith, lt))) (sym kind)))

-- ---- lines are set, one after another

pub line_set : {c d e : Image} {first y k : ℕ} {lines : ℕ → List ℕ} (line : List ℕ) → AreLinesSet c d first y k lines → IsRunSet d e (first + k) y 0 line
    → line ≡ lines k → length line ≡ c.shape.columns → first + k < c.shape.bands → y < c.shape.rows → AreLinesSet c e first y (k + 1) lines
line_set {c = c} {d = d} {e = e} {first = first} {y = y} {k = k} {lines = lines} line was run is long band row = record {
  shape = run.shape ∙ was.shape;
  kind = run.kind ∙ was.kind;
  set = λ j lt. elim (cases_lt j k) [
    | inl before ↦
        same_offsets d e (first + j) y run.shape run.kind (λ x column.
        let there : IsPlace d.shape (first + j) y x = rw was.shape (record { band = omega (arith, band, before); row = row; column = rw was.shape at column }) in
        run.others (first + j) y x there (λ same _ _. absurd (omega (arith, same, before)))) ∙ was.set j before
    | inr after ↦
        let here : j ≡ k = omega (arith, lt, after) in
        let columns : length line ≡ e.shape.columns = long ∙ sym (ap (λ (s : Sizes). s.columns) (run.shape ∙ was.shape)) in
        rw here (sym (offsets_are e (first + k) y line columns (λ x column.
        let place : 0 + x ≡ x = omega arith in
        subst (λ i. sample_at e (first + k) y i ≡ sample_of e.kind (get_or line x 0)) place
        (run.written x (omega (arith, column, columns)) ∙ ap (λ (s : SampleKind). sample_of s (get_or line x 0)) (sym run.kind)))) ∙ is)
  ];
  others = λ z y' x place out.
      was.others z y' x place (λ same low. omega (arith, out same low))
      ∙ run.others z y' x (rw was.shape place) (λ same same_row _. absurd (omega (arith, same, out same_row (omega (arith, same)))));
}

pub lines_none : (c : Image) (first y : ℕ) (lines : ℕ → List ℕ) → AreLinesSet c c first y 0 lines
lines_none c first y lines = record { shape = refl; kind = refl; set = λ k lt. absurd (omega (arith, lt)); others = λ z y' x place out. refl }

-- those of some bands, and of the next ones
pub lines_set : {c d e : Image} {y n m : ℕ} {lines : ℕ → List ℕ} → AreLinesSet c d 0 y n lines → AreLinesSet d e n y m (λ k. lines (n + k))
    → n + m ≤ c.shape.bands → y < c.shape.rows → AreLinesSet c e 0 y (n + m) lines
lines_set {c = c} {d = d} {e = e} {y = y} {n = n} {m = m} {lines = lines} was next inside row = record {
  shape = next.shape ∙ was.shape;
  kind = next.kind ∙ was.kind;
  set = λ j lt. elim (cases_lt j n) [
    | inl before ↦
        same_offsets d e (0 + j) y next.shape next.kind (λ x column.
        let there : IsPlace d.shape (0 + j) y x = rw was.shape (record { band = omega (arith, inside, before); row = row; column = rw was.shape at column }) in
        next.others (0 + j) y x there (λ _ low. absurd (omega (arith, low, before)))) ∙ was.set j before
    | inr after ↦
        let here : n + (j - n) ≡ j = omega (arith, after) in
        subst (λ i. offsets_of e (0 + i) y ≡ lines i) here (rw (zero_more (n + (j - n))) (next.set (j - n) (omega (arith, lt, after))))
  ];
  others = λ z y' x place out.
      was.others z y' x place (λ same low. omega (arith, out same low))
      ∙ next.others z y' x (rw was.shape place) (λ same low. omega (arith, out same (omega arith)));
}
  where
    zero_more : (i : ℕ) → 0 + i ≡ i
    zero_more i = omega arith

-- ---- rows are turned, one after another

pub turned_none : (p : Params) (c : Image) → AreTurned p c c 0
turned_none p c = record { shape = refl; kind = refl; turned = λ z y band lt. absurd (omega (arith, lt)); left = λ z y x place after. refl }

pub turned_more : {p : Params} {c d e : Image} {y : ℕ} {lines : ℕ → List ℕ} → AreTurned p c d y → AreLinesSet d e 0 y c.shape.bands lines → y < c.shape.rows
    → ((z : ℕ) → z < c.shape.bands → lines z ≡ row_of p c (z ∷ []) y) → AreTurned p c e (y + 1)
turned_more {p = p} {c = c} {d = d} {e = e} {y = y} {lines = lines} was set row same = record {
  shape = set.shape ∙ was.shape;
  kind = set.kind ∙ was.kind;
  turned = λ z y' band lt. elim (cases_lt y' y) [
    | inl before ↦
        same_offsets d e z y' set.shape set.kind (λ x column.
        let there : IsPlace d.shape z y' x = rw was.shape (record { band = band; row = omega (arith, before, row); column = rw was.shape at column }) in
        set.others z y' x there (λ here _. absurd (omega (arith, here, before)))) ∙ was.turned z y' band before
    | inr after ↦
        let here : y' ≡ y = omega (arith, lt, after) in
        let place : 0 + z ≡ z = omega arith in
        rw here (subst (λ i. offsets_of e i y ≡ lines z) place (set.set z band) ∙ same z band)
  ];
  left = λ z y' x place after.
      was.left z y' x place (omega (arith, after)) ∙ set.others z y' x (rw was.shape place) (λ here _. absurd (omega (arith, here, after)));
}

-- ---- residuals are in range

pub row_range : (p : Params) (c : Image) → IsLawful p → p.order ≡ Bsq → IsSeen p c → IsCube c → (z y : ℕ) → z < p.shape.bands → y < p.shape.rows
    → AllByRecursion (λ v. v < 2 ^ p.kind.bits) (row_of p c (z ∷ []) y)
unfolding rows_of
row_range p c lawful order seen cube z y band row =
    let In : List ℕ → Type 0 = AllByRecursion (λ v. v < 2 ^ p.kind.bits) in
    let all : In (residuals p c) =
    subst (λ (k : SampleKind). AllByRecursion (λ v. v < 2 ^ k.bits) (residuals p c)) seen.kind
    (residuals_inside p c (subst (λ s. IsOrder s p.order) (sym seen.shape) lawful.order) cube) in
    let is : residuals p c ≡ flat_map (λ z. rows_of p c (z ∷ [])) (upto c.shape.bands) =
    sym (all_residuals p c lawful.order seen.shape) ∙ ap (own_residuals p c 0 []) order
    ∙ ap (flat_map (λ z. rows_of p c (z ∷ []))) (own_all (upto c.shape.bands)) in
    let plane = upto_rest (λ z. rows_of p c (z ∷ [])) z c.shape.bands (rw seen.shape band) in
    let planes : In (flat_map (λ z. rows_of p c (z ∷ [])) (upto z) ++ rows_of p c (z ∷ [])) =
    all_first _ _ plane.tail (subst In (is ∙ plane.whole ∙ ap (λ v. v ++ plane.tail) plane.more) all) in
    let lines = upto_rest (λ y. row_of p c (z ∷ []) y) y c.shape.rows (rw seen.shape row) in
    let some : In (flat_map (λ y. row_of p c (z ∷ []) y) (upto y) ++ row_of p c (z ∷ []) y) =
    all_first _ _ lines.tail (subst In (lines.whole ∙ ap (λ v. v ++ lines.tail) lines.more) (all_last _ _ (rows_of p c (z ∷ [])) planes)) in
    all_last _ _ (row_of p c (z ∷ []) y) some

-- ---- all rows were turned

pub all_turned : (p : Params) (c d : Image) → AreTurned p c d c.shape.rows → all_offsets d ≡ own_residuals p c 0 [] Bsq
unfolding rows_of
all_turned p c d turned =
    let bands : d.shape.bands ≡ c.shape.bands = ap (λ (s : Sizes). s.bands) turned.shape in
    let rows : d.shape.rows ≡ c.shape.rows = ap (λ (s : Sizes). s.rows) turned.shape in
    ap₂ (λ m n. flat_map (λ z. flat_map (λ y. offsets_of d z y) (upto n)) (upto m)) bands rows
    ∙ same_lists (λ z. flat_map (λ y. offsets_of d z y) (upto c.shape.rows)) (λ z. rows_of p c (z ∷ [])) 0 0 c.shape.bands (λ z band.
    same_lists (λ y. offsets_of d (0 + z) y) (λ y. row_of p c ((0 + z) ∷ []) y) 0 0 c.shape.rows (λ y row.
    turned.turned (0 + z) (0 + y) (omega (arith, band)) (omega (arith, row))))
    ∙ ap (flat_map (λ z. rows_of p c (z ∷ []))) (sym (own_all (upto c.shape.bands)))

-- ---- some of the bands

pub bands_from : (n a m : ℕ) → a + m ≤ n → take m (drop a (upto n)) ≡ from a m
bands_from n a m le =
    let rest : a + (m + (n - (a + m))) ≡ n = omega (arith, le) in
    let cut : upto n ≡ upto a ++ (from a m ++ from (a + m) (n - (a + m))) =
    ap upto (sym rest) ∙ upto_split a (m + (n - (a + m))) ∙ ap (λ v. upto a ++ v) (from_split a m (n - (a + m))) in
    let before : length (upto a) ≡ a = length-from 0 a in
    let these : length (from a m) ≡ m = length-from a m in
    ap (λ v. take m (drop a v)) cut
    ∙ ap (λ k. take m (drop k (upto a ++ (from a m ++ from (a + m) (n - (a + m)))))) (sym before)
    ∙ ap (take m) (drop-append_seam (upto a) (from a m ++ from (a + m) (n - (a + m))))
    ∙ ap (λ k. take k (from a m ++ from (a + m) (n - (a + m)))) (sym these) ∙ take-append_seam (from a m) (from (a + m) (n - (a + m)))

-- ---- one row more

-- y rows of an image c were copied, and their residuals took their place, which is d; the next row was copied from it
pub record IsNextRow (p : Params) (c d : Image) (y : ℕ) (rows row : List ℕ) : Type 0 where
  pub lawful : IsLawful p
  pub order : p.order ≡ Bsq
  pub seen : IsSeen p c
  pub cube : IsCube c
  pub inside : y < p.shape.rows
  pub size : length rows ≡ y * row_size p.shape
  pub range : AllByRecursion (λ v. v < 2 ^ p.kind.bits) rows
  pub is_row : IsRow p row
  pub first : HasFirstLines c rows y
  pub turned : AreTurned p c d y
  pub lines : HasLinesAt d y p.shape.bands row

module _ {p : Params} {c d : Image} {y : ℕ} {rows row : List ℕ} (h : IsNextRow p c d y rows row) where
  abbrev image : Image
  image = image_of_rows p.shape p.kind (rows ++ row)

  pub copied : IsCopied p c y rows row
  copied = record {
    lawful = h.lawful;
    seen = h.seen;
    inside = h.inside;
    lines = first_more c d y rows row (rw h.seen.shape h.size) h.first h.turned.shape h.turned.kind
        (λ z x place. h.turned.left z y x place (omega arith)) (rw h.seen.shape h.lines);
  }

  pub range_there : (z : ℕ) → z < p.shape.bands → AllByRecursion (λ v. v < 2 ^ p.kind.bits) (row_of p image (z ∷ []) y)
  unfolding image_of_rows
  range_there z band =
      row_range p image h.lawful h.order (record { shape = refl; kind = refl })
      (image_is_cube p.shape p.kind (rows ++ row) (all_append (λ v. v < 2 ^ p.kind.bits) rows row h.range h.is_row.range) (pow_pos p.kind.bits) h.lawful.sizes h.lawful.kind)
      z y band h.inside

  pub line_back : (z : ℕ) → z < p.shape.bands → row_of p image (z ∷ []) y ≡ row_of p c (z ∷ []) y
  unfolding image_of_rows
  line_back z band = row_there image c (y + 1) (same copied) p h.lawful refl (omega (arith, h.inside)) y (omega arith) z 1 (λ k one. omega (arith, band, one))

  pub turned_now : {e : Image} → AreLinesSet d e 0 y p.shape.bands (λ z. row_of p image (z ∷ []) y) → AreTurned p c e (y + 1)
  turned_now set = turned_more h.turned (rw h.seen.shape set) (rw h.seen.shape h.inside) (λ z band. line_back z (rw h.seen.shape at band))
