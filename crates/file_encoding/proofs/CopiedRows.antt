-- The rows of an image that are copied out of it, one after another.
use Rattle.std.proofs.Common.{◌≡◌, ◌+◌, ◌-◌, ◌*◌, ◌^◌, ◌<◌, ℕ, List, [], ◌++◌, length, drop, get_or, sym, ap, ap₂, ◌∙◌, subst, arith, inl, inr, refl}
use Rattle.std.specs.List.{AllByRecursion}
use Rattle.std.proofs.lemmas.Bool.{cases_lt}
use Rattle.std.proofs.lemmas.Grind.{get_or_default_zero}
use Rattle.std.proofs.lemmas.List.Elements.{recursion_from_All}
use Rattle.std.proofs.lemmas.List.{get_or_append_left, get_or-append_right, get_or-take, get_or-drop}
use Rattle.cube_core.specs.Shape.{Sizes}
use Rattle.cube_core.specs.Kind.{SampleKind, sample_of}
use Rattle.cube_core.specs.Image.{Image, IsPlace, sample_at}
use Rattle.cube_core.specs.Offsets.{AreRowOffsets}
use Rattle.header_bits.specs.declared.params.Params.{Params}
use Rattle.header_bits.specs.Lawful.{IsLawful}
use Rattle.sample_prediction.specs.HandedRows.{image_of_rows, index_by_rows, row_size}
use Rattle.sample_prediction.proofs.HandedRows.{sample_by_rows}
use Rattle.predict_core.specs.Following.{PredictorState}
use Rattle.file_encoding.specs.InPlace.{HasLinesAt}
use Rattle.file_encoding.specs.Own.{line_of}
use Rattle.file_encoding.specs.Pieces.{row_start}
use Rattle.file_encoding.specs.Walks.{IsSeen, AreAt}
use Rattle.file_encoding.proofs.ByLines.{HaveSameRows, are_at_same, line_there, row_end}

-- ---- lines that a cube lends

pub line_range : (p : Params) (c : Image) (z y : ℕ) (line : List ℕ) → IsSeen p c → length line ≡ c.shape.columns → AreRowOffsets c z y line
    → AllByRecursion (λ v. v < 2 ^ p.kind.bits) line
line_range p c z y line seen long are =
    recursion_from_All (λ v. v < 2 ^ p.kind.bits) line (λ i d lt.
    rw (get_or_default_zero line i d lt) (subst (λ (k : SampleKind). get_or line i 0 < 2 ^ k.bits) seen.kind ((are i (omega (arith, lt, long))).0)))

-- ---- the image of the rows that were copied so far

-- the first n rows of an image are these
abbrev pub HasFirstLines : Image → List ℕ → ℕ → Type 0
HasFirstLines c rows n =
    (z y x : ℕ) → IsPlace c.shape z y x → y < n → sample_at c z y x ≡ sample_of c.kind (get_or rows (index_by_rows c.shape z y x) 0)

pub have_same : (p : Params) (c : Image) (rows : List ℕ) (n : ℕ) → IsSeen p c → HasFirstLines c rows n → HaveSameRows (image_of_rows p.shape p.kind rows) c n
unfolding image_of_rows
have_same p c rows n seen first = record {
  alike = record { shape = sym seen.shape; kind = sym seen.kind };
  same = λ z y x place lt.
      sample_by_rows p.shape p.kind rows z y x place
      ∙ sym (subst (λ (s : Sizes). sample_at c z y x ≡ sample_of p.kind (get_or rows (index_by_rows s z y x) 0)) seen.shape
      (subst (λ (k : SampleKind). sample_at c z y x ≡ sample_of k (get_or rows (index_by_rows c.shape z y x) 0)) seen.kind
      (first z y x (rw seen.shape place) lt)));
}

pub first_more : (c d : Image) (y : ℕ) (rows row : List ℕ) → length rows ≡ y * row_size c.shape → HasFirstLines c rows y → d.shape ≡ c.shape → d.kind ≡ c.kind
    → ((z x : ℕ) → IsPlace c.shape z y x → sample_at c z y x ≡ sample_at d z y x) → HasLinesAt d y c.shape.bands row → HasFirstLines c (rows ++ row) (y + 1)
first_more c d y rows row size first shape kind same lines z y' x place lt = elim (cases_lt y' y) [
  | inl before ↦
      first z y' x place before
      ∙ sym (ap (sample_of c.kind) (get_or_append_left rows row 0 (index_by_rows c.shape z y' x) (omega (arith, size, row_end c.shape y z y' x place before))))
  | inr after ↦
      let is : y' ≡ y = omega (arith, lt, after) in
      let columns : ℕ = c.shape.columns in
      let here : index_by_rows c.shape z y x ≡ y * row_size c.shape + (z * columns + x) = grind arith in
      let there : index_by_rows c.shape z y x - y * row_size c.shape ≡ z * columns + x = omega (arith, here) in
      let width : d.shape.columns ≡ columns = ap (λ (s : Sizes). s.columns) shape in
      let line : get_or (row_start columns z columns row) x 0 ≡ get_or (rows ++ row) (index_by_rows c.shape z y x) 0 =
      get_or-take columns (drop (z * columns) row) x 0 place.column ∙ get_or-drop (z * columns) row x 0
      ∙ ap (λ i. get_or row i 0) (sym there)
      ∙ sym (get_or-append_right rows row (y * row_size c.shape) (index_by_rows c.shape z y x) 0 size (omega (arith, here))) in
      let its : sample_at d z y x ≡ sample_of d.kind (get_or (row_start columns z columns row) x 0) =
      (lines z place.band x (rw width place.column)).1 ∙ ap (λ w. sample_of d.kind (get_or (row_start w z w row) x 0)) width in
      rw is (same z x (rw is at place) ∙ its ∙ ap₂ (λ (k : SampleKind) (n : ℕ). sample_of k n) kind line)
]

-- ---- one row more

-- y rows of an image were copied, and then the next one
pub record IsCopied (p : Params) (c : Image) (y : ℕ) (rows row : List ℕ) : Type 0 where
  pub lawful : IsLawful p
  pub seen : IsSeen p c
  pub inside : y < p.shape.rows
  pub lines : HasFirstLines c (rows ++ row) (y + 1)

pub copied_more : (p : Params) (c : Image) (y : ℕ) (rows row : List ℕ) → IsLawful p → IsSeen p c → y < p.shape.rows → length rows ≡ y * row_size p.shape
    → HasFirstLines c rows y → HasLinesAt c y p.shape.bands row → IsCopied p c y rows row
copied_more p c y rows row lawful seen inside size first lines = record {
  lawful = lawful;
  seen = seen;
  inside = inside;
  lines = first_more c c y rows row (rw seen.shape size) first refl refl (λ z x place. refl)
      (subst (λ n. HasLinesAt c y n row) (ap (λ (s : Sizes). s.bands) (sym seen.shape)) lines);
}

module _ {p : Params} {c : Image} {y : ℕ} {rows row : List ℕ} (h : IsCopied p c y rows row) where
  abbrev image : Image
  image = image_of_rows p.shape p.kind (rows ++ row)

  pub same : HaveSameRows image c (y + 1)
  same = have_same p c (rows ++ row) (y + 1) h.seen h.lines

  before : HaveSameRows c image y
  before = record {
    alike = record { shape = sym same.alike.shape; kind = sym same.alike.kind };
    same = λ z y' x place lt. sym (same.same z y' x (rw same.alike.shape place) (omega (arith, lt)));
  }

  pub at_there : (bands : List PredictorState) → AreAt p c (y * p.shape.columns) bands → AreAt p image (y * p.shape.columns) bands
  at_there bands at =
      let columns : c.shape.columns ≡ p.shape.columns = ap (λ (s : Sizes). s.columns) h.seen.shape in
      subst (λ w. AreAt p image (y * w) bands) columns
      (are_at_same c image y before p h.lawful h.seen.shape (rw h.seen.shape (omega (arith, h.inside))) bands
      (subst (λ w. AreAt p c (y * w) bands) (sym columns) at))

  pub at_back : (bands : List PredictorState) → AreAt p image ((y + 1) * p.shape.columns) bands → AreAt p c ((y + 1) * p.shape.columns) bands
  unfolding image_of_rows
  at_back bands at = are_at_same image c (y + 1) same p h.lawful refl (omega (arith, h.inside)) bands at

  pub line_back : (depth : ℕ) → line_of p image 0 [] depth y ≡ line_of p c 0 [] depth y
  unfolding image_of_rows
  line_back depth = line_there image c (y + 1) same p h.lawful refl (omega (arith, h.inside)) y (omega arith) depth
