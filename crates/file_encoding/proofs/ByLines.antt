-- The encoder that is handed an image row by row: images that have the same first rows have the same residuals there.
use Rattle.std.proofs.Common.{◌≡◌, ◌+◌, ◌-◌, ◌*◌, ◌^◌, ◌<◌, ◌≤◌, ℕ, zero, suc, min, List, [], ◌∷◌, ◌++◌, length, get_or, map, refl, sym, ap, ap₂, ◌∙◌, subst, arith, inl, inr}
use Rattle.std.specs.List.{flat_map, AllByRecursion}
use Rattle.std.proofs.lemmas.List.{get_or_append_left}
use Rattle.std.proofs.lemmas.Nat.{mul-le, pow_pos}
use Rattle.std.proofs.lemmas.Bool.{cases_lt}
use Rattle.cube_core.specs.Shape.{Sizes}
use Rattle.cube_core.specs.Kind.{SampleKind, sample_of}
use Rattle.cube_core.specs.Image.{Image, IsCube, IsPlace, sample_at}
use Rattle.cube_core.proofs.Images.{same_cube}
use Rattle.cube_core.specs.Order.{from, upto, group, group_count}
use Rattle.header_bits.specs.declared.params.Params.{Params}
use Rattle.header_bits.specs.Lawful.{IsLawful}
use Rattle.sample_prediction.specs.HandedRows.{image_of_rows, index_by_rows, row_size}
use Rattle.sample_prediction.specs.Prediction.{weight_vector}
use Rattle.sample_prediction.specs.Residual.{mapped_residual}
use Rattle.sample_prediction.proofs.HandedRows.{image_is_cube, sample_by_rows}
use Rattle.predict_core.specs.Following.{PredictorState}
use Rattle.predict_core.specs.Precedence.{Agree, AreAlike}
use Rattle.predict_core.proofs.Frame.{weights_same, residual_same}
use Rattle.predict_core.proofs.Kept.{wide_of}
use Rattle.file_encoding.specs.Own.{own, row_of, line_of}
use Rattle.file_encoding.specs.Walks.{IsAt, AreAt}
use Rattle.file_encoding.specs.ByLines.{HasLines, lines_of}
use Rattle.file_encoding.proofs.Sending.{same_lists}
use Rattle.file_encoding.proofs.Encoding.{own_all}

-- two images of the same shape and kind have the same samples in their first n rows
pub record HaveSameRows (c d : Image) (n : ℕ) : Type 0 where
  pub alike : AreAlike c d
  pub same : (z y x : ℕ) → IsPlace c.shape z y x → y < n → sample_at c z y x ≡ sample_at d z y x

-- a place before the first one of row n is in a row before it
row_before : (columns n y x : ℕ) → y * columns + x < n * columns → y < n
row_before columns n y x lt = elim (cases_lt y n) [
  | inl below ↦ below
  | inr above ↦ absurd (let low : n * columns ≤ y * columns = mul-le n columns y columns above (omega arith) in omega (arith, low, lt))
]

module _ (c d : Image) (n : ℕ) (rows : HaveSameRows c d n) where
  agree_rows : (z t : ℕ) → t ≤ n * c.shape.columns → Agree c d z t t
  agree_rows z t le = record {
    alike = rows.alike;
    own = λ y x place lt. rows.same z y x place (row_before c.shape.columns n y x (omega (arith, le, lt)));
    under = λ z' y x place below lt. rows.same z' y x place (row_before c.shape.columns n y x (omega (arith, le, lt)));
  }

  module _ (p : Params) (lawful : IsLawful p) (shape : c.shape ≡ p.shape) (inside : n ≤ c.shape.rows) where
    some : 0 < c.shape.columns
    some = rw shape lawful.sizes.columns.0

    -- the predictors' weights after these rows are the same
    is_at_same : (b : PredictorState) → IsAt p c (n * c.shape.columns) b → IsAt p d (n * c.shape.columns) b
    is_at_same b h =
        let fits : n * c.shape.columns ≤ c.shape.rows * c.shape.columns = mul-le n c.shape.columns c.shape.rows c.shape.columns inside (omega arith) in
        let weights : weight_vector p c b.band b.t ≡ weight_vector p d b.band b.t =
        weights_same p c d b.band (rw shape h.inside) some (wide_of p c lawful shape) b.t (omega (arith, fits, h.next)) (agree_rows b.band b.t (omega (arith, h.next))) in
        record { follows = record { made = h.follows.made; weights = h.follows.weights ∙ weights }; next = h.next; inside = h.inside }

    pub are_at_same : (bands : List PredictorState) → AreAt p c (n * c.shape.columns) bands → AreAt p d (n * c.shape.columns) bands
    are_at_same [] h = tt
    are_at_same (b ∷ bands) h = (is_at_same b h.0, are_at_same bands h.1)

    -- so are the residuals in them
    module _ (y : ℕ) (lt : y < n) where
      residual_there : (z x : ℕ) → z < c.shape.bands → x < c.shape.columns → mapped_residual p c z (y * c.shape.columns + x) ≡ mapped_residual p d z (y * c.shape.columns + x)
      residual_there z x band column =
          let up : suc y * c.shape.columns ≤ n * c.shape.columns = mul-le (suc y) c.shape.columns n c.shape.columns lt (omega arith) in
          let next : suc y * c.shape.columns ≡ y * c.shape.columns + c.shape.columns = grind arith in
          let fits : n * c.shape.columns ≤ c.shape.rows * c.shape.columns = mul-le n c.shape.columns c.shape.rows c.shape.columns inside (omega arith) in
          residual_same p c d z band some (wide_of p c lawful shape) (y * c.shape.columns + x) (omega (arith, up, next, fits, column))
          (agree_rows z (suc (y * c.shape.columns + x)) (omega (arith, up, next, column)))

      column_there : (a m x : ℕ) → ((k : ℕ) → k < m → a + k < c.shape.bands) → x < c.shape.columns
          → map (λ z. mapped_residual p c z (y * c.shape.columns + x)) (from a m) ≡ map (λ z. mapped_residual p d z (y * c.shape.columns + x)) (from a m)
      column_there a zero x bands column = refl
      column_there a (suc m) x bands column =
          let first : a < c.shape.bands = omega (arith, bands 0 (omega arith)) in
          ap₂ (λ v vs. v ∷ vs) (residual_there a x first column) (column_there (suc a) m x (λ k lt. omega (arith, bands (suc k) (omega (arith, lt)))) column)

      pub row_there : (a m : ℕ) → ((k : ℕ) → k < m → a + k < c.shape.bands) → row_of p c (from a m) y ≡ row_of p d (from a m) y
      unfolding row_of
      row_there a m bands =
          let columns : c.shape.columns ≡ d.shape.columns = ap (λ (s : Sizes). s.columns) rows.alike.shape in
          same_lists (λ x. map (λ z. mapped_residual p c z (y * c.shape.columns + x)) (from a m))
          (λ x. map (λ z. mapped_residual p d z (y * c.shape.columns + x)) (from a m)) 0 0 c.shape.columns
          (λ i within. column_there a m (0 + i) bands (omega (arith, within)))
          ∙ ap (λ n. flat_map (λ x. map (λ z. mapped_residual p d z (y * n + x)) (from a m)) (upto n)) columns

      group_there : (depth i : ℕ) → row_of p c (own 0 [] (group c.shape depth i)) y ≡ row_of p d (own 0 [] (group c.shape depth i)) y
      group_there depth i =
          ap (λ zs. row_of p c zs y) (own_all (group c.shape depth i))
          ∙ row_there (i * depth) (min depth (c.shape.bands - i * depth)) (λ k lt. omega (arith, lt))
          ∙ sym (ap (λ zs. row_of p d zs y) (own_all (group c.shape depth i)))

      pub line_there : (depth : ℕ) → line_of p c 0 [] depth y ≡ line_of p d 0 [] depth y
      unfolding line_of
      line_there depth =
          same_lists (λ i. row_of p c (own 0 [] (group c.shape depth i)) y) (λ i. row_of p d (own 0 [] (group c.shape depth i)) y) 0 0
          (group_count c.shape depth) (λ i within. group_there depth (0 + i))
          ∙ ap (λ (s : Sizes). flat_map (λ i. row_of p d (own 0 [] (group s depth i)) y) (upto (group_count s depth))) rows.alike.shape

    pub lines_there : (depth : ℕ) → lines_of p c depth n ≡ lines_of p d depth n
    lines_there depth =
        same_lists (λ y. line_of p c 0 [] depth y) (λ y. line_of p d 0 [] depth y) 0 0 n (λ i within. line_there (0 + i) (omega (arith, within)) depth)

-- ---- the images of some rows, and of more

pub row_end : (s : Sizes) (n z y x : ℕ) → IsPlace s z y x → y < n → index_by_rows s z y x < n * row_size s
row_end s n z y x place lt =
    let bands : suc y * s.bands ≤ n * s.bands = mul-le (suc y) s.bands n s.bands lt (omega arith) in
    let next : suc y * s.bands ≡ y * s.bands + s.bands = grind arith in
    let band : suc (y * s.bands + z) ≤ n * s.bands = omega (arith, bands, next, place.band) in
    let columns : suc (y * s.bands + z) * s.columns ≤ n * s.bands * s.columns = mul-le (suc (y * s.bands + z)) s.columns (n * s.bands) s.columns band (omega arith) in
    let after : suc (y * s.bands + z) * s.columns ≡ (y * s.bands + z) * s.columns + s.columns = grind arith in
    let size : n * s.bands * s.columns ≡ n * row_size s = grind arith in
    omega (arith, columns, after, size, place.column)

pub image_more : (s : Sizes) (k : SampleKind) (offsets more : List ℕ) (n : ℕ) → length offsets ≡ n * row_size s
    → HaveSameRows (image_of_rows s k offsets) (image_of_rows s k (offsets ++ more)) n
unfolding image_of_rows
image_more s k offsets more n size = record {
  alike = record { shape = refl; kind = refl };
  same = λ z y x place lt.
      let within : index_by_rows s z y x < length offsets = omega (arith, size, row_end s n z y x place lt) in
      sample_by_rows s k offsets z y x place ∙ sym (ap (sample_of k) (get_or_append_left offsets more 0 (index_by_rows s z y x) within))
      ∙ sym (sample_by_rows s k (offsets ++ more) z y x place);
}

-- a cube that has all rows is the image of these
pub whole_image : (p : Params) (c : Image) (offsets : List ℕ) → IsLawful p → IsCube c → c.shape ≡ p.shape → c.kind ≡ p.kind → HasLines c offsets
    → AllByRecursion (λ v. v < 2 ^ p.kind.bits) offsets → image_of_rows p.shape p.kind offsets ≡ c
unfolding image_of_rows
whole_image p c offsets lawful cube shape kind rows range =
    let image : Image = image_of_rows p.shape p.kind offsets in
    same_cube image c (sym shape) (sym kind) (image_is_cube p.shape p.kind offsets range (pow_pos p.kind.bits) lawful.sizes lawful.kind) cube
    (λ q place.
    sample_by_rows p.shape p.kind offsets q.z q.y q.x place
    ∙ sym (subst (λ (s : Sizes). sample_at c q.z q.y q.x ≡ sample_of p.kind (get_or offsets (index_by_rows s q.z q.y q.x) 0)) shape
    (subst (λ (k : SampleKind). sample_at c q.z q.y q.x ≡ sample_of k (get_or offsets (index_by_rows c.shape q.z q.y q.x) 0)) kind
    (rows q.z q.y q.x (rw shape place)))))
