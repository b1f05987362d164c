-- The rows that an encoder was handed, and the image that has them.
use Rattle.std.proofs.Common.{◌≡◌, ◌+◌, ◌*◌, ◌^◌, ◌<◌, ◌≤◌, ℕ, suc, List, [], ◌∷◌, ◌++◌, length, get_or, refl, sym, ap, ◌∙◌, subst, arith}
use Rattle.std.specs.List.{AllByRecursion}
use Rattle.std.proofs.lemmas.List.{get_or_append_left}
use Rattle.std.proofs.lemmas.Nat.{mul-le, pow_pos}
use Rattle.cube_core.specs.declared.order.Order.{Order}
use Rattle.cube_core.specs.declared.order.Order.TheVariants.{Bsq, Bi}
use Rattle.cube_core.specs.Shape.{Sizes, sample_count}
use Rattle.cube_core.specs.Kind.{SampleKind, sample_of}
use Rattle.cube_core.specs.Image.{Image, IsCube, IsPlace, sample_at}
use Rattle.header_bits.specs.declared.params.Params.{Params}
use Rattle.header_bits.specs.Lawful.{IsLawful}
use Rattle.sample_prediction.specs.HandedRows.{image_of_rows, index_by_rows, row_size}
use Rattle.sample_prediction.proofs.HandedRows.{image_is_cube, sample_by_rows}
use Rattle.file_encoding.specs.ByLines.{LineEncoderState, AreLinesUnderWay, HasLines, IsFileOfLines}
use Rattle.file_encoding.specs.ByPlanes.{PlaneEncoderState, ArePlanesUnderWay, HasPlanes, IsFileOfPlanes, image_of_planes}
use Rattle.file_encoding.specs.ByRows.{HasRows, IsFileOfRows, IsUnderWay, IsWalking, RowEncoderState, band_in_row, image_in, image_so_far, index_handed, row_of_place, rows_handed, rows_of_order, rows_walked}
use Rattle.file_encoding.specs.declared.row_encoder.Walk.TheVariants as walk
use Rattle.file_encoding.proofs.ByPlanes.{planes_are_cube, sample_by_planes}

-- ---- the image

pub shape_in : (o : Order) (s : Sizes) (k : SampleKind) (offsets : List ℕ) → (image_in o s k offsets).shape ≡ s
unfolding image_of_rows image_of_planes
shape_in Bsq s k offsets = refl
shape_in (Bi depth) s k offsets = refl

pub kind_in : (o : Order) (s : Sizes) (k : SampleKind) (offsets : List ℕ) → (image_in o s k offsets).kind ≡ k
unfolding image_of_rows image_of_planes
kind_in Bsq s k offsets = refl
kind_in (Bi depth) s k offsets = refl

pub cube_so_far : (p : Params) (offsets : List ℕ) → IsLawful p → AllByRecursion (λ v. v < 2 ^ p.kind.bits) offsets → IsCube (image_so_far p offsets)
cube_so_far p offsets lawful range = by_order p.order
  where
    by_order : (o : Order) → IsCube (image_in o p.shape p.kind offsets)
    by_order Bsq = planes_are_cube p.shape offsets p.kind range lawful.sizes lawful.kind
    by_order (Bi depth) = image_is_cube p.shape p.kind offsets range (pow_pos p.kind.bits) lawful.sizes lawful.kind

-- all rows have all samples
pub all_handed : (o : Order) (s : Sizes) → (rows_of_order o s).rows * row_size (rows_of_order o s) ≡ sample_count s
all_handed Bsq s = grind arith
all_handed (Bi depth) s = grind arith

-- ---- its samples

pub sample_in : (o : Order) (s : Sizes) (k : SampleKind) (offsets : List ℕ) (z y x : ℕ) → IsPlace s z y x
    → sample_at (image_in o s k offsets) z y x ≡ sample_of k (get_or offsets (index_handed o s z y x) 0)
sample_in Bsq s k offsets z y x place =
    let index : (z * s.rows + y) * s.columns + x ≡ index_handed Bsq s z y x = grind arith in
    sample_by_planes s offsets k z y x place ∙ ap (λ (i : ℕ). sample_of k (get_or offsets i 0)) index
sample_in (Bi depth) s k offsets z y x place =
    let index : index_by_rows s z y x ≡ index_handed (Bi depth) s z y x = grind arith in
    sample_by_rows s k offsets z y x place ∙ ap (λ (i : ℕ). sample_of k (get_or offsets i 0)) index

pub has_rows : (p : Params) (offsets : List ℕ) → HasRows p.order (image_so_far p offsets) offsets
unfolding image_of_rows image_of_planes
has_rows p offsets = by_order p.order
  where
    by_order : (o : Order) → HasRows o (image_in o p.shape p.kind offsets) offsets
    by_order Bsq z y x place = sample_in Bsq p.shape p.kind offsets z y x place
    by_order (Bi depth) z y x place = sample_in (Bi depth) p.shape p.kind offsets z y x place

-- a place is inside its row
pub in_row : (o : Order) (s : Sizes) (z y x : ℕ) → IsPlace s z y x → band_in_row o z * s.columns + x < row_size (rows_of_order o s)
in_row Bsq s z y x place = (let c = place.column in omega arith)
in_row (Bi depth) s z y x place =
    let low : suc z * s.columns ≤ s.bands * s.columns = mul-le (suc z) s.columns s.bands s.columns place.band (omega arith) in
    let next : suc z * s.columns ≡ z * s.columns + s.columns = grind arith in
    (let c = place.column in omega (arith, low, next))

-- the offsets of a row behind those of the rows before
get_behind : (before row : List ℕ) (i : ℕ) → get_or (before ++ row) (length before + i) 0 ≡ get_or row i 0
get_behind [] row i = ap (λ (n : ℕ). get_or row n 0) (omega arith)
get_behind (x ∷ before) row i =
    let next : suc (length before) + i ≡ suc (length before + i) = omega arith in
    ap (λ (n : ℕ). get_or (x ∷ (before ++ row)) n 0) next ∙ get_behind before row i

-- one row more
module _ (o : Order) (s : Sizes) (k : SampleKind) (offsets samples : List ℕ) (n : ℕ) (size : length offsets ≡ n * row_size (rows_of_order o s)) where
  pub earlier_same : (z y x : ℕ) → IsPlace s z y x → row_of_place o s z y < n
      → sample_at (image_in o s k offsets) z y x ≡ sample_at (image_in o s k (offsets ++ samples)) z y x
  earlier_same z y x place lt =
      let r : ℕ = row_of_place o s z y in
      let low : suc r * row_size (rows_of_order o s) ≤ n * row_size (rows_of_order o s) = mul-le (suc r) (row_size (rows_of_order o s)) n (row_size (rows_of_order o s)) lt (omega arith) in
      let next : suc r * row_size (rows_of_order o s) ≡ r * row_size (rows_of_order o s) + row_size (rows_of_order o s) = grind arith in
      let inside : index_handed o s z y x < length offsets = omega (arith, size, low, next, in_row o s z y x place) in
      sample_in o s k offsets z y x place
      ∙ ap (sample_of k) (sym (get_or_append_left offsets samples 0 (index_handed o s z y x) inside))
      ∙ sym (sample_in o s k (offsets ++ samples) z y x place)

  pub row_there : (z y x : ℕ) → IsPlace s z y x → row_of_place o s z y ≡ n
      → sample_at (image_in o s k (offsets ++ samples)) z y x ≡ sample_of k (get_or samples (band_in_row o z * s.columns + x) 0)
  row_there z y x place here =
      let start : row_of_place o s z y * row_size (rows_of_order o s) ≡ length offsets = ap (λ (r : ℕ). r * row_size (rows_of_order o s)) here ∙ sym size in
      let index : index_handed o s z y x ≡ length offsets + (band_in_row o z * s.columns + x) = ap (λ (m : ℕ). m + (band_in_row o z * s.columns + x)) start in
      sample_in o s k (offsets ++ samples) z y x place
      ∙ ap (λ (i : ℕ). sample_of k (get_or (offsets ++ samples) i 0)) index
      ∙ ap (sample_of k) (get_behind offsets samples (band_in_row o z * s.columns + x))

-- ---- the file

lines_have : (depth : ℕ) (c : Image) (offsets : List ℕ) → HasRows (Bi depth) c offsets → HasLines c offsets
lines_have depth c offsets rows z y x place =
    let index : index_handed (Bi depth) c.shape z y x ≡ index_by_rows c.shape z y x = grind arith in
    rows z y x place ∙ ap (λ (i : ℕ). sample_of c.kind (get_or offsets i 0)) index

planes_have : (c : Image) (offsets : List ℕ) → HasRows Bsq c offsets → HasPlanes c offsets
planes_have c offsets rows z y x place =
    let index : index_handed Bsq c.shape z y x ≡ (z * c.shape.rows + y) * c.shape.columns + x = grind arith in
    rows z y x place ∙ ap (λ (i : ℕ). sample_of c.kind (get_or offsets i 0)) index

-- the file of all lines, or of all planes, is that of all rows
pub lines_file : (p : Params) (e : RowEncoderState) (l : LineEncoderState) (bytes : List ℕ) → e.walk ≡ walk.Lines l → IsUnderWay p e
    → e.y ≡ (rows_of_order p.order p.shape).rows
    → ((q : Params) → AreLinesUnderWay q l → l.y ≡ q.shape.rows → IsFileOfLines q l.offsets bytes) → IsFileOfRows p e.offsets bytes
lines_file p e l bytes is under last whole c cube shape kind rows =
    let walking : AreLinesUnderWay p l = subst (IsWalking p) is under.walking in
    let all : (rows_of_order p.order p.shape).rows ≡ p.shape.rows = ap (λ (o : Order). (rows_of_order o p.shape).rows) walking.order in
    let y_is : e.y ≡ l.y = under.rows_are ∙ ap rows_walked is in
    let offsets_are : e.offsets ≡ l.offsets = under.offsets_are ∙ ap rows_handed is in
    let there : HasRows (Bi walking.depth) c l.offsets =
    subst (λ (o : Order). HasRows o c l.offsets) walking.order (subst (HasRows p.order c) offsets_are rows) in
    whole p walking (sym y_is ∙ last ∙ all) c cube shape kind (lines_have walking.depth c l.offsets there)

pub planes_file : (p : Params) (e : RowEncoderState) (l : PlaneEncoderState) (bytes : List ℕ) → e.walk ≡ walk.Planes l → IsUnderWay p e
    → e.y ≡ (rows_of_order p.order p.shape).rows
    → ((q : Params) → ArePlanesUnderWay q l → l.y ≡ q.shape.bands * q.shape.rows → IsFileOfPlanes q l.offsets bytes) → IsFileOfRows p e.offsets bytes
planes_file p e l bytes is under last whole c cube shape kind rows =
    let walking : ArePlanesUnderWay p l = subst (IsWalking p) is under.walking in
    let all : (rows_of_order p.order p.shape).rows ≡ p.shape.bands * p.shape.rows = ap (λ (o : Order). (rows_of_order o p.shape).rows) walking.order in
    let y_is : e.y ≡ l.y = under.rows_are ∙ ap rows_walked is in
    let offsets_are : e.offsets ≡ l.offsets = under.offsets_are ∙ ap rows_handed is in
    let there : HasRows Bsq c l.offsets =
    subst (λ (o : Order). HasRows o c l.offsets) walking.order (subst (HasRows p.order c) offsets_are rows) in
    whole p walking (sym y_is ∙ last ∙ all) c cube shape kind (planes_have c l.offsets there)
