-- Where each place stands in the encoding order.
use Rattle.std.proofs.Common.{◌≡◌, ◌+◌, ◌*◌, ◌/◌, ◌<◌, ◌≤◌, ◌-◌, ℕ, suc, zero, min, List, length, map, get_or, refl, ap, ◌∙◌, arith, inl, inr, ◌%◌, Some}
use Rattle.std.proofs.lemmas.List.{get_or-map, length-map, length-append}
use Rattle.std.proofs.lemmas.Nat.{mul-add-lt, mul-le, div-mul-add, div_below, le-div, mod_below, div-add-mod'}
use Rattle.std.proofs.Math.Nat.{div-mul-le_self, lt-div-mul-add, lt_of_mul-lt-mul_left}
use Rattle.std.proofs.lemmas.Bool.{cases_lt}
use Rattle.std.proofs.Math.Nat.{sub-zero}
use Rattle.std.specs.List.{flat_map}
use Rattle.cube_core.proofs.Words.{Order, Bsq, Bi, Place, Sizes, sample_count, from, upto, group, group_size, group_count, places, place_index}
use Rattle.cube_core.proofs.Words.{IsOrder, IsPlaceOf}
use Rattle.std.proofs.lemmas.Option.{slice_get-get_or}
use Rattle.std.specs.List.{slice_get}
use Rattle.cube_core.proofs.Bounds.{index_below}
use Rattle.cube_core.proofs.Lists.{length-from, get_or-from, length-pieces, get_or-pieces}

-- ---- band sequential

abbrev row_of : Sizes → ℕ → ℕ → List Place
row_of s z y = map (λ x. record { z = z; y = y; x = x }) (upto s.columns)

length-row_of : (s : Sizes) (z y : ℕ) → length (row_of s z y) ≡ s.columns
length-row_of s z y = length-map (upto s.columns) _ ∙ length-from 0 s.columns

get_or-row_of : (s : Sizes) (z y x : ℕ) (d : Place) → x < s.columns → get_or (row_of s z y) x d ≡ record { z = z; y = y; x = x }
get_or-row_of s z y x d lt =
    get_or-map (λ (k : ℕ). let p : Place = record { z = z; y = y; x = k } in p) (upto s.columns) x 0 d (rw (length-from 0 s.columns) lt)
    ∙ ap (λ (k : ℕ). let p : Place = record { z = z; y = y; x = k } in p) (get_or-from 0 s.columns x 0 lt ∙ omega arith)

abbrev band_of : Sizes → ℕ → List Place
band_of s z = flat_map (row_of s z) (upto s.rows)

length-band_of : (s : Sizes) (z : ℕ) → length (band_of s z) ≡ s.rows * s.columns
length-band_of s z = length-pieces (row_of s z) 0 s.rows s.columns (λ y low high. length-row_of s z y)

get_or-band_of : (s : Sizes) (z y x : ℕ) (d : Place) → y < s.rows → x < s.columns → get_or (band_of s z) (y * s.columns + x) d ≡ record { z = z; y = y; x = x }
get_or-band_of s z y x d a b =
    let e : 0 + y ≡ y = omega arith in
    get_or-pieces (row_of s z) 0 s.rows s.columns y x d (λ k low high. length-row_of s z k) a (rw (e, length-row_of s z y) b) ∙ rw e (get_or-row_of s z y x d b)

place_at_bsq : (s : Sizes) (z y x : ℕ) (d : Place) → z < s.bands → y < s.rows → x < s.columns
    → get_or (flat_map (band_of s) (upto s.bands)) ((z * s.rows + y) * s.columns + x) d ≡ record { z = z; y = y; x = x }
place_at_bsq s z y x d a b c =
    let e : 0 + z ≡ z = omega arith in
    let i : (z * s.rows + y) * s.columns + x ≡ z * (s.rows * s.columns) + (y * s.columns + x) = omega arith in
    let in_band : y * s.columns + x < s.columns * s.rows = mul-add-lt y s.columns x s.rows b c in
    rw i (get_or-pieces (band_of s) 0 s.bands (s.rows * s.columns) z (y * s.columns + x) d (λ k low high. length-band_of s k) a
    (rw (e, length-band_of s z) (omega (arith, in_band))) ∙ rw e (get_or-band_of s z y x d b c))

-- ---- band interleaved

abbrev stack_of : Sizes → ℕ → ℕ → ℕ → ℕ → List Place
stack_of s depth y i x = map (λ z. record { z = z; y = y; x = x }) (group s depth i)

abbrev size_of : Sizes → ℕ → ℕ → ℕ
size_of s depth i = group_size s depth (i * depth)

length-stack_of : (s : Sizes) (depth y i x : ℕ) → length (stack_of s depth y i x) ≡ size_of s depth i
length-stack_of s depth y i x = length-map (group s depth i) _ ∙ length-from (i * depth) (size_of s depth i)

get_or-stack_of : (s : Sizes) (depth y i x k : ℕ) (d : Place) → k < size_of s depth i
    → get_or (stack_of s depth y i x) k d ≡ record { z = i * depth + k; y = y; x = x }
get_or-stack_of s depth y i x k d lt =
    get_or-map (λ (z : ℕ). let p : Place = record { z = z; y = y; x = x } in p) (group s depth i) k 0 d (rw (length-from (i * depth) (size_of s depth i)) lt)
    ∙ ap (λ (z : ℕ). let p : Place = record { z = z; y = y; x = x } in p) (get_or-from (i * depth) (size_of s depth i) k 0 lt)

abbrev group_row : Sizes → ℕ → ℕ → ℕ → List Place
group_row s depth y i = flat_map (stack_of s depth y i) (upto s.columns)

length-group_row : (s : Sizes) (depth y i : ℕ) → length (group_row s depth y i) ≡ s.columns * size_of s depth i
length-group_row s depth y i = length-pieces (stack_of s depth y i) 0 s.columns (size_of s depth i) (λ x low high. length-stack_of s depth y i x)

get_or-group_row : (s : Sizes) (depth y i x k : ℕ) (d : Place) → x < s.columns → k < size_of s depth i
    → get_or (group_row s depth y i) (x * size_of s depth i + k) d ≡ record { z = i * depth + k; y = y; x = x }
get_or-group_row s depth y i x k d a b =
    let e : 0 + x ≡ x = omega arith in
    get_or-pieces (stack_of s depth y i) 0 s.columns (size_of s depth i) x k d (λ j low high. length-stack_of s depth y i j) a
    (rw (e, length-stack_of s depth y i x) b) ∙ rw e (get_or-stack_of s depth y i x k d b)

abbrev line_of : Sizes → ℕ → ℕ → List Place
line_of s depth y = flat_map (group_row s depth y) (upto (group_count s depth))

-- the groups from the a-th on, n of them
length-groups : (s : Sizes) (depth y a n : ℕ)
    → length (flat_map (group_row s depth y) (from a n)) ≡ s.columns * (min ((a + n) * depth) s.bands - min (a * depth) s.bands)
length-groups s depth y a zero =
    let e : a + 0 ≡ a = omega arith in
    let none : min (a * depth) s.bands - min (a * depth) s.bands ≡ 0 = omega arith in
    rw (e, none) (omega arith)
length-groups s depth y a (suc n) =
    let next : (suc a + n) * depth ≡ (a + suc n) * depth = omega arith in
    let step : suc a * depth ≡ a * depth + depth = omega arith in
    let grows : suc a * depth ≤ (a + suc n) * depth = mul-le (suc a) depth (a + suc n) depth (omega arith) (omega arith) in
    let sizes : size_of s depth a + (min ((a + suc n) * depth) s.bands - min (suc a * depth) s.bands)
    ≡ min ((a + suc n) * depth) s.bands - min (a * depth) s.bands = omega arith in
    length-append (group_row s depth y a) (flat_map (group_row s depth y) (from (suc a) n))
    ∙ rw (length-group_row s depth y a, length-groups s depth y (suc a) n, next, ← sizes) (omega arith)

enough_groups : (bands depth : ℕ) → 1 ≤ depth → bands ≤ (bands + depth - 1) / depth * depth
enough_groups bands depth h = let p : bands + depth - 1 < (bands + depth - 1) / depth * depth + depth = lt-div-mul-add (omega arith) in omega arith

group_below : (bands depth i : ℕ) → 1 ≤ depth → i * depth < bands → i < (bands + depth - 1) / depth
group_below bands depth i h a = le-div (suc i) (bands + depth - 1) depth h (omega arith)

length-line_of : (s : Sizes) (depth y : ℕ) → 1 ≤ depth → length (line_of s depth y) ≡ s.bands * s.columns
length-line_of s depth y h =
    let all : min ((0 + group_count s depth) * depth) s.bands ≡ s.bands = omega (arith, enough_groups s.bands depth h) in
    let none : min (0 * depth) s.bands ≡ 0 = omega arith in
    length-groups s depth y 0 (group_count s depth) ∙ rw (all, none, sub-zero) (omega arith)

-- the groups before the i-th are whole
whole_group : (s : Sizes) (depth i k : ℕ) → i * depth < s.bands → k < i → size_of s depth k ≡ depth
whole_group s depth i k h lt = let p : suc k * depth ≤ i * depth = mul-le (suc k) depth i depth (omega arith) (omega arith) in omega arith

get_or-line_of : (s : Sizes) (depth y i x k : ℕ) (d : Place) → 1 ≤ depth → i * depth < s.bands → x < s.columns → k < size_of s depth i
    → get_or (line_of s depth y) (i * (s.columns * depth) + (x * size_of s depth i + k)) d ≡ record { z = i * depth + k; y = y; x = x }
get_or-line_of s depth y i x k d h a b c =
    let e : 0 + i ≡ i = omega arith in
    let many : i < group_count s depth = group_below s.bands depth i h a in
    let inside : x * size_of s depth i + k < size_of s depth i * s.columns = mul-add-lt x (size_of s depth i) k s.columns b c in
    get_or-pieces (group_row s depth y) 0 (group_count s depth) (s.columns * depth) i (x * size_of s depth i + k) d
    (λ j low high. length-group_row s depth y j ∙ ap (λ (m : ℕ). s.columns * m) (whole_group s depth i j a (omega arith))) many
    (rw (e, length-group_row s depth y i) (omega (arith, inside)))
    ∙ rw e (get_or-group_row s depth y i x k d b c)

pub place_at_bi : (s : Sizes) (depth y i x k : ℕ) (d : Place) → 1 ≤ depth → y < s.rows → i * depth < s.bands → x < s.columns → k < size_of s depth i
    → get_or (flat_map (line_of s depth) (upto s.rows)) ((y * s.bands + i * depth) * s.columns + (x * size_of s depth i + k)) d
    ≡ record { z = i * depth + k; y = y; x = x }
place_at_bi s depth y i x k d h r a b c =
    let e : 0 + y ≡ y = omega arith in
    let place : (y * s.bands + i * depth) * s.columns + (x * size_of s depth i + k)
    ≡ y * (s.bands * s.columns) + (i * (s.columns * depth) + (x * size_of s depth i + k)) = omega arith in
    let inside : x * size_of s depth i + k < size_of s depth i * s.columns = mul-add-lt x (size_of s depth i) k s.columns b c in
    let fits : (i * depth + size_of s depth i) * s.columns ≤ s.bands * s.columns =
    mul-le (i * depth + size_of s depth i) s.columns s.bands s.columns (omega arith) (omega arith) in
    rw place (get_or-pieces (line_of s depth) 0 s.rows (s.bands * s.columns) y (i * (s.columns * depth) + (x * size_of s depth i + k)) d
    (λ j low high. length-line_of s depth j h) r (rw (e, length-line_of s depth y h) (omega (arith, inside, fits)))
    ∙ rw e (get_or-line_of s depth y i x k d h a b c))

-- ---- both

-- the item of the encoding order that stands at a place's index is that place
pub place_at_index : (s : Sizes) (o : Order) (p d : Place) → IsOrder s o → IsPlaceOf s p → get_or (places s o) (place_index s o p) d ≡ p
unfolding places place_index
place_at_index s Bsq p d o h = place_at_bsq s p.z p.y p.x d h.band h.row h.column
place_at_index s (Bi depth) p d o h =
    let low : p.z / depth * depth ≤ p.z = div-mul-le_self p.z depth in
    let high : p.z < p.z / depth * depth + depth = lt-div-mul-add o.0 in
    let z : p.z / depth * depth + (p.z - p.z / depth * depth) ≡ p.z = omega arith in
    place_at_bi s depth p.y (p.z / depth) p.x (p.z - p.z / depth * depth) d o.0 h.row (omega (arith, h.band)) h.column (omega (arith, h.band))
    ∙ ap (λ (n : ℕ). let q : Place = record { z = n; y = p.y; x = p.x } in q) z

pub length-places : (s : Sizes) (o : Order) → IsOrder s o → length (places s o) ≡ sample_count s
unfolding places
length-places s Bsq o = length-pieces (band_of s) 0 s.bands (s.rows * s.columns) (λ z low high. length-band_of s z) ∙ omega arith
length-places s (Bi depth) o = length-pieces (line_of s depth) 0 s.rows (s.bands * s.columns) (λ y low high. length-line_of s depth y o.0) ∙ omega arith

-- ---- the place of an index

-- a place of the sizes that stands at index i
pub record StandsAt (s : Sizes) (o : Order) (p : Place) (i : ℕ) : Type 0 where
  pub place : IsPlaceOf s p
  pub index : place_index s o p ≡ i

pub sequential_place_is : (s : Sizes) (i : ℕ) → 1 ≤ s.columns → 1 ≤ s.rows → i < sample_count s
    → StandsAt s Bsq (record { z = i / s.columns / s.rows; y = i / s.columns % s.rows; x = i % s.columns }) i
unfolding place_index
sequential_place_is s i a b lt =
    let row : i / s.columns < s.bands * s.rows = div_below i s.columns (s.bands * s.rows) a lt in
    let again : i / s.columns / s.rows * s.rows + i / s.columns % s.rows ≡ i / s.columns = div-add-mod' (i / s.columns) s.rows in
    record {
      place = record { band = div_below (i / s.columns) s.rows s.bands b row; row = mod_below (i / s.columns) s.rows b; column = mod_below i s.columns a };
      index = rw again (div-add-mod' i s.columns);
    }

-- what is left of a line after its whole groups fits the group that it is in
in_group : (bands columns depth r first q size : ℕ) → r < bands * columns → q < depth * columns → first * columns + q ≡ r → first < bands
    → size ≡ min depth (bands - first) → q < columns * size
in_group bands columns depth r first q size a b e f d = elim (cases_lt (bands - first) depth) [ inl h ↦ short h | inr h ↦ whole h ]
  where
    short : bands - first < depth → q < columns * size
    short h =
        let m : size ≡ bands - first = omega arith in
        let all : bands * columns ≡ (first + (bands - first)) * columns = ap (λ (n : ℕ). n * columns) (omega arith) in
        rw m (omega (arith, all))

    whole : depth ≤ bands - first → q < columns * size
    whole h = let m : size ≡ depth = omega arith in rw m (omega arith)

pub interleaved_place_is : (s : Sizes) (depth i r g q size : ℕ) → 1 ≤ s.bands → 1 ≤ s.columns → 1 ≤ depth → i < sample_count s → r ≡ i % (s.bands * s.columns)
    → g ≡ r / (depth * s.columns) → q ≡ r % (depth * s.columns)
    → size ≡ min depth (s.bands - g * depth)
    → StandsAt s (Bi depth) (record { z = g * depth + q % size; y = i / (s.bands * s.columns); x = q / size }) i × (g * depth < s.bands) × (0 < size)
unfolding place_index
interleaved_place_is s depth i r g q size some_bands some_columns h lt r_is g_is q_is size_is =
    let line : 0 < s.bands * s.columns = mul-le 1 1 s.bands s.columns some_bands some_columns in
    let span : 0 < depth * s.columns = mul-le 1 1 depth s.columns h some_columns in
    let r_below : r < s.bands * s.columns = rw r_is (mod_below i (s.bands * s.columns) line) in
    let q_below : q < depth * s.columns = rw q_is (mod_below r (depth * s.columns) span) in
    let again : g * (depth * s.columns) + q ≡ r = rw (g_is, q_is) (div-add-mod' r (depth * s.columns)) in
    let first : g * depth < s.bands = lt_of_mul-lt-mul_left s.columns (omega arith) in
    let positive : 0 < size = omega arith in
    let fits : q < s.columns * size = in_group s.bands s.columns depth r (g * depth) q size r_below q_below (omega arith) first size_is in
    let k : q % size < size = mod_below q size positive in
    let x : q / size < s.columns = div_below q size s.columns positive fits in
    let y : i / (s.bands * s.columns) < s.rows = div_below i (s.bands * s.columns) s.rows line (omega arith) in
    let group : (g * depth + q % size) / depth ≡ g = div-mul-add g depth (q % size) (omega arith) in
    let inner : q / size * size + q % size ≡ q = div-add-mod' q size in
    let outer : i / (s.bands * s.columns) * (s.bands * s.columns) + r ≡ i = rw r_is (div-add-mod' i (s.bands * s.columns)) in
    let later : g * depth + q % size - g * depth ≡ q % size = omega arith in
    (record { place = record { band = omega arith; row = y; column = x }; index = rw (group, ← size_is, later, inner) (omega arith) }, first, positive)

-- the same of numbers that are these sizes
pub interleaved_found : (s : Sizes) (depth i b c m size : ℕ) → 1 ≤ s.bands → 1 ≤ s.columns → 1 ≤ depth → i < sample_count s → b ≡ s.bands
    → c ≡ s.columns → m ≡ depth
    → size ≡ min m (b - i % (b * c) / (m * c) * m)
    → StandsAt s (Bi depth) (record { z = i % (b * c) / (m * c) * m + i % (b * c) % (m * c) % size; y = i / (b * c); x = i % (b * c) % (m * c) / size }) i
    × (i % (b * c) / (m * c) * m < b) × (0 < size)
interleaved_found s depth i b c m size some_bands some_columns h lt eb ec em e =
    rw (eb, ec, em) (interleaved_place_is s depth i (i % (s.bands * s.columns)) (i % (s.bands * s.columns) / (depth * s.columns))
    (i % (s.bands * s.columns) % (depth * s.columns)) size some_bands some_columns h lt refl refl refl (rw (eb, ec, em) at e))

pub item_from_index : (s : Sizes) (o : Order) (p : Place) (i : ℕ) → IsOrder s o → IsPlaceOf s p → place_index s o p ≡ i → i < sample_count s
    → slice_get (places s o) i ≡ Some p
item_from_index s o p i lawful place e lt =
    slice_get-get_or (places s o) i p (rw (length-places s o lawful) lt) ∙ ap (λ (q : Place). Some q) (rw e at (place_at_index s o p p lawful place))

-- a place's index is below the number of samples
pub place_index_below : (s : Sizes) (o : Order) (p : Place) → IsOrder s o → IsPlaceOf s p → place_index s o p < sample_count s
unfolding place_index
place_index_below s Bsq p lawful h = index_below s.columns s.rows s.bands p.z p.y p.x h.band h.row h.column
place_index_below s (Bi depth) p lawful h =
    let low : p.z / depth * depth ≤ p.z = div-mul-le_self p.z depth in
    let high : p.z < p.z / depth * depth + depth = lt-div-mul-add lawful.0 in
    let first : ℕ = p.z / depth * depth in
    let size : ℕ = min depth (s.bands - first) in
    let inside : p.x * size + (p.z - first) < size * s.columns = mul-add-lt p.x size (p.z - first) s.columns h.column (omega (arith, h.band)) in
    let fits : (first + size) * s.columns ≤ s.bands * s.columns = mul-le (first + size) s.columns s.bands s.columns (omega (arith, h.band)) (omega arith) in
    let line : (suc p.y) * (s.bands * s.columns) ≤ s.rows * (s.bands * s.columns) =
    mul-le (suc p.y) (s.bands * s.columns) s.rows (s.bands * s.columns) h.row (omega arith) in
    omega (arith, inside, fits, line)

pub sequential_index_is : (s : Sizes) (p : Place) (z rows y columns x : ℕ) → z ≡ p.z → rows ≡ s.rows → y ≡ p.y → columns ≡ s.columns → x ≡ p.x
    → (z * rows + y) * columns + x ≡ place_index s Bsq p
unfolding place_index
sequential_index_is s p z rows y columns x a b c d e = rw (a, b, c, d, e) refl

pub interleaved_index_is : (s : Sizes) (depth : ℕ) (p : Place) (y bands first columns x size z m : ℕ) → y ≡ p.y → bands ≡ s.bands → first ≡ p.z / depth * depth
    → columns ≡ s.columns → x ≡ p.x → size ≡ min m (bands - first) → m ≡ depth → z ≡ p.z
    → (y * bands + first) * columns + (x * size + (z - first)) ≡ place_index s (Bi depth) p
unfolding place_index
interleaved_index_is s depth p y bands first columns x size z m a b c d e f g h = rw (a, f, g, b, c, d, e, h) refl
