-- The order in which the samples are encoded (CCSDS 123.0-B-1, "Encoding order").
use Rattle.std.specs.Prelude.{◌≡◌, ◌⊎◌, Bool, true, eqb, ℕ, zero, suc, ◌+◌, ◌-◌, ◌*◌, ◌/◌, ◌<◌, min, List, [], ◌∷◌, map}
use Rattle.std.specs.List.{flat_map}
use Rattle.cube_core.specs.declared.order.Order.{Order}
use Rattle.cube_core.specs.declared.order.Order.TheVariants.{Bsq, Bi}
use Rattle.cube_core.specs.declared.order.Place.{Place}
use Rattle.cube_core.specs.Shape.{Sizes, InRange}
use Rattle.cube_core.specs.Image.{IsPlace}

-- band sequential, or interleaved with a depth M from 1 to the number of bands
abbrev pub IsOrder : Sizes → Order → Type 0
IsOrder s Bsq = Unit {0}
IsOrder s (Bi depth) = InRange 1 s.bands depth

-- whether the places of a row follow one another: in band sequential order, and interleaved with depth 1
abbrev pub goes_along_rows : Order → Bool
goes_along_rows Bsq = true
goes_along_rows (Bi depth) = eqb depth 1

-- the n numbers a, a + 1, ..
abbrev pub from : ℕ → ℕ → List ℕ
from a zero = []
from a (suc n) = a ∷ from (suc a) n

abbrev pub upto : ℕ → List ℕ
upto n = from 0 n

-- the number of bands in the group that begins at band `first`
abbrev pub group_size : Sizes → ℕ → ℕ → ℕ
group_size s depth first = min depth (s.bands - first)

-- the bands of the i-th group; the last group may have fewer than `depth`
abbrev pub group : Sizes → ℕ → ℕ → List ℕ
group s depth i = from (i * depth) (group_size s depth (i * depth))

-- the number of groups
abbrev pub group_count : Sizes → ℕ → ℕ
group_count s depth = (s.bands + depth - 1) / depth

-- all places in encoding order: for each band, row and column; or for each row, group of bands, column and band
unfoldable pub places : Sizes → Order → List Place
places s Bsq =
    flat_map (λ z. flat_map (λ y. map (λ x. record { z = z; y = y; x = x }) (upto s.columns)) (upto s.rows)) (upto s.bands)
places s (Bi depth) =
    flat_map (λ y. flat_map (λ i. flat_map (λ x. map (λ z. record { z = z; y = y; x = x }) (group s depth i)) (upto s.columns))
    (upto (group_count s depth))) (upto s.rows)

-- the key by which places are ordered, most significant number first
abbrev pub place_key : Order → Place → List ℕ
place_key Bsq p = p.z ∷ p.y ∷ p.x ∷ []
place_key (Bi depth) p = p.y ∷ p.z / depth ∷ p.x ∷ p.z ∷ []

-- the lexicographic order of keys
abbrev pub IsBefore : List ℕ → List ℕ → Type 0
IsBefore [] ys = ⊥
IsBefore (x ∷ xs) [] = ⊥
IsBefore (x ∷ xs) (y ∷ ys) = (x < y) ⊎ ((x ≡ y) × IsBefore xs ys)

-- the index of a place in encoding order, from 0
unfoldable pub place_index : Sizes → Order → Place → ℕ
place_index s Bsq p = (p.z * s.rows + p.y) * s.columns + p.x
place_index s (Bi depth) p =
    let first = p.z / depth * depth in
    (p.y * s.bands + first) * s.columns + (p.x * group_size s depth first + (p.z - first))

-- a place of an image of these sizes
abbrev pub IsPlaceOf : Sizes → Place → Type 0
IsPlaceOf s p = IsPlace s p.z p.y p.x
