-- An image of which the first samples are known, band after band: what stands at its places, and the residuals of its first planes.
use Rattle.std.proofs.Common.{◌≡◌, ◌+◌, ◌*◌, ◌^◌, ◌<◌, ◌≤◌, ℕ, suc, List, [], ◌∷◌, ◌++◌, length, take, drop, get_or, map, refl, sym, ap, ◌∙◌, subst, arith, inl, inr}
use Rattle.std.specs.List.{AllByRecursion}
use Rattle.std.proofs.lemmas.List.{get_or-map, get_or_append_left, get_or_past, get_or-take, get_or-drop, length-map}
use Rattle.std.proofs.lemmas.Nat.{mul-le, pow_pos}
use Rattle.std.proofs.lemmas.Bool.{cases_lt}
use Rattle.std.proofs.Math.Arith.{digits_lt}
use Rattle.cube_core.specs.Shape.{Sizes, AreSizes, sample_count}
use Rattle.cube_core.specs.Kind.{SampleKind, IsKind, sample_of}
use Rattle.cube_core.specs.Image.{Image, IsCube, IsPlace, index_in, sample_at}
use Rattle.cube_core.specs.Order.{upto}
use Rattle.cube_core.proofs.Bounds.{index_below}
use Rattle.cube_core.proofs.Images.{same_cube}
use Rattle.cube_core.proofs.Lists.{length-from, get_or-from, each_below}
use Rattle.cube_core.proofs.Offsets.{sample_at_offset}
use Rattle.cube_core.proofs.RawBytes.{is_cube}
use Rattle.header_bits.specs.declared.params.Params.{Params}
use Rattle.header_bits.specs.Lawful.{IsLawful}
use Rattle.file_encoding.specs.Own.{rows_of}
use Rattle.file_encoding.specs.ByPlanes.{ArePlanesInRange, HasPlanes, HasPlanesOf, image_of_planes, plane_size, planes_of}
use Rattle.file_encoding.proofs.NearBands.{HaveSamePlanes, rows_near}
use Rattle.file_encoding.proofs.Sending.{same_lists}

-- ---- what stands at its places

-- a list may be read past its end: there it has zeros
read_below : (limit : ℕ) (list : List ℕ) (i : ℕ) → 0 < limit → AllByRecursion (λ n. n < limit) list → get_or list i 0 < limit
read_below limit list i some all = elim (cases_lt i (length list)) [
  | inl lt ↦ each_below limit list all i lt
  | inr past ↦ rw (get_or_past list i 0 past) some
]

module _ (s : Sizes) (offsets : List ℕ) where
  listed : List ℕ
  listed = map (λ i. get_or offsets i 0) (upto (sample_count s))

  length-listed : length listed ≡ sample_count s
  unfolding listed
  length-listed = length-map (upto (sample_count s)) (λ i. get_or offsets i 0) ∙ length-from 0 (sample_count s)

  listed_at : (i : ℕ) → i < sample_count s → get_or listed i 0 ≡ get_or offsets i 0
  unfolding listed
  listed_at i lt =
      get_or-map (λ i. get_or offsets i 0) (upto (sample_count s)) i 0 0 (rw (length-from 0 (sample_count s)) lt)
      ∙ ap (λ j. get_or offsets j 0) (get_or-from 0 (sample_count s) i 0 lt ∙ omega arith)

  pub planes_are_cube : (k : SampleKind) → AllByRecursion (λ v. v < 2 ^ k.bits) offsets → AreSizes s → IsKind k → IsCube (image_of_planes s k offsets)
  unfolding image_of_planes listed
  planes_are_cube k range sizes kind = is_cube s k listed sizes kind (record {
    whole = length-listed;
    range = λ i lt. rw (listed_at i (omega (arith, lt, length-listed))) (read_below (2 ^ k.bits) offsets i (pow_pos k.bits) range);
  })

  pub sample_by_planes : (k : SampleKind) (z y x : ℕ) → IsPlace s z y x
      → sample_at (image_of_planes s k offsets) z y x ≡ sample_of k (get_or offsets (index_in s.columns s.rows z y x) 0)
  unfolding image_of_planes listed
  sample_by_planes k z y x place =
      let i : ℕ = index_in s.columns s.rows z y x in
      let within : i < sample_count s = index_below s.columns s.rows s.bands z y x place.band place.row place.column in
      sample_at_offset (image_of_planes s k offsets) s k listed z y x i refl refl (rw length-listed within) ∙ ap (sample_of k) (listed_at i within)

-- a cube that has all planes is the image of these
pub whole_planes : (p : Params) (c : Image) (offsets : List ℕ) → IsLawful p → IsCube c → c.shape ≡ p.shape → c.kind ≡ p.kind → HasPlanes c offsets
    → AllByRecursion (λ v. v < 2 ^ p.kind.bits) offsets → image_of_planes p.shape p.kind offsets ≡ c
unfolding image_of_planes
whole_planes p c offsets lawful cube shape kind planes range =
    let image : Image = image_of_planes p.shape p.kind offsets in
    same_cube image c (sym shape) (sym kind) (planes_are_cube p.shape offsets p.kind range lawful.sizes lawful.kind) cube
    (λ q place.
    sample_by_planes p.shape offsets p.kind q.z q.y q.x place
    ∙ sym (subst (λ (s : Sizes). sample_at c q.z q.y q.x ≡ sample_of p.kind (get_or offsets (index_in s.columns s.rows q.z q.y q.x) 0)) shape
    (subst (λ (k : SampleKind). sample_at c q.z q.y q.x ≡ sample_of k (get_or offsets (index_in c.shape.columns c.shape.rows q.z q.y q.x) 0)) kind
    (planes q.z q.y q.x (rw shape place)))))

-- ---- the images of some samples, and of more

-- a place in one of the first n bands is among the first n planes
pub plane_end : (s : Sizes) (n z y x : ℕ) → IsPlace s z y x → z < n → index_in s.columns s.rows z y x < n * plane_size s
plane_end s n z y x place lt =
    let inside : y * s.columns + x < s.rows * s.columns = digits_lt place.row place.column in
    let up : suc z * plane_size s ≤ n * plane_size s = mul-le (suc z) (plane_size s) n (plane_size s) lt (omega arith) in
    let next : suc z * plane_size s ≡ z * plane_size s + plane_size s = grind arith in
    let there : index_in s.columns s.rows z y x ≡ z * plane_size s + (y * s.columns + x) = grind arith in
    omega (arith, inside, up, next, there)

planes_more : (p : Params) (offsets more : List ℕ) (n z : ℕ) → n * plane_size p.shape ≤ length offsets → z < n
    → HaveSamePlanes p (image_of_planes p.shape p.kind offsets) (image_of_planes p.shape p.kind (offsets ++ more)) z
unfolding image_of_planes
planes_more p offsets more n z size lt = record {
  alike = record { shape = refl; kind = refl };
  same = λ z' y x place low near.
      let s : Sizes = p.shape in
      let within : index_in s.columns s.rows z' y x < length offsets = omega (arith, size, plane_end s n z' y x place (omega (arith, low, lt))) in
      sample_by_planes s offsets p.kind z' y x place
      ∙ sym (ap (sample_of p.kind) (get_or_append_left offsets more 0 (index_in s.columns s.rows z' y x) within))
      ∙ sym (sample_by_planes s (offsets ++ more) p.kind z' y x place);
}

-- the residuals of planes that are whole stay the same
pub planes_there : (p : Params) (offsets more : List ℕ) (n : ℕ) → IsLawful p → n ≤ p.shape.bands → n * plane_size p.shape ≤ length offsets
    → planes_of p (image_of_planes p.shape p.kind offsets) n ≡ planes_of p (image_of_planes p.shape p.kind (offsets ++ more)) n
unfolding image_of_planes
planes_there p offsets more n lawful bands size =
    same_lists (λ z. rows_of p (image_of_planes p.shape p.kind offsets) (z ∷ [])) (λ z. rows_of p (image_of_planes p.shape p.kind (offsets ++ more)) (z ∷ [])) 0 0 n
    (λ i lt. rows_near p (image_of_planes p.shape p.kind offsets) (image_of_planes p.shape p.kind (offsets ++ more)) (0 + i) lawful refl
    (omega (arith, bands, lt)) (planes_more p offsets more n (0 + i) size (omega (arith, lt))))

-- ---- some of the planes

-- they are those from band `base` on where their samples follow one another
pub planes_listed : (s : Sizes) (offsets planes : List ℕ) (base many : ℕ) → take (many * plane_size s) planes ≡ take (many * plane_size s) (drop (base * plane_size s) offsets)
    → HasPlanesOf s offsets base planes many
planes_listed s offsets planes base many is k y x lt row column =
    let i : ℕ = (k * s.rows + y) * s.columns + x in
    let inside : y * s.columns + x < s.rows * s.columns = digits_lt row column in
    let up : suc k * plane_size s ≤ many * plane_size s = mul-le (suc k) (plane_size s) many (plane_size s) lt (omega arith) in
    let next : suc k * plane_size s ≡ k * plane_size s + plane_size s = grind arith in
    let there : i ≡ k * plane_size s + (y * s.columns + x) = grind arith in
    let within : i < many * plane_size s = omega (arith, inside, up, next, there) in
    let all : index_in s.columns s.rows (base + k) y x ≡ base * plane_size s + i = grind arith in
    sym (get_or-take (many * plane_size s) planes i 0 within) ∙ ap (λ ns. get_or ns i 0) is
    ∙ get_or-take (many * plane_size s) (drop (base * plane_size s) offsets) i 0 within
    ∙ get_or-drop (base * plane_size s) offsets i 0 ∙ ap (λ j. get_or offsets j 0) (sym all)

-- they stay so when more is handed over
pub planes_still : (s : Sizes) (offsets more planes : List ℕ) (base many : ℕ) → base + many ≤ s.bands → (base + many) * plane_size s ≤ length offsets
    → HasPlanesOf s offsets base planes many → HasPlanesOf s (offsets ++ more) base planes many
planes_still s offsets more planes base many bands size has k y x lt row column =
    let place : IsPlace s (base + k) y x = record { band = omega (arith, bands, lt); row = row; column = column } in
    let within : index_in s.columns s.rows (base + k) y x < length offsets = omega (arith, size, plane_end s (base + many) (base + k) y x place (omega (arith, lt))) in
    has k y x lt row column ∙ sym (get_or_append_left offsets more 0 (index_in s.columns s.rows (base + k) y x) within)

pub planes_in_range : (p : Params) (offsets planes : List ℕ) (base many : ℕ) → AllByRecursion (λ v. v < 2 ^ p.kind.bits) offsets → HasPlanesOf p.shape offsets base planes many
    → ArePlanesInRange p planes many
planes_in_range p offsets planes base many range has y row k x lt column =
    rw (has k y x lt row column) (read_below (2 ^ p.kind.bits) offsets (index_in p.shape.columns p.shape.rows (base + k) y x) (pow_pos p.kind.bits) range)
