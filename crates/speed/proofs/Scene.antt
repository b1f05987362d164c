-- A cube that is filled, and one that is read, in the order of its bands, rows and columns.
use Rattle.std.proofs.Common.{◌≡◌, ◌+◌, ◌*◌, ◌%◌, ◌^◌, ◌<◌, ◌≤◌, ℕ, ℤ, pos, ◌+ℤ◌, ◌-ℤ◌, List, [], ◌∷◌, ◌++◌, length, take, get_or, set, map, replicate, refl}
use Rattle.std.proofs.Common.{sym, ap, ◌∙◌, arith}
use Rattle.std.specs.Prelude.{unsigned_abs}
use Rattle.std.proofs.Math.Arith.{digits_lt}
use Rattle.std.proofs.Math.IntN.{+ℤ_comm, +ℤ-neg_ℤ_cancel}
use Rattle.std.proofs.lemmas.List.{length-set, length-map, length-replicate, get_or-map, take_more, take_more_set, take_all}
use Rattle.std.proofs.lemmas.List.Sums.{fold_more}
use Rattle.cube_core.specs.declared.order.Place.{Place}
use Rattle.cube_core.specs.declared.order.Order.TheVariants.{Bsq}
use Rattle.cube_core.specs.Shape.{Sizes, sample_count}
use Rattle.cube_core.specs.Kind.{SampleKind, smin, sample_of}
use Rattle.cube_core.specs.Image.{Image, IsCube, IsPlace, index_in, sample_at, put}
use Rattle.cube_core.specs.Offsets.{AreRowOffsets}
use Rattle.cube_core.specs.Order.{IsPlaceOf, place_index, places}
use Rattle.cube_core.proofs.Orders.{length-places, place_at_index}
use Rattle.cube_core.proofs.Walks.{sequential_index}
use Rattle.speed.specs.Images.{synthetic_offset, synthetic_samples, synthetic_image, offsets_of}
use Rattle.speed.specs.Numbers.{first_state, next_state, state_after, highest, mixed, checksum}
use Rattle.speed.proofs.Draws.{state_after_none, state_after_one}

inside : (s : Sizes) (z y x : ℕ) → IsPlace s z y x → index_in s.columns s.rows z y x < sample_count s
inside s z y x place = digits_lt (digits_lt place.band place.row) place.column

-- ---- a cube that is filled

length-synthetic : (s : Sizes) (k : SampleKind) → length (synthetic_samples s k) ≡ sample_count s
unfolding synthetic_samples
length-synthetic s k = length-map (places s Bsq) _ ∙ length-places s Bsq tt

sample_there : (s : Sizes) (k : SampleKind) (p : Place) (d : ℤ) → IsPlaceOf s p
    → get_or (synthetic_samples s k) (index_in s.columns s.rows p.z p.y p.x) d ≡ sample_of k (synthetic_offset s k p)
unfolding synthetic_samples
sample_there s k p d place =
    let index = sequential_index s p in
    let lt : place_index s Bsq p < length (places s Bsq) = omega (arith, index, inside s p.z p.y p.x place, length-places s Bsq tt) in
    ap (λ (i : ℕ). get_or (map (λ q. sample_of k (synthetic_offset s k q)) (places s Bsq)) i d) (sym index)
    ∙ get_or-map (λ q. sample_of k (synthetic_offset s k q)) (places s Bsq) (place_index s Bsq p) p d lt
    ∙ ap (λ (q : Place). sample_of k (synthetic_offset s k q)) (place_at_index s Bsq p p tt place)

-- the first n samples are put, with one number drawn for each
pub record IsBegun (s : Sizes) (k : SampleKind) (n : ℕ) (c : Image) (state : ℕ) : Type 0 where
  pub shape : c.shape ≡ s
  pub kind : c.kind ≡ k
  pub whole : length c.samples ≡ sample_count s
  pub made : take n c.samples ≡ take n (synthetic_samples s k)
  pub drawn : state ≡ state_after n

pub begun_first : (s : Sizes) (k : SampleKind) (c : Image) (state : ℕ) → c ≡ record { shape = s; kind = k; samples = replicate (sample_count s) (pos 0) }
    → state ≡ first_state → IsBegun s k 0 c state
begun_first s k c state e f =
    record {
      shape = ap (λ (i : Image). i.shape) e;
      kind = ap (λ (i : Image). i.kind) e;
      whole = ap (λ (i : Image). length i.samples) e ∙ length-replicate (sample_count s) (pos 0);
      made = refl;
      drawn = f ∙ sym state_after_none;
    }

pub begun_more : (s : Sizes) (k : SampleKind) (p : Place) (c : Image) (state : ℕ) (v : ℤ) → IsPlaceOf s p
    → IsBegun s k (index_in s.columns s.rows p.z p.y p.x) c state
    → v ≡ sample_of k ((16 * p.z + 4 * p.y + 2 * p.x + highest 6 (next_state state)) % 2 ^ k.bits)
    → IsBegun s k (index_in s.columns s.rows p.z p.y p.x + 1) (put c p.z p.y p.x v) (next_state state)
begun_more s k p c state v place known value =
    let i : ℕ = index_in s.columns s.rows p.z p.y p.x in
    let lt : index_in s.columns s.rows p.z p.y p.x < sample_count s = inside s p.z p.y p.x place in
    let at : index_in c.shape.columns c.shape.rows p.z p.y p.x ≡ index_in s.columns s.rows p.z p.y p.x =
    ap (λ (t : Sizes). index_in t.columns t.rows p.z p.y p.x) known.shape in
    let drawn : next_state state ≡ state_after (index_in s.columns s.rows p.z p.y p.x + 1) = ap next_state known.drawn ∙ sym (state_after_one i) in
    let noise : next_state state ≡ state_after (place_index s Bsq p + 1) = drawn ∙ ap (λ (j : ℕ). state_after (j + 1)) (sym (sequential_index s p)) in
    let sample : v ≡ get_or (synthetic_samples s k) (index_in s.columns s.rows p.z p.y p.x) (pos 0) =
    value ∙ ap (λ (n : ℕ). sample_of k ((16 * p.z + 4 * p.y + 2 * p.x + highest 6 n) % 2 ^ k.bits)) noise ∙ sym (sample_there s k p (pos 0) place) in
    record {
      shape = known.shape;
      kind = known.kind;
      whole = length-set c.samples (index_in c.shape.columns c.shape.rows p.z p.y p.x) v ∙ known.whole;
      made = ap (λ (j : ℕ). take (i + 1) (set c.samples j v)) at
          ∙ take_more_set c.samples i v (omega (arith, lt, known.whole))
          ∙ ap (λ (vs : List ℤ). vs ++ v ∷ []) known.made
          ∙ ap (λ (w : ℤ). take i (synthetic_samples s k) ++ w ∷ []) sample
          ∙ sym (take_more (synthetic_samples s k) i (pos 0) (omega (arith, lt, length-synthetic s k)));
      drawn = drawn;
    }

image_is : (c : Image) (s : Sizes) (k : SampleKind) (vs : List ℤ) → c.shape ≡ s → c.kind ≡ k → c.samples ≡ vs → c ≡ record { shape = s; kind = k; samples = vs }
image_is c s k vs e f g =
    ap (λ (t : Sizes). let i : Image = record { shape = t; kind = c.kind; samples = c.samples } in i) e
    ∙ ap (λ (l : SampleKind). let i : Image = record { shape = s; kind = l; samples = c.samples } in i) f
    ∙ ap (λ (ws : List ℤ). let i : Image = record { shape = s; kind = k; samples = ws } in i) g

pub begun_whole : (s : Sizes) (k : SampleKind) (n : ℕ) (c : Image) (state : ℕ) → sample_count s ≤ n → IsBegun s k n c state → c ≡ synthetic_image s k
begun_whole s k n c state most known =
    image_is c s k (synthetic_samples s k) known.shape known.kind
    (sym (take_all n c.samples (omega (arith, most, known.whole))) ∙ known.made
    ∙ take_all n (synthetic_samples s k) (omega (arith, most, length-synthetic s k)))

-- ---- a cube that is read

above_least : (low : ℤ) (offset : ℕ) → unsigned_abs ((low +ℤ pos offset) -ℤ low) ≡ offset
above_least low offset = ap (λ (v : ℤ). unsigned_abs (v -ℤ low)) (+ℤ_comm low (pos offset)) ∙ ap unsigned_abs (+ℤ-neg_ℤ_cancel (pos offset) low)

pub length-offsets : (c : Image) → IsCube c → length (offsets_of c) ≡ sample_count c.shape
length-offsets c cube = length-map c.samples _ ∙ cube.whole

offset_there : (c : Image) (z y x : ℕ) (row : List ℕ) → IsCube c → IsPlace c.shape z y x → AreRowOffsets c z y row
    → get_or (offsets_of c) (index_in c.shape.columns c.shape.rows z y x) 0 ≡ get_or row x 0
unfolding sample_at
offset_there c z y x row cube place offsets =
    get_or-map (λ v. unsigned_abs (v -ℤ smin c.kind)) c.samples (index_in c.shape.columns c.shape.rows z y x) (pos 0) 0
    (omega (arith, inside c.shape z y x place, cube.whole))
    ∙ ap (λ (v : ℤ). unsigned_abs (v -ℤ smin c.kind)) (offsets x place.column).1
    ∙ above_least (smin c.kind) (get_or row x 0)

-- the checksum of the samples before a place
abbrev pub checksum_before : Image → ℕ → ℕ → ℕ → ℕ
checksum_before c z y x = checksum (take (index_in c.shape.columns c.shape.rows z y x) (offsets_of c))

pub checksum_more : (c : Image) (z y x : ℕ) (row : List ℕ) → IsCube c → IsPlace c.shape z y x → AreRowOffsets c z y row
    → mixed (checksum_before c z y x) (get_or row x 0) ≡ checksum_before c z y (x + 1)
checksum_more c z y x row cube place offsets =
    let lt : index_in c.shape.columns c.shape.rows z y x < length (offsets_of c) = omega (arith, inside c.shape z y x place, length-offsets c cube) in
    let next : index_in c.shape.columns c.shape.rows z y x + 1 ≡ index_in c.shape.columns c.shape.rows z y (x + 1) = omega arith in
    ap (mixed (checksum_before c z y x)) (sym (offset_there c z y x row cube place offsets))
    ∙ sym (fold_more mixed 0 (offsets_of c) (index_in c.shape.columns c.shape.rows z y x) 0 lt)
    ∙ ap (λ (n : ℕ). checksum (take n (offsets_of c))) next

-- a row is done, and so is a band
pub row_after : (c : Image) (z y : ℕ) → checksum_before c z y c.shape.columns ≡ checksum_before c z (y + 1) 0
row_after c z y =
    let next : index_in c.shape.columns c.shape.rows z y c.shape.columns ≡ index_in c.shape.columns c.shape.rows z (y + 1) 0 = omega arith in
    ap (λ (n : ℕ). checksum (take n (offsets_of c))) next

pub band_after : (c : Image) (z : ℕ) → checksum_before c z c.shape.rows 0 ≡ checksum_before c (z + 1) 0 0
band_after c z =
    let next : index_in c.shape.columns c.shape.rows z c.shape.rows 0 ≡ index_in c.shape.columns c.shape.rows (z + 1) 0 0 = omega arith in
    ap (λ (n : ℕ). checksum (take n (offsets_of c))) next

pub checksum_whole : (c : Image) → IsCube c → checksum_before c c.shape.bands 0 0 ≡ checksum (offsets_of c)
checksum_whole c cube =
    let most : length (offsets_of c) ≤ index_in c.shape.columns c.shape.rows c.shape.bands 0 0 = omega (arith, length-offsets c cube) in
    ap checksum (take_all (index_in c.shape.columns c.shape.rows c.shape.bands 0 0) (offsets_of c) most)
