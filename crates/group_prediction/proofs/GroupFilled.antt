-- Lanes that are filled with what the samples tell of each band.
use Rattle.std.proofs.Common.{◌≡◌, ℕ, zero, suc, ◌+◌, ◌-◌, ◌*◌, ◌^◌, ◌<◌, ◌≤◌, ℤ, pos, unsigned_abs, false, List, [], ◌∷◌, ◌++◌, length, get_or, replicate, slice_get, Some, sym, ap₂, ◌∙◌, subst, arith, inl, inr, length-append}
use Rattle.std.specs.List.{AllByRecursion}
use Rattle.std.proofs.Math.Pow.{pow-add}
use Rattle.std.proofs.Math.ListN.{get_or-map}
use Rattle.std.proofs.lemmas.Nat.{pow_pos}
use Rattle.std.proofs.lemmas.Bool.{cases_lt}
use Rattle.std.proofs.lemmas.List.{take_all, length-replicate, get_or_past}
use Rattle.std.proofs.lemmas.Option.{slice_get_within, get_or_from_slice_get}
use Rattle.cube_core.specs.Image.{Image, IsCube, IsPlace}
use Rattle.lanes.specs.Lanes.{lane, place}
use Rattle.band_lanes.specs.declared.pairs.Pairs.{Pairs}
use Rattle.band_lanes.specs.Rows.{numbers_of, row_at, no_pairs}
use Rattle.sample_prediction.specs.declared.predictor.Predictor.{Predictor}
use Rattle.sample_prediction.specs.Predictor.{component_count}
use Rattle.sample_prediction.specs.Differences.{difference_vector}
use Rattle.sample_prediction.proofs.Padding.{vector_length}
use Rattle.predict_core.specs.declared.settings.Settings.{Settings}
use Rattle.group_prediction.specs.declared.band_lines.BandLines.{BandLines}
use Rattle.predict_core.specs.Following.{PredictorState}
use Rattle.predict_core.specs.ImageRuns.{ImageRun, IsFirstLater, IsRunOf}
use Rattle.group_prediction.specs.GroupPieces.{IsRunNext}
use Rattle.group_prediction.specs.GroupLanes.{IsLane}
use Rattle.predict_core.specs.BandLanes.{FitsNarrow}
use Rattle.group_prediction.specs.GroupLines.{AreBandsLines}
use Rattle.group_prediction.specs.GroupRooms.{AreReady, AreConstants}
use Rattle.predict_core.specs.RunChains.{IsFollowed}
use Rattle.predict_core.proofs.LaneVectors.{components_are, padded_at}
use Rattle.predict_core.proofs.Ranges.{vector_below}

all_get : {X : Type 0} (P : X → Type 0) (xs : List X) → AllByRecursion P xs → (i : ℕ) (d : X) → i < length xs → P (get_or xs i d)
all_get P [] h i d l = absurd (omega (arith, l))
all_get P (x ∷ xs) h zero d l = h.0
all_get P (x ∷ xs) h (suc i) d l = all_get P xs h.1 i d (omega (arith, l))

-- what holds of all items holds of one
pub all_at : {X : Type 0} (P : X → Type 0) (xs : List X) → AllByRecursion P xs → (i : ℕ) (x : X) → slice_get xs i ≡ Some x → P x
all_at P xs h i x e = subst P (get_or_from_slice_get xs i x x e) (all_get P xs h i x (slice_get_within xs i x e))

-- ---- the vector of a lane

pub lane_filled : (q b : ℕ) (s : Settings) (v : PredictorState) (r : ImageRun) (own : List (List ℤ)) (pairs : List Pairs) (l : BandLines)
    → b < 8 → IsCube r.image → q ≤ 9 → AreConstants s v r.image → IsRunNext v r → FitsNarrow v.predictor r.image.kind.bits
    → component_count v.predictor v.band ≤ 2 * q → 9 ≤ length pairs → AreBandsLines (2 * q) v.predictor v.band r l
    → ((i : ℕ) → i < 64 → lane (get_or own i []) b ≡ get_or l.own i (pos 0))
    → ((j i : ℕ) → j < q → i < 64 → lane (row_at (get_or pairs j no_pairs) i) (2 * b) ≡ place l.components (2 * j) i)
    → ((j i : ℕ) → j < q → i < 64 → lane (row_at (get_or pairs j no_pairs) i) (2 * b + 1) ≡ place l.components (2 * j + 1) i)
    → IsLane q b s r.image r.y r.x r.count own pairs
lane_filled q b s v r own pairs l fits cube few is next narrow enough long lines own_is even odd = record {
  cube = cube;
  place = rw is.band next.place;
  columns = sym is.columns;
  kind = next.kind ∙ sym is.kind;
  inside = next.inside;
  few = few;
  enough = rw counted enough;
  register = rw (is.predictor, counted) (narrow.register v.band);
  omega_in = rw is.predictor narrow.omega_in;
  bits = narrow.bits_in;
  central = λ i m n. rw (is.predictor, is.band) (own_is i (within i m) ∙ lines.own i m n);
  vector = λ i m n. rw (is.predictor, is.band, counted)
      (let us = difference_vector v.predictor r.image v.band r.y (r.x + i) in let rest = 2 * q - component_count v.predictor v.band in
      let u = vector_length v.predictor r.image v.band r.y (r.x + i) in
      let long_vector : length (us ++ replicate rest (pos 0)) ≡ 2 * q =
      (let e = length-append us (replicate rest (pos 0)) in let f = length-replicate rest (pos 0) in omega (arith, e, f, u, enough)) in
      components_are q b i pairs (us ++ replicate rest (pos 0)) (omega (arith, few, long)) (omega (arith, long_vector))
      (λ j o. even j i o (within i m) ∙ lines.components i (2 * j) m n (omega (arith, o)) ∙ sym (padded_at us rest (2 * j)))
      (λ j o. odd j i o (within i m) ∙ lines.components i (2 * j + 1) m n (omega (arith, o)) ∙ sym (padded_at us rest (2 * j + 1)))
      ∙ take_all (2 * q) (us ++ replicate rest (pos 0)) (omega (arith, long_vector)));
}
  where
    counted : s.count ≡ component_count v.predictor v.band
    counted = s.count_is ∙ ap₂ component_count is.predictor is.band

    within : (i : ℕ) → i < r.count → i < 64
    within i m = let f = next.few in omega (arith, m, f)

-- ---- components are small

pub component_below : (p : Predictor) (c : Image) → IsCube c → (z y x k : ℕ) → 0 < y + x → (p.column ≡ false → 2 ≤ c.shape.columns) → IsPlace c.shape z y x
    → unsigned_abs (get_or (difference_vector p c z y x) k (pos 0)) < 2 ^ (c.kind.bits + 2)
component_below p c cube z y x k later wide place =
    let power : 2 ^ (c.kind.bits + 2) ≡ 2 ^ c.kind.bits * 2 ^ 2 = pow-add 2 c.kind.bits 2 in let some = pow_pos c.kind.bits in
    elim (cases_lt k (length (difference_vector p c z y x))) [
      | inl l ↦ (let h = vector_below p c cube y x later wide z place k l in omega (arith, h, power, some))
      | inr l ↦ subst (λ v. unsigned_abs v < 2 ^ (c.kind.bits + 2)) (sym (get_or_past (difference_vector p c z y x) k (pos 0) l)) (omega (arith, power, some))
    ]

-- ---- the chain of a lane

-- before its first place
pub followed_none : (s : Settings) (c : Image) (y x first : ℕ) (begun parts : List ℤ) → IsFollowed s c y x first begun first begun parts
followed_none s c y x first begun parts = record {
  weights = λ p f. f.weights;
  predicted = λ p f i l m. absurd (omega (arith, l, m));
  small = λ i l m. absurd (omega (arith, l, m));
}

-- and with the same parts
pub followed_alike : (s : Settings) (c : Image) (y x first at : ℕ) (begun ws parts others : List ℤ)
    → ((i : ℕ) → i < at → get_or others i (pos 0) ≡ get_or parts i (pos 0)) → IsFollowed s c y x first begun at ws parts
    → IsFollowed s c y x first begun at ws others
followed_alike s c y x first at begun ws parts others same h = record {
  weights = h.weights;
  predicted = λ p f i l m. rw (same i m) (h.predicted p f i l m);
  small = λ i l m. rw (same i m) (h.small i l m);
}

pub number_at : (b i : ℕ) (rows : List (List ℤ)) → get_or (numbers_of b rows) i (pos 0) ≡ place rows i b
number_at b i rows = get_or-map (λ row. lane row b) rows i []

-- what is ready of all bands is ready of one
pub ready_at : (q : ℕ) (bands : List PredictorState) (run : ImageRun) (r : AreReady q bands run) (k : ℕ) (b : PredictorState)
    → slice_get bands k ≡ Some b → (b.predictor ≡ r.predictor) × IsRunNext b run
ready_at q bands run r k b e = all_at (λ b. (b.predictor ≡ r.predictor) × IsRunNext b run) bands r.each k b e

-- the next places of a band are a run of it
pub run_of : (b : PredictorState) (r : ImageRun) → IsRunNext b r → 1 ≤ r.count → IsFirstLater r.y r.x r.first → IsRunOf b.band r
run_of b r next some first = record {
  place = next.place;
  some = some;
  few = next.few;
  inside = next.inside;
  first = first;
}

pub ready_more : (q more : ℕ) (bands : List PredictorState) (run : ImageRun) → q ≤ more → AreReady q bands run → AreReady more bands run
ready_more q more bands run h r = record {
  predictor = r.predictor;
  each = r.each;
  narrow = r.narrow;
  wide = r.wide;
  some = r.some;
  first = r.first;
  enough = λ z. let e = r.enough z in omega (arith, e, h);
}
