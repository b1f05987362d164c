-- One place of a band's chain in its lane of 32 bits.
use Rattle.std.proofs.Common.{◌≡◌, ℕ, zero, suc, ◌+◌, ◌-◌, ◌*◌, ◌^◌, ◌<◌, ◌≤◌, ℤ, pos, int_le, unsigned_abs, List, [], ◌∷◌, false}
use Rattle.std.proofs.Common.{◌++◌, length, take, drop, get_or, set, replicate, slice_get, Some, refl, sym, ap, ap₂, ◌∙◌, subst, arith, length-append, inl}
use Rattle.std.specs.List.{AllByRecursion}
use Rattle.std.proofs.Math.Pow.{pow-add}
use Rattle.std.proofs.lemmas.List.{take_all, take-take, length-replicate, length-take-le}
use Rattle.cube_core.specs.Image.{Image, IsCube, IsPlace}
use Rattle.header_bits.specs.declared.params.Params.{Params}
use Rattle.lanes.specs.Lanes.{place}
use Rattle.band_lanes.specs.Fours.{column_of}
use Rattle.predict_core.specs.declared.settings.Settings.{Settings}
use Rattle.band_lanes.specs.declared.four.rows.Rows.{Rows}
use Rattle.group_prediction.specs.declared.long.lines.LongLines.{LongLines}
use Rattle.predict_core.specs.Following.{PredictorState}
use Rattle.predict_core.specs.ImageRuns.{ImageRun}
use Rattle.group_prediction.specs.GroupPieces.{IsRunNext}
use Rattle.group_prediction.specs.GroupLanes.{IsLongLane, HasLongWeights}
use Rattle.group_prediction.specs.GroupLines.{AreLongLines}
use Rattle.group_prediction.specs.GroupRooms.{AreConstants}
use Rattle.predict_core.specs.Largest.{NeverWraps}
use Rattle.group_prediction.specs.LongRooms.{AreLongReady}
use Rattle.band_lanes.specs.Fours.{no_rows, row_components}
use Rattle.predict_core.specs.RunChains.{IsFollowed, AreStepsThere}
use Rattle.sample_prediction.specs.Arithmetic.{floor_div}
use Rattle.sample_prediction.specs.Bounds.{AllWithin}
use Rattle.sample_prediction.specs.Chain.{AreWeightsAt, scaled_by_difference}
use Rattle.sample_prediction.specs.Differences.{central_difference, difference_vector}
use Rattle.sample_prediction.specs.LocalSum.{local_sum}
use Rattle.sample_prediction.specs.Predictor.{component_count}
use Rattle.sample_prediction.specs.Prediction.{inner_product, scaled_there, scaled_prediction, next_weights}
use Rattle.sample_prediction.specs.Weights.{step_exponent, updated_weights}
use Rattle.sample_prediction.proofs.Padding.{vector_length}
use Rattle.sample_prediction.proofs.Inner.{within_take}
use Rattle.predict_core.proofs.LaneVectors.{padded_at}
use Rattle.group_prediction.proofs.GroupFilled.{all_at}
use Rattle.predict_core.proofs.LanePlaces.{place_scaled, place_next}
use Rattle.predict_core.proofs.Ranges.{padded_within}
use Rattle.predict_core.proofs.Runs.{written_place, weights_next, part_is}

-- ---- a band's numbers in rows

pub column_is : (n b : ℕ) (rows : List (List ℤ)) (vs : List ℤ) → n ≤ length rows → n ≤ length vs
    → ((k : ℕ) → k < n → place rows k b ≡ get_or vs k (pos 0)) → column_of n b rows ≡ take n vs
unfolding column_of
column_is zero b rows vs h l same = refl
column_is (suc n) b [] vs h l same = absurd (omega (arith, h))
column_is (suc n) b (r ∷ rows) [] h l same = absurd (omega (arith, l))
column_is (suc n) b (r ∷ rows) (v ∷ vs) h l same =
    ap₂ (λ x xs. x ∷ xs) (same 0 (omega arith)) (column_is n b rows vs (omega (arith, h)) (omega (arith, l)) (λ k m. same (suc k) (omega (arith, m))))

pub column_same : (n b : ℕ) (rows others : List (List ℤ)) → length rows ≡ length others → ((k : ℕ) → place rows k b ≡ place others k b)
    → column_of n b rows ≡ column_of n b others
unfolding column_of
column_same zero b rows others e h = refl
column_same (suc n) b [] [] e h = refl
column_same (suc n) b [] (o ∷ os) e h = absurd (omega (arith, e))
column_same (suc n) b (r ∷ rs) [] e h = absurd (omega (arith, e))
column_same (suc n) b (r ∷ rs) (o ∷ os) e h = ap₂ (λ x xs. x ∷ xs) (h 0) (column_same n b rs os (omega (arith, e)) (λ k. h (suc k)))

pub components_are : (n b i : ℕ) (rows : List Rows) (vs : List ℤ) → n ≤ length rows → n ≤ length vs
    → ((k : ℕ) → k < n → place (get_or rows k no_rows).places i b ≡ get_or vs k (pos 0)) → row_components n b rows i ≡ take n vs
unfolding row_components
components_are zero b i rows vs h l same = refl
components_are (suc n) b i [] vs h l same = absurd (omega (arith, h))
components_are (suc n) b i (r ∷ rows) [] h l same = absurd (omega (arith, l))
components_are (suc n) b i (r ∷ rows) (v ∷ vs) h l same =
    ap₂ (λ x xs. x ∷ xs) (same 0 (omega arith)) (components_are n b i rows vs (omega (arith, h)) (omega (arith, l)) (λ k m. same (suc k) (omega (arith, m))))

-- ---- weights that are written

pub same_long_weights : (q b : ℕ) (s : PredictorState) (rows others : List (List ℤ)) → column_of (2 * q) b others ≡ column_of (2 * q) b rows
    → HasLongWeights q b s rows → HasLongWeights q b s others
same_long_weights q b s rows others e h = record {
  long = h.long;
  used = λ l. ap (take (length s.weights)) e ∙ h.used l;
  within = subst (AllWithin (2 ^ (s.predictor.omega + 2))) (sym e) h.within;
}

pub long_weights_held : (q b : ℕ) (s : PredictorState) (n : ℕ) (ws : List ℤ) (rows : List (List ℤ)) → take n ws ≡ s.weights → n ≤ length ws
    → n ≡ component_count s.predictor s.band → AllWithin (2 ^ (s.predictor.omega + 2)) ws → column_of (2 * q) b rows ≡ take (2 * q) ws → HasLongWeights q b s rows
long_weights_held q b s n ws rows is few count within e =
    let long : length s.weights ≡ n = ap length (sym is) ∙ length-take-le n ws few in record {
      long = long ∙ count;
      used = λ l. rw (long, e) (take-take n (2 * q) ws (omega (arith, long, l)) ∙ is);
      within = rw e (within_take (2 ^ (s.predictor.omega + 2)) (2 * q) ws within);
    }

-- ---- the vector of a lane

pub long_lane_filled : (q b : ℕ) (s : Settings) (v : PredictorState) (r : ImageRun) (own : List (List ℤ)) (rows : List Rows) (l : LongLines)
    → IsCube r.image → q ≤ 9 → AreConstants s v r.image → IsRunNext v r → ((z : ℕ) → NeverWraps v.predictor r.image.kind.bits (component_count v.predictor z))
    → component_count v.predictor v.band ≤ 2 * q → length rows ≡ 18 → AreLongLines (2 * q) v.predictor v.band r l
    → ((i : ℕ) → i < 64 → place own i b ≡ get_or l.own i (pos 0))
    → ((k i : ℕ) → k < 2 * q → i < 64 → place (get_or rows k no_rows).places i b ≡ place l.components k i)
    → IsLongLane q b s r.image r.y r.x r.count own rows
long_lane_filled q b s v r own rows l cube few is next room enough long lines own_is rows_are = record {
  cube = cube;
  place = rw is.band next.place;
  columns = sym is.columns;
  kind = next.kind ∙ sym is.kind;
  inside = next.inside;
  few = few;
  enough = rw counted enough;
  register = rw (is.predictor, counted) (room v.band);
  central = λ i m n. rw (is.predictor, is.band) (own_is i (within i m) ∙ lines.own i m n);
  vector = λ i m n. rw (is.predictor, is.band, counted)
      (let us = difference_vector v.predictor r.image v.band r.y (r.x + i) in let rest = 2 * q - component_count v.predictor v.band in
      let u = vector_length v.predictor r.image v.band r.y (r.x + i) in
      let long_vector : length (us ++ replicate rest (pos 0)) ≡ 2 * q =
      (let e = length-append us (replicate rest (pos 0)) in let f = length-replicate rest (pos 0) in omega (arith, e, f, u, enough)) in
      components_are (2 * q) b i rows (us ++ replicate rest (pos 0)) (omega (arith, few, long)) (omega (arith, long_vector))
      (λ k o. rows_are k i o (within i m) ∙ lines.components i k m n o ∙ sym (padded_at us rest k))
      ∙ take_all (2 * q) (us ++ replicate rest (pos 0)) (omega (arith, long_vector)));
}
  where
    counted : s.count ≡ component_count v.predictor v.band
    counted = s.count_is ∙ ap₂ component_count is.predictor is.band

    within : (i : ℕ) → i < r.count → i < 64
    within i m = let f = next.few in omega (arith, m, f)

-- its components are small
pub filled_components_in : (q b : ℕ) (v : PredictorState) (r : ImageRun) (i : ℕ) (rows : List Rows) (l : LongLines)
    → IsCube r.image → q ≤ 9 → IsRunNext v r → (v.predictor.column ≡ false → 2 ≤ r.image.shape.columns) → component_count v.predictor v.band ≤ 2 * q
    → 18 ≤ length rows → AreLongLines (2 * q) v.predictor v.band r l → i < r.count → 0 < r.y + (r.x + i)
    → ((k : ℕ) → k < 2 * q → place (get_or rows k no_rows).places i b ≡ place l.components k i)
    → AllWithin (2 ^ (r.image.kind.bits + 2)) (row_components (2 * q) b rows i)
filled_components_in q b v r i rows l cube few next wide enough long lines inside later rows_are =
    let us = difference_vector v.predictor r.image v.band r.y (r.x + i) in let rest = 2 * q - component_count v.predictor v.band in
    let u = vector_length v.predictor r.image v.band r.y (r.x + i) in
    let long_vector : length (us ++ replicate rest (pos 0)) ≡ 2 * q =
    (let e = length-append us (replicate rest (pos 0)) in let f = length-replicate rest (pos 0) in omega (arith, e, f, u, enough)) in
    let vector : row_components (2 * q) b rows i ≡ us ++ replicate rest (pos 0) =
    components_are (2 * q) b i rows (us ++ replicate rest (pos 0)) (omega (arith, few, long)) (omega (arith, long_vector))
    (λ k o. rows_are k o ∙ lines.components i k inside later o ∙ sym (padded_at us rest k))
    ∙ take_all (2 * q) (us ++ replicate rest (pos 0)) (omega (arith, long_vector)) in
    let four : 4 * 2 ^ r.image.kind.bits ≡ 2 ^ (r.image.kind.bits + 2) = (let p : 2 ^ (r.image.kind.bits + 2) ≡ 2 ^ r.image.kind.bits * 2 ^ 2 = pow-add 2 r.image.kind.bits 2 in omega (arith, p)) in
    subst (λ n. AllWithin n (row_components (2 * q) b rows i)) four
    (subst (AllWithin (4 * 2 ^ r.image.kind.bits)) (sym vector) (padded_within v.predictor r.image cube r.y (r.x + i) later wide v.band
    (record { band = next.place.band; row = next.place.row; column = (let h = next.inside in omega (arith, inside, h)) }) rest))

-- ---- one place

module _ (q b : ℕ) (s : Settings) (c : Image) (y x count i : ℕ) (own : List (List ℤ)) (rows : List Rows) (there : IsLongLane q b s c y x count own rows)
    (inside : i < count) (later : 0 < y + (x + i)) (ws : List ℤ) (long : length ws ≡ 2 * q) (within : AllWithin (2 ^ (s.predictor.omega + 2)) ws) (part : ℤ)
    (part_found : part ≡ floor_div (inner_product ws (row_components (2 * q) b rows i)) (2 ^ s.predictor.omega)) where
  at : IsPlace c.shape s.band y (x + i)
  at = record { band = there.place.band; row = there.place.row; column = (let h = there.inside in omega (arith, inside, h)) }

  -- the scaled prediction comes from the part
  long_scaled : scaled_there s.predictor c s.band y (x + i) (take s.count ws) ≡ scaled_by_difference c.kind part (local_sum s.predictor c s.band y (x + i))
  long_scaled =
      place_scaled q s c y (x + i) there.cube at later there.columns there.enough there.register (row_components (2 * q) b rows i)
      (there.vector i inside later) ws long within part (inl part_found)

  -- and so do the next weights
  long_next : (new : List ℤ) (omega : ℕ) (exponent at : ℤ) → omega ≡ s.predictor.omega
      → exponent ≡ step_exponent s.predictor c.shape.columns c.kind.bits (y * c.shape.columns + (x + i))
      → at ≡ central_difference s.predictor c s.band y (x + i)
      → new ≡ updated_weights omega exponent (int_le at part) ws (row_components (2 * q) b rows i)
      → take s.count new ≡ next_weights s.predictor c s.band (y * c.shape.columns + (x + i)) (take s.count ws)
  long_next =
      place_next q s c y (x + i) there.cube at later there.columns there.enough there.register (row_components (2 * q) b rows i)
      (there.vector i inside later) ws long within part (inl part_found)

  -- one place more
  pub long_followed : (new parts : List ℤ) (omega bits start : ℕ) (begun : List ℤ) (exponent at : ℤ) → i < length parts
      → AreStepsThere s c omega bits exponent y (x + i) → at ≡ central_difference s.predictor c s.band y (x + i)
      → unsigned_abs part ≤ 18 * 2 ^ 20 → new ≡ updated_weights omega exponent (int_le at part) ws (row_components (2 * q) b rows i)
      → IsFollowed s c y x start begun i ws parts → IsFollowed s c y x start begun (i + 1) new (set parts i part)
  long_followed new parts fraction bits start begun exponent own_at fits steps own_is size e h = record {
    weights = λ p f. weights_next p s.predictor c s.band y x i (take s.count ws) later at.column (weights_there p f) (take s.count new)
        (long_next new fraction exponent own_at steps.omega_is steps.exponent_is own_is e);
    predicted = λ p f. written_place (λ k v. scaled_prediction p c s.band (y * c.shape.columns + (x + k))
        ≡ scaled_by_difference c.kind v (local_sum s.predictor c s.band y (x + k))) start i parts part fits
        (part_is_at p f) (h.predicted p f);
    small = written_place (λ k v. unsigned_abs v ≤ 18 * 2 ^ 20) start i parts part fits size h.small;
  }
    where
      weights_there : (p : Params) → AreWeightsAt p s.predictor c s.band (y * c.shape.columns + (x + start)) (take s.count begun)
          → AreWeightsAt p s.predictor c s.band (y * c.shape.columns + (x + i)) (take s.count ws)
      weights_there p f = record { predictor = f.predictor; weights = h.weights p f }

      part_is_at : (p : Params) → AreWeightsAt p s.predictor c s.band (y * c.shape.columns + (x + start)) (take s.count begun)
          → scaled_prediction p c s.band (y * c.shape.columns + (x + i)) ≡ scaled_by_difference c.kind part (local_sum s.predictor c s.band y (x + i))
      part_is_at p f = part_is p s.predictor c s.band y x i (take s.count ws) later at.column (weights_there p f) part long_scaled

-- what a lane holds of a piece it holds of its first places
pub long_lane_first : (q b : ℕ) (s : Settings) (c : Image) (y x count k : ℕ) (own : List (List ℤ)) (rows : List Rows) → k ≤ count
    → IsLongLane q b s c y x count own rows → IsLongLane q b s c y x k own rows
long_lane_first q b s c y x count k own rows h l = record {
  cube = l.cube;
  place = l.place;
  columns = l.columns;
  kind = l.kind;
  inside = (let e = l.inside in omega (arith, e, h));
  few = l.few;
  enough = l.enough;
  register = l.register;
  central = λ i m. l.central i (omega (arith, m, h));
  vector = λ i m. l.vector i (omega (arith, m, h));
}

-- what is ready of all bands is ready of one
pub long_ready_at : (q : ℕ) (bands : List PredictorState) (run : ImageRun) (r : AreLongReady q bands run) (k : ℕ) (b : PredictorState)
    → slice_get bands k ≡ Some b → (b.predictor ≡ r.predictor) × IsRunNext b run
long_ready_at q bands run r k b e = all_at (λ b. (b.predictor ≡ r.predictor) × IsRunNext b run) bands r.each k b e

pub long_ready_more : (q more : ℕ) (bands : List PredictorState) (run : ImageRun) → q ≤ more → AreLongReady q bands run → AreLongReady more bands run
long_ready_more q more bands run h r = record {
  predictor = r.predictor;
  each = r.each;
  register = r.register;
  wide = r.wide;
  some = r.some;
  first = r.first;
  enough = λ z. let e = r.enough z in omega (arith, e, h);
}

-- and of some of them
module _ {X : Type 0} (P : X → Type 0) where
  all_first : (n : ℕ) (xs : List X) → AllByRecursion P xs → AllByRecursion P (take n xs)
  all_first zero xs h = tt
  all_first (suc n) [] h = tt
  all_first (suc n) (x ∷ xs) h = (h.0, all_first n xs h.1)

  all_rest : (n : ℕ) (xs : List X) → AllByRecursion P xs → AllByRecursion P (drop n xs)
  all_rest zero xs h = h
  all_rest (suc n) [] h = tt
  all_rest (suc n) (x ∷ xs) h = all_rest n xs h.1

pub long_ready_first : (q m : ℕ) (bands : List PredictorState) (run : ImageRun) → AreLongReady q bands run → AreLongReady q (take m bands) run
long_ready_first q m bands run r = record {
  predictor = r.predictor;
  each = all_first (λ b. (b.predictor ≡ r.predictor) × IsRunNext b run) m bands r.each;
  register = r.register;
  wide = r.wide;
  some = r.some;
  first = r.first;
  enough = r.enough;
}

pub long_ready_rest : (q m : ℕ) (bands : List PredictorState) (run : ImageRun) → AreLongReady q bands run → AreLongReady q (drop m bands) run
long_ready_rest q m bands run r = record {
  predictor = r.predictor;
  each = all_rest (λ b. (b.predictor ≡ r.predictor) × IsRunNext b run) m bands r.each;
  register = r.register;
  wide = r.wide;
  some = r.some;
  first = r.first;
  enough = r.enough;
}
