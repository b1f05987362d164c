-- One step of a wavefront: in each lane it finds the sample of the band, and what is needed for the next.
use Rattle.std.proofs.Common.{◌≡◌, ◌+◌, ◌-◌, ◌*◌, ◌^◌, ◌<◌, ◌≤◌, ℕ, ℤ, pos, ◌-ℤ◌, ◌*ℤ◌, Bool, true, false}
use Rattle.std.proofs.Common.{List, [], ◌∷◌, ◌++◌, length, take, replicate, get_or, refl, sym, ap, ◌∙◌, subst, inl, inr, arith}
use Rattle.std.proofs.lemmas.Nat.{mul-le}
use Rattle.std.proofs.lemmas.Bool.{cases_lt, cases_Bool, cases_eq}
use Rattle.std.proofs.lemmas.Bool.Decides.{nat_tests}
use Rattle.std.proofs.lemmas.List.{length-append, length-replicate, take_all}
use Rattle.cube_core.specs.Kind.{SampleKind}
use Rattle.cube_core.specs.Image.{Image, IsPlace, sample_at}
use Rattle.header_bits.specs.declared.params.Params.{Params}
use Rattle.lanes.specs.Lanes.{place}
use Rattle.band_lanes.specs.Rows.{weights_of}
use Rattle.band_lanes.proofs.Rows.{weights_long}
use Rattle.sample_prediction.specs.Arithmetic.{floor_div}
use Rattle.sample_prediction.specs.Bounds.{AllWithin}
use Rattle.sample_prediction.specs.Chain.{scaled_by_difference}
use Rattle.sample_prediction.specs.Differences.{central_difference, difference_vector}
use Rattle.sample_prediction.specs.LocalSum.{local_sum}
use Rattle.sample_prediction.specs.Prediction.{inner_product, scaled_there, weight_vector}
use Rattle.sample_prediction.specs.Residual.{mapped, mapped_residual}
use Rattle.sample_prediction.specs.declared.predictor.Predictor.{Predictor}
use Rattle.sample_prediction.proofs.Padding.{vector_length}
use Rattle.predict_core.specs.declared.settings.Settings.{Settings}
use Rattle.predict_core.specs.Offsets.{number_at}
use Rattle.predict_core.specs.Rooms.{lower_difference}
use Rattle.predict_core.specs.RunChains.{AreStepsThere}
use Rattle.wave_inversion.specs.Wave.{Lower, sum_at, component_in, diagonal_in, lagged_in}
use Rattle.wave_inversion.specs.WaveForms.{WaveForm}
use Rattle.wave_inversion.specs.WaveLanes.{AreLanes, AreInStep, column_at, lower_central}
use Rattle.wave_inversion.specs.WaveSteps.{IsStepped, offset_by}
use Rattle.predict_core.specs.BandLanes.{IsPart}
use Rattle.predict_core.proofs.Following.{follows_by, residual_by}
use Rattle.predict_core.proofs.LaneVectors.{padded_at}
use Rattle.predict_core.proofs.Components.{reduced_at, direction_at, full_at, three}
use Rattle.predict_core.proofs.LaneVectors.{weights_are}
use Rattle.predict_core.proofs.LanePlaces.{place_scaled, place_next}
use Rattle.predict_core.proofs.Quads.{lower_none}
use Rattle.wave_inversion.proofs.WaveParts.{component_direction, component_lagged, component_none, diagonal_low, diagonal_high, lagged_near, lagged_far, first_of}
use Rattle.wave_inversion.proofs.WaveOffsets.{sum_told, central_told, directions_told, offset_found, offset_sum}

-- ---- a component of a lane

-- the place of a lane that has begun, in a step up to its last column
module _ {q : ℕ} {f : WaveForm} {p : Params} {s : ℕ → Settings} {d : Image} {first y origin last n : ℕ} {above : List (List ℤ)} {lower : Lower} {numbers own weights : List (List ℤ)}
    (lanes : AreLanes q f p s d first y origin last above lower) (k : ℕ) (step : (8 ≤ k) × (k < last)) (begun : (n ≤ 8) × (n + 7 ≤ origin + k))
    (now : AreInStep q p s d first y origin last n k numbers own weights) (b : ℕ) (mine : b < n) (exists : first + b < d.shape.bands) (right : column_at origin k b < d.shape.columns) where
  abbrev x : ℕ
  x = column_at origin k b

  abbrev z : ℕ
  z = first + b

  fits : b < 8
  fits = omega (arith, mine, begun.0)

  left : 0 < x
  left = omega (arith, mine, begun.1)

  there : IsPlace d.shape z y x
  there = record { band = exists; row = lanes.row.1; column = right }

  band : (s b).band ≡ z
  band = lanes.bands b fits

  made : (s b).predictor ≡ (s 0).predictor
  made = lanes.predictor b fits

  wide : (s b).predictor.column ≡ false → 2 ≤ d.shape.columns
  wide h = omega (arith, left, right)

  -- a band so many below is at another place among lower bands
  low_is : (lag below place : ℕ) → lag ≤ (s 0).predictor.previous → place + lag ≡ z + below → lower_central (s 0).predictor d below place y x
      ≡ lower_difference (s b).predictor d z y x lag
  unfolding lower_difference
  low_is lag below place used at = elim (cases_lt z lag) [
    | inl none ↦ rw made (grind (arith, nat_tests, none, at))
    | inr one ↦ (let same : place - below ≡ z - lag = omega (arith, one, at) in
        rw (made, same) (grind (arith, nat_tests, one, at, used)))
  ]

  high_is : (lag : ℕ) → lag ≤ (s 0).predictor.previous → lag ≤ b → central_difference (s 0).predictor d (first + (b - lag)) y x ≡ lower_difference (s b).predictor d z y x lag
  unfolding lower_difference
  high_is lag used high = let same : first + (b - lag) ≡ z - lag = omega (arith, high) in rw (made, same) (grind (arith, nat_tests, high, used))

  -- the central difference of a previous band at the column of the lane
  near_told : (lag : ℕ) → 1 ≤ lag → lag ≤ (s 0).predictor.previous → lag ≤ 7 → diagonal_in lower.near own k lag b ≡ lower_difference (s b).predictor d z y x lag
  near_told lag some used few = elim (cases_lt b lag) [
    | inl low ↦
        (let at : column_at (origin + 8) (k - lag) (8 + b - lag) ≡ x = omega (arith, low, few, step.0) in
        let there = lanes.near (k - lag) (8 + b - lag) (omega (arith, few, step.0)) (omega (arith, step.1)) (omega (arith, low))
        (omega (arith, used, lanes.previous)) (rw at left) (rw at right) in
        sym (diagonal_low lower.near own k lag b low) ∙ there ∙ rw at (low_is lag 8 (first + (8 + b - lag)) used (omega (arith, few))))
    | inr high ↦
        (let at : column_at origin (k - lag) (b - lag) ≡ x = omega (arith, high, few, step.0) in
        let there = now.centrals (k - lag) (b - lag) (omega (arith, high, step.0, fits)) (omega (arith, some, step.0)) (omega (arith, mine)) (omega (arith, exists)) (rw at left) (rw at right) in
        sym (diagonal_high lower.near own k lag b high) ∙ there ∙ rw at (high_is lag used high))
  ]

  -- of one that is eight bands further below
  far_told : (lag : ℕ) → lag ≤ 7 → lag + 8 ≤ (s 0).predictor.previous → diagonal_in lower.far lower.beside k lag b ≡ lower_difference (s b).predictor d z y x (lag + 8)
  far_told lag few used = elim (cases_lt b lag) [
    | inl low ↦
        (let at : column_at (origin + 8) (k - lag) (8 + b - lag) ≡ x = omega (arith, low, few, step.0) in
        let there = lanes.far (k - lag) (8 + b - lag) (omega (arith, few, step.0)) (omega (arith, step.1)) (omega (arith, low))
        (omega (arith, used, lanes.previous)) (omega (arith, used, lanes.previous)) (rw at left) (rw at right) in
        sym (diagonal_low lower.far lower.beside k lag b low) ∙ there ∙ rw at (low_is (lag + 8) 16 (first + (8 + b - lag)) used (omega (arith, few))))
    | inr high ↦
        (let at : column_at origin (k - lag) (b - lag) ≡ x = omega (arith, high, few, step.0) in
        let there = lanes.beside (k - lag) (b - lag) (omega (arith, few, step.0)) (omega (arith, step.1)) (omega (arith, fits))
        (omega (arith, used, lanes.previous)) (rw at left) (rw at right) in
        sym (diagonal_high lower.far lower.beside k lag b high) ∙ there ∙ rw at (low_is (lag + 8) 8 (first + (b - lag)) used (omega (arith, high))))
  ]

  lag_told : (lag : ℕ) → 1 ≤ lag → lag ≤ (s 0).predictor.previous → lag ≤ 15 → lagged_in lower own k lag b ≡ lower_difference (s b).predictor d z y x lag
  lag_told lag some used few = elim (cases_lt lag 8) [
    | inl near ↦ sym (lagged_near lower own k lag b near) ∙ near_told lag some used (omega (arith, near))
    | inr far ↦ (let whole : lag - 8 + 8 ≡ lag = omega (arith, far) in
        sym (lagged_far lower own k lag b far) ∙ rw whole at (far_told (lag - 8) (omega (arith, few)) (omega (arith, used, far))))
  ]

  abbrev vector : List ℤ
  vector = difference_vector (s b).predictor d z y x

  -- the offsets around it
  before : column_at origin (k - 1) b ≡ x - 1
  before = omega (arith, step.0)

  west_is : place numbers (k - 1) b ≡ pos (number_at d z y (column_at origin (k - 1) b))
  west_is = now.offsets (k - 1) b (omega (arith, step.0)) (omega (arith, step.0)) mine exists (omega (arith, left, step.0)) (omega (arith, left, right, step.0))

  north_west_is : place above (k - 1) b ≡ pos (number_at d z (y - 1) (column_at origin (k - 1) b))
  north_west_is = lanes.north (k - 1) b (omega (arith, step.1)) fits exists (omega (arith, left, step.0)) (omega (arith, left, right, step.0))
      ∙ ap (λ (n : ℕ). pos (number_at d z (y - 1) n)) (omega (arith, left, right, step.0))

  north_is : place above k b ≡ pos (number_at d z (y - 1) x)
  north_is = lanes.north k b (omega (arith, step.1)) fits exists (omega (arith, left)) (omega (arith, right))
      ∙ ap (λ (n : ℕ). pos (number_at d z (y - 1) n)) (omega (arith, right))

  -- the local sum of offsets
  sum_is : sum_at f.column numbers above k b ≡ offset_sum (s b).predictor d lanes.cube z y x there lanes.row.0 left
  sum_is =
      let w = west_is in let nw = north_west_is in let n = north_is in
      let ne = lanes.north (k + 1) b (omega (arith, step.1)) fits exists (omega (arith, left)) (omega (arith, left, right)) in
      let east : column_at origin (k + 1) b ≡ x + 1 = omega (arith, left) in
      rw (w, nw, n, ne, before, east, lanes.column, made) refl

  reduced_is : (r : Bool) → f.reduced ≡ r → (s b).predictor.reduced ≡ r
  reduced_is r e = ap (λ (m : Predictor). m.reduced) made ∙ sym lanes.reduced ∙ e

  -- a component after the directional ones
  component_at : (index : ℕ) → first_of f.reduced ≤ index → get_or vector index (pos 0) ≡ lower_difference (s b).predictor d z y x (index - first_of f.reduced + 1)
  component_at index h = elim (cases_Bool f.reduced) [
    | inl r ↦ (let from : first_of f.reduced ≡ 0 = ap first_of r in
        reduced_at (s b).predictor d z y x index (reduced_is true r) ∙ ap (λ (n : ℕ). lower_difference (s b).predictor d z y x n) (omega (arith, from)))
    | inr r ↦ (let from : first_of f.reduced ≡ 3 = ap first_of r in
        full_at (s b).predictor d z y x index (reduced_is false r) (omega (arith, from, h))
        ∙ ap (λ (n : ℕ). lower_difference (s b).predictor d z y x n) (omega (arith, from)))
  ]

  -- and one of those
  module _ (directions : List (List ℤ)) (north : place directions 0 b ≡ pos 4 *ℤ place above k b -ℤ sum_at f.column numbers above k b)
      (west : place directions 1 b ≡ pos 4 *ℤ place numbers (k - 1) b -ℤ sum_at f.column numbers above k b)
      (north_west : place directions 2 b ≡ pos 4 *ℤ place above (k - 1) b -ℤ sum_at f.column numbers above k b) where
    direction_told : (index : ℕ) → index < first_of f.reduced → place directions index b ≡ get_or vector index (pos 0)
    direction_told index h = elim (cases_Bool f.reduced) [
      | inl r ↦ absurd (let from : first_of f.reduced ≡ 0 = ap first_of r in omega (arith, from, h))
      | inr r ↦
          (let from : first_of f.reduced ≡ 3 = ap first_of r in let low : index < 3 = omega (arith, from, h) in
          direction_is index low (rw (sum_is, north_is) at north) (rw (sum_is, west_is, before) at west) (rw (sum_is, north_west_is, before) at north_west)
          ∙ sym (direction_at (s b).predictor d z y x index (reduced_is false r) low
          ∙ ap (λ (us : List ℤ). get_or us index (pos 0)) (directions_told (s b).predictor d lanes.cube z y x there lanes.row.0 left)))
    ]
      where
        direction_is : (index : ℕ) → index < 3 → {u v w : ℤ} → place directions 0 b ≡ u → place directions 1 b ≡ v → place directions 2 b ≡ w
            → place directions index b ≡ get_or (u ∷ v ∷ w ∷ []) index (pos 0)
        direction_is index low {u} {v} {w} a c e = three (λ i. place directions i b ≡ get_or (u ∷ v ∷ w ∷ []) i (pos 0)) a c e index low

    component_told : (index : ℕ) → f.previous ≤ 15 → component_in f.reduced f.previous directions lower own k index b ≡ get_or vector index (pos 0)
    component_told index few = elim (cases_lt index (first_of f.reduced)) [
      | inl direction ↦ sym (component_direction f.reduced f.previous directions lower own k index b direction) ∙ direction_told index direction
      | inr after ↦ elim (cases_lt (index - first_of f.reduced) f.previous) [
        | inl lag ↦ sym (component_lagged f.reduced f.previous directions lower own k index b after lag)
            ∙ lag_told (index - first_of f.reduced + 1) (omega arith) (let same = lanes.previous in omega (arith, lag, same)) (omega (arith, lag, few))
            ∙ sym (component_at index after)
        | inr none ↦ sym (component_none f.reduced f.previous directions lower own k index b after none)
            ∙ sym (component_at index after ∙ lower_none (s b).predictor d z y x (index - first_of f.reduced + 1) (let same = lanes.previous in
            let own = ap (λ (m : Predictor). m.previous) made in omega (arith, none, same, own)))
      ]
    ]

  -- what the step makes
  module _ {numbers' own' weights' : List (List ℤ)} (stepped : IsStepped q f k above lower numbers own weights numbers' own' weights')
      (few : f.previous ≤ 15) (long : length weights ≡ 9) (within : AllWithin (2 ^ (f.omega + 2)) (weights_of q b weights)) where
    abbrev ws : List ℤ
    ws = weights_of q b weights

    ws_long : length ws ≡ 2 * q
    ws_long = weights_long q b weights (let most = lanes.few in omega (arith, long, most))

    abbrev components : List ℤ
    components = weights_of q b stepped.components

    abbrev rest : ℕ
    rest = 2 * q - (s b).count

    vector_is : components ≡ vector ++ replicate rest (pos 0)
    vector_is =
        let size : length vector ≡ (s b).count = vector_length (s b).predictor d z y x ∙ sym (rw band at (s b).count_is) in
        let enough = lanes.enough b fits in
        let long_vector : length (vector ++ replicate rest (pos 0)) ≡ 2 * q =
        omega (arith, length-append vector (replicate rest (pos 0)), length-replicate rest (pos 0), size, enough) in
        let told = component_told stepped.directions (stepped.north b fits) (stepped.west b fits) (stepped.north_west b fits) in
        weights_are q b stepped.components (vector ++ replicate rest (pos 0)) (let most = lanes.few in omega (arith, stepped.long, most)) (omega (arith, long_vector))
        (λ j l. stepped.even j b l fits ∙ told (2 * j) few ∙ sym (padded_at vector rest (2 * j)))
        (λ j l. stepped.odd j b l fits ∙ told (2 * j + 1) few ∙ sym (padded_at vector rest (2 * j + 1)))
        ∙ take_all (2 * q) (vector ++ replicate rest (pos 0)) (omega (arith, long_vector))

    abbrev central : ℤ
    central = central_difference (s b).predictor d z y x

    abbrev t : ℕ
    t = y * d.shape.columns + x

    abbrev part : ℤ
    part = stepped.part b

    first_step : AreStepsThere (s b) d f.omega f.bits f.exponent y x
    first_step = lanes.steps b k fits (omega (arith, right))

    ws_within : AllWithin (2 ^ ((s b).predictor.omega + 2)) ws
    ws_within = subst (λ (n : ℕ). AllWithin (2 ^ (n + 2)) ws) first_step.omega_is within

    bits_are : f.bits ≡ d.kind.bits
    bits_are = first_step.bits_are ∙ (s b).range.bits_is ∙ ap (λ (n : SampleKind). n.bits) (sym (lanes.kind b fits))

    predicted : IsPart d.kind.bits (floor_div (inner_product ws components) (2 ^ (s b).predictor.omega)) part
    predicted = rw (← bits_are, ← first_step.omega_is) (stepped.predicted b fits)

    abbrev whole : ℤ
    whole = local_sum (s b).predictor d z y x

    there_banded : IsPlace d.shape (s b).band y x
    there_banded = rw band there

    scaled : scaled_there (s b).predictor d z y x (take (s b).count ws) ≡ scaled_by_difference d.kind part whole
    scaled = rw band at (place_scaled q (s b) d y x lanes.cube there_banded (omega (arith, left)) (lanes.columns b fits) (lanes.enough b fits)
        (lanes.register b fits) components (rw band vector_is) ws ws_long ws_within part predicted)

    after_start : 0 < t
    after_start = let row = mul-le 1 1 y d.shape.columns lanes.row.0 (omega (arith, right)) in omega (arith, row)

    -- the residual there is that of the sample by this prediction
    number_told : mapped d.kind (scaled_by_difference d.kind part whole) (sample_at d z y x) ≡ mapped_residual p d z t
    number_told =
        let at = now.weights_at b mine exists (omega (arith, right)) in
        residual_by p (s b).predictor d z t y x (take (s b).count ws) at.predictor after_start refl there.column at.weights _
        (ap (λ v. mapped d.kind v (sample_at d z y x)) (sym scaled))

    offset_is : place numbers' k b ≡ pos (number_at d z y x)
    offset_is =
        let told = sum_told (s b).predictor d lanes.cube z y x there lanes.row.0 left in
        stepped.number b fits ∙ ap (offset_by f.greatest part (sum_at f.column numbers above k b)) (now.residuals k b (omega arith) step.1 fits exists left right)
        ∙ offset_found d z y x f.greatest part (sum_at f.column numbers above k b) whole (mapped_residual p d z t) lanes.cube there lanes.greatest
        (rw sum_is (sym told)) number_told

    central_is : place own' k b ≡ central
    central_is =
        stepped.central b fits ∙ rw (offset_is, sum_is) (sym (central_told (s b).predictor d lanes.cube z y x there lanes.row.0 left))

    weights_next : take (s b).count (weights_of q b weights') ≡ weight_vector p d z (t + 1)
    weights_next =
        let at = now.weights_at b mine exists (omega (arith, right)) in
        let next = place_next q (s b) d y x lanes.cube there_banded (omega (arith, left)) (lanes.columns b fits) (lanes.enough b fits) (lanes.register b fits)
        components (rw band vector_is) ws ws_long ws_within part predicted (weights_of q b weights') f.omega f.exponent (place own' k b) first_step.omega_is
        first_step.exponent_is (rw band central_is) (stepped.updated b fits) in
        follows_by p (s b).predictor d z t y x (take (s b).count ws) at.predictor after_start refl there.column at.weights
        (take (s b).count (weights_of q b weights')) (rw band at next)

-- ---- one step more, in all lanes

pub step_more : {q : ℕ} {f : WaveForm} {p : Params} {s : ℕ → Settings} {d : Image} {first y origin last n k : ℕ}
    {above : List (List ℤ)} {lower : Lower} {numbers own weights numbers' own' weights' : List (List ℤ)} → f.previous ≤ 15 → AreLanes q f p s d first y origin last above lower
    → (8 ≤ k) × (k < last) → (n ≤ 8) × (n + 7 ≤ origin + k) → IsStepped q f k above lower numbers own weights numbers' own' weights' → length weights ≡ 9
    → ((b : ℕ) → b < 8 → AllWithin (2 ^ (f.omega + 2)) (weights_of q b weights))
    → AreInStep q p s d first y origin last n k numbers own weights → AreInStep q p s d first y origin last n (k + 1) numbers' own' weights'
step_more {q} {f} {p} {s} {d} {first} {y} {origin} {last} {n} {k} {numbers = numbers} {own = own} {numbers' = numbers'} {own' = own'} near lanes step begun stepped long within now = record {
  offsets = λ i b low high mine exists left right. elim (cases_eq i k) [
    | inl here ↦ rw here (offset_is lanes k step begun now b mine exists (rw here at right) stepped near long (within b (omega (arith, mine, begun.0))))
    | inr apart ↦ stepped.numbers_kept i b apart ∙ now.offsets i b low (omega (arith, high, apart)) mine exists left right
  ];
  residuals = λ i b low high fits exists left right. stepped.numbers_kept i b (λ e. omega (arith, e, low)) ∙ now.residuals i b (omega (arith, low)) high fits exists left right;
  centrals = λ i b low high mine exists left right. elim (cases_eq i k) [
    | inl here ↦ rw here (central_is lanes k step begun now b mine exists (rw here at right) stepped near long (within b (omega (arith, mine, begun.0)))
        ∙ ap (λ (m : Predictor). central_difference m d (first + b) y (column_at origin k b)) (lanes.predictor b (omega (arith, mine, begun.0))))
    | inr apart ↦ stepped.own_kept i b apart ∙ now.centrals i b low (omega (arith, high, apart)) mine exists left right
  ];
  weights_at = λ b mine exists bound.
      let next : column_at origin (k + 1) b ≡ column_at origin k b + 1 = omega (arith, mine, begun.1) in
      let right : column_at origin k b < d.shape.columns = omega (arith, next, bound) in record {
        predictor = (now.weights_at b mine exists (omega (arith, right))).predictor;
        weights = weights_next lanes k step begun now b mine exists right stepped near long (within b (omega (arith, mine, begun.0)))
            ∙ ap (weight_vector p d (first + b)) (next_time (y * d.shape.columns) b next);
      };
}
  where
    next_time : (row b : ℕ) → column_at origin (k + 1) b ≡ column_at origin k b + 1 → row + column_at origin k b + 1 ≡ row + column_at origin (k + 1) b
    next_time row b next = omega (arith, next)
