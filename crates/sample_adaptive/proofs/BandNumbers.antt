-- Bands whose counters, accumulators and code parameters stand in a list each.
use Rattle.std.proofs.Common.{◌≡◌, ℕ, zero, suc, ◌+◌, ◌<◌, ◌≤◌, List, [], ◌∷◌, length, drop, get_or, set, refl, sym, ap, ◌∙◌, arith}
use Rattle.std.proofs.lemmas.List.{get_or_default, length-set, set-get_or}
use Rattle.lanes.specs.Lanes.{number}
use Rattle.sample_adaptive.specs.declared.band_state.BandState.{BandState}
use Rattle.sample_adaptive.specs.BandStates.{state_of, states_of}
use Rattle.sample_adaptive.specs.ColumnLanes.{with_lanes, with_numbers}
use Rattle.sample_adaptive.proofs.LaneStates.{lane_state}

-- a band of these three numbers
abbrev pub state_with : ℕ → ℕ → ℕ → BandState
state_with counter accumulator k = record { statistics = record { counter = counter; accumulator = accumulator }; k = k }

pub states_count : (counters accumulators parameters : List ℕ) → length (states_of counters accumulators parameters) ≡ length counters
states_count [] accumulators parameters = refl
states_count (counter ∷ counters) accumulators parameters = ap suc (states_count counters (drop 1 accumulators) (drop 1 parameters))

-- a number after the first one
after_first : (xs : List ℕ) (z : ℕ) → get_or (drop 1 xs) z 0 ≡ get_or xs (suc z) 0
after_first [] z = refl
after_first (x ∷ xs) z = refl

pub state_at : (counters accumulators parameters : List ℕ) (z : ℕ) → z < length counters
    → state_of (states_of counters accumulators parameters) z ≡ state_with (get_or counters z 0) (get_or accumulators z 0) (get_or parameters z 0)
state_at [] accumulators parameters z lt = absurd (omega (arith, lt))
state_at (counter ∷ counters) accumulators parameters zero lt = refl
state_at (counter ∷ counters) accumulators parameters (suc z) lt =
    rw (← after_first accumulators z, ← after_first parameters z) (state_at counters (drop 1 accumulators) (drop 1 parameters) z (omega (arith, lt)))

pub states_set : (counters accumulators parameters : List ℕ) (z counter accumulator k : ℕ) → z < length accumulators → z < length parameters
    → states_of (set counters z counter) (set accumulators z accumulator) (set parameters z k)
    ≡ set (states_of counters accumulators parameters) z (state_with counter accumulator k)
states_set [] accumulators parameters z counter accumulator k some more = refl
states_set (c ∷ counters) [] parameters z counter accumulator k some more = absurd (omega (arith, some))
states_set (c ∷ counters) (a ∷ accumulators) [] z counter accumulator k some more = absurd (omega (arith, more))
states_set (c ∷ counters) (a ∷ accumulators) (p ∷ parameters) zero counter accumulator k some more = refl
states_set (c ∷ counters) (a ∷ accumulators) (p ∷ parameters) (suc z) counter accumulator k some more =
    ap (λ bands. state_with c a p ∷ bands) (states_set counters accumulators parameters z counter accumulator k (omega (arith, some)) (omega (arith, more)))

-- ---- a band, by its numbers

module _ (counters accumulators parameters : List ℕ) (bands : List BandState) (z : ℕ) (same : states_of counters accumulators parameters ≡ bands)
    (inside : z < length counters) where
  pub counter_at : get_or counters z 0 ≡ (state_of bands z).statistics.counter
  counter_at = rw (← same) (sym (ap (λ (t : BandState). t.statistics.counter) (state_at counters accumulators parameters z inside)))

  pub accumulator_at : get_or accumulators z 0 ≡ (state_of bands z).statistics.accumulator
  accumulator_at = rw (← same) (sym (ap (λ (t : BandState). t.statistics.accumulator) (state_at counters accumulators parameters z inside)))

  pub state_is : (counter accumulator k : ℕ) → length accumulators ≡ length counters → length parameters ≡ length counters
      → counter ≡ get_or counters z counter → accumulator ≡ get_or accumulators z accumulator → k ≡ get_or parameters z k
      → state_with counter accumulator k ≡ state_of bands z
  state_is counter accumulator k sums ks one two three =
      let p : get_or counters z 0 ≡ counter = get_or_default counters z 0 counter inside ∙ sym one in
      let q : get_or accumulators z 0 ≡ accumulator = get_or_default accumulators z 0 accumulator (omega (arith, inside, sums)) ∙ sym two in
      let r : get_or parameters z 0 ≡ k = get_or_default parameters z 0 k (omega (arith, inside, ks)) ∙ sym three in
      rw (← same) (sym (rw (p, q, r) at (state_at counters accumulators parameters z inside)))

-- ---- several bands

pub numbers_count : (xs : List ℕ) (at : ℕ) (lanes : List ℕ) (n : ℕ) → length (with_numbers xs at lanes n) ≡ length xs
unfolding with_numbers
numbers_count xs at lanes zero = refl
numbers_count xs at lanes (suc n) = length-set (with_numbers xs at lanes n) (at + n) (number lanes n) ∙ numbers_count xs at lanes n

pub no_numbers : (xs : List ℕ) (at : ℕ) (lanes : List ℕ) → with_numbers xs at lanes 0 ≡ xs
unfolding with_numbers
no_numbers xs at lanes = refl

pub one_number_more : (xs : List ℕ) (at : ℕ) (lanes : List ℕ) (n : ℕ) → with_numbers xs at lanes (n + 1) ≡ set (with_numbers xs at lanes n) (at + n) (number lanes n)
unfolding with_numbers
one_number_more xs at lanes n = let e : n + 1 ≡ suc n = omega arith in rw e refl

module _ (counters accumulators parameters : List ℕ) (at counter : ℕ) (same lanes : List ℕ) where
  pub states_with : (n : ℕ) → ((j : ℕ) → j < n → number same j ≡ counter) → at + n ≤ length counters → length accumulators ≡ length counters → length parameters ≡ length counters
      → states_of (with_numbers counters at same n) (with_numbers accumulators at lanes n) parameters
      ≡ with_lanes (states_of counters accumulators parameters) at counter lanes n
  unfolding with_numbers with_lanes
  states_with zero each inside sums ks = refl
  states_with (suc n) each inside sums ks =
      let cs : List ℕ = with_numbers counters at same n in
      let sums_now : List ℕ = with_numbers accumulators at lanes n in
      let before : List BandState = states_of cs sums_now parameters in
      let z : ℕ = at + n in
      let k : ℕ = get_or parameters z 0 in
      let was = states_with n (λ j lt. each j (omega (arith, lt))) (omega (arith, inside)) sums ks in
      let here = state_at cs sums_now parameters z (omega (arith, inside, numbers_count counters at same n)) in
      let put = states_set cs sums_now parameters z (number same n) (number lanes n) k (omega (arith, inside, sums, numbers_count accumulators at lanes n)) (omega (arith, inside, ks)) in
      let one : set before z (state_with (number same n) (number lanes n) k) ≡ set before z (record (state_of before z) { statistics = record { counter = counter; accumulator = number lanes n } }) =
      rw (each n (omega arith), here) refl in
      rw (← was) (rw (set-get_or parameters z 0) at put ∙ one)
