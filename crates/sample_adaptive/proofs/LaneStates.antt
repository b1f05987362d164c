-- The states of bands of a column after eight of them in lanes.
use Rattle.std.proofs.Common.{◌≡◌, ℕ, zero, suc, ◌+◌, ◌-◌, ◌/◌, ◌^◌, ◌<◌, ◌≤◌, eqb, List, length, set, refl, sym, ap, ap₂, subst, ◌∙◌, inl, inr, arith}
use Rattle.std.proofs.lemmas.Bool.{cases_eq, cases_lt, eq-eqb, ne_eqb, lt-ltb, le-ltb}
use mir.Val.{bool_byte}
use Rattle.std.proofs.lemmas.List.{get_or-set_same, get_or-set_other, length-set}
use Rattle.lanes.specs.Lanes.{number}
use Rattle.sample_adaptive.specs.declared.band_state.BandState.{BandState}
use Rattle.sample_adaptive.specs.declared.code_settings.CodeSettings.{CodeSettings}
use Rattle.sample_adaptive.specs.declared.statistics.Statistics.{Statistics}
use Rattle.sample_adaptive.specs.BandStates.{AreBandStates, state_of, no_state}
use Rattle.sample_adaptive.specs.ColumnLanes.{with_lanes}
use Rattle.sample_adaptive.specs.Statistics.{AreStatistics, next_statistics}
use Rattle.sample_adaptive.proofs.Tracking.{state_set}

-- numbers that are gathered one by one
pub one_more_lane : (xs : List ℕ) (wanted : ℕ → ℕ) (i x n : ℕ) → length xs ≡ n → i < n → x ≡ wanted i → ((k : ℕ) → k < i → number xs k ≡ wanted k)
    → (k : ℕ) → k < i + 1 → number (set xs i x) k ≡ wanted k
one_more_lane xs wanted i x n long inside is before k lt =
    elim (cases_eq k i) [
      | inl e ↦ subst (λ k. number (set xs i x) k ≡ wanted k) (sym e) (get_or-set_same xs i x 0 (omega (arith, long, inside)) ∙ is)
      | inr other ↦ get_or-set_other xs i k x 0 other ∙ before k (omega (arith, lt, other))
    ]

module _ (bands : List BandState) (at counter : ℕ) (accumulators : List ℕ) where
  -- the state of a band with the statistics of its lane
  abbrev pub lane_state : List BandState → ℕ → BandState
  lane_state now n = record (state_of now (at + n)) { statistics = record { counter = counter; accumulator = number accumulators n } }

  pub no_lanes : with_lanes bands at counter accumulators 0 ≡ bands
  unfolding with_lanes
  no_lanes = refl

  pub one_lane_more : (n : ℕ) → with_lanes bands at counter accumulators (n + 1)
      ≡ set (with_lanes bands at counter accumulators n) (at + n) (lane_state (with_lanes bands at counter accumulators n) n)
  unfolding with_lanes
  one_lane_more n = let e : n + 1 ≡ suc n = omega arith in rw e refl

  pub lanes_count : (n : ℕ) → length (with_lanes bands at counter accumulators n) ≡ length bands
  unfolding with_lanes
  lanes_count zero = refl
  lanes_count (suc n) =
      length-set (with_lanes bands at counter accumulators n) (at + n) (lane_state (with_lanes bands at counter accumulators n) n) ∙ lanes_count n

  -- the bands above them are as before
  pub later_lane : (n m : ℕ) → at + n ≤ m → state_of (with_lanes bands at counter accumulators n) m ≡ state_of bands m
  unfolding with_lanes
  later_lane zero m le = refl
  later_lane (suc n) m le =
      get_or-set_other (with_lanes bands at counter accumulators n) (at + n) m (lane_state (with_lanes bands at counter accumulators n) n) no_state (λ e. omega (arith, e, le))
      ∙ later_lane n m (omega (arith, le))

  pub lane_states : (settings : CodeSettings) (n : ℕ) → at + n ≤ length bands → AreBandStates settings bands
      → ((j : ℕ) → j < n → AreStatistics settings.rescaling.size (record { counter = counter; accumulator = number accumulators j }))
      → AreBandStates settings (with_lanes bands at counter accumulators n)
  unfolding with_lanes
  lane_states settings zero inside was statistics = was
  lane_states settings (suc n) inside was statistics =
      let before : List BandState = with_lanes bands at counter accumulators n in
      let here : at + n < length before = omega (arith, inside, lanes_count n) in
      let states = lane_states settings n (omega (arith, inside)) was (λ j lt. statistics j (omega (arith, lt))) in
      let old = states (at + n) here in
      state_set settings before (at + n) (lane_state before n) here (record { statistics = statistics n (omega arith); k = old.k }) states

-- the statistics of a lane with one more residual
pub next_lane : (size : ℕ) (s : Statistics) (x h : ℕ) → AreStatistics size s → h ≡ bool_byte (eqb s.counter (2 ^ size - 1))
    → record { counter = (s.counter + 1) / 2 ^ h; accumulator = (s.accumulator + x + h) / 2 ^ h } ≡ next_statistics size s x
unfolding next_statistics
next_lane size s x h range is =
    elim (cases_lt s.counter (2 ^ size - 1)) [
      | inl lt ↦ (let e : h ≡ 0 = is ∙ ap bool_byte (ne_eqb s.counter (2 ^ size - 1) (λ e. omega (arith, e, lt))) in
          rw (e, lt-ltb s.counter (2 ^ size - 1) lt) (ap₂ (λ (p q : ℕ). record { counter = p; accumulator = q }) (omega arith) (omega arith)))
      | inr full ↦ (let e : h ≡ 1 = is ∙ ap bool_byte (eq-eqb s.counter (2 ^ size - 1) (omega (arith, full, range.most))) in
          rw (e, le-ltb s.counter (2 ^ size - 1) full) refl)
    ]
