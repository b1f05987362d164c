-- Eight residuals of a column that are read at once.
use Rattle.std.proofs.Common.{◌≡◌, ◌+◌, ◌-◌, ◌^◌, ◌<◌, ◌≤◌, ℕ, zero, suc, Bool, List, length, get_or, set, refl, sym, ap, ◌∙◌, inl, inr, arith, subst}
use Rattle.std.proofs.lemmas.Bool.{cases_eq, ne_eqb}
use Rattle.std.proofs.lemmas.List.{get_or-set_same, get_or-set_other, set-get_or}
use Rattle.header_bits.specs.Bits.{Unread}
use Rattle.lanes.specs.Lanes.{number}
use Rattle.sample_adaptive.specs.declared.band_state.BandState.{BandState}
use Rattle.sample_adaptive.specs.declared.code_settings.CodeSettings.{CodeSettings}
use Rattle.sample_adaptive.specs.declared.code_word.Code.{Code}
use Rattle.sample_adaptive.specs.declared.statistics.Statistics.{Statistics}
use Rattle.sample_adaptive.specs.declared.word_parts.WordParts.{WordParts}
use Rattle.sample_adaptive.specs.BandStates.{state_of, statistics_of}
use Rattle.sample_adaptive.specs.ColumnLanes.{with_lanes}
use Rattle.sample_adaptive.specs.Statistics.{next_statistics, code_parameter}
use Rattle.sample_adaptive.specs.Taken.{CoderState, HasSettings, Reaches, counted, of_band, with_band}
use Rattle.sample_adaptive.specs.Runs.{code_with}
use Rattle.sample_adaptive.specs.Words.{IsCode}
use Rattle.sample_adaptive.specs.WordParts.{InSteps, IsPartNext, IsPlainNext, IsWordNext, spelt_by, zeros_of}
use Rattle.sample_adaptive.proofs.Columns.{code_seen}
use Rattle.sample_adaptive.proofs.LaneStates.{lane_state, no_lanes, one_lane_more, lanes_count, later_lane}
use Rattle.sample_adaptive.proofs.PlacesRead.{steps}
use Rattle.sample_adaptive.proofs.Tracking.{settings_stay, statistics_at, statistics_count, column_set}
use Rattle.sample_adaptive.proofs.WordParts.{other_steps}

-- one number more of those that are put into a list
pub one_put_more : (xs numbers : List ℕ) (i j : ℕ) → i + j < length xs → ((k : ℕ) → k < j → get_or xs (i + k) 0 ≡ number numbers k)
    → (k : ℕ) → k < j + 1 → get_or (set xs (i + j) (number numbers j)) (i + k) 0 ≡ number numbers k
one_put_more xs numbers i j inside before k lt =
    elim (cases_eq k j) [
      | inl e ↦ subst (λ k. get_or (set xs (i + j) (number numbers j)) (i + k) 0 ≡ number numbers k) (sym e) (get_or-set_same xs (i + j) (number numbers j) 0 inside)
      | inr other ↦ get_or-set_other xs (i + j) (i + k) (number numbers j) 0 (λ e. other (omega (arith, e))) ∙ before k (omega (arith, lt, other))
    ]

pub unread_same : (u : Unread) (n : ℕ) → u.count ≡ n → record { count = n; left = u.left } ≡ u
unread_same u n e = rw (← e) refl

module _ (settings : CodeSettings) (z t index i counter : ℕ) (accumulators numbers residuals : List ℕ) (bands : List BandState) (v : CoderState) (first was : Unread) where
  pub lanes_reached : (n : ℕ) (left : List Bool) → 0 < t → HasSettings v settings.bits settings.limit settings.rescaling.size → i + n ≤ length residuals → z + i + n ≤ length bands
      → ((j : ℕ) → j < n → get_or residuals (i + j) 0 ≡ number numbers j)
      → ((j : ℕ) → j < n → record { counter = counter; accumulator = number accumulators j } ≡ next_statistics settings.rescaling.size (state_of bands (z + i + j)).statistics (number numbers j))
      → Reaches (λ i. z + i) (λ i. t) 0 index i v (record v { bands = statistics_of bands }) first was residuals
      → InSteps (IsWordNext settings bands (z + i) numbers) n was.left left
      → Reaches (λ i. z + i) (λ i. t) 0 index (i + n) v (record v { bands = statistics_of (with_lanes bands (z + i) counter accumulators n) }) first
      (record { count = was.count; left = left }) residuals
  unfolding InSteps
  lanes_reached zero left some has few inside same statistics reach h =
      let e : i + 0 ≡ i = omega arith in rw (e, h, no_lanes bands (z + i) counter accumulators) reach
  lanes_reached (suc n) left some has few inside same statistics reach h =
      let at : ℕ = z + i in
      let now : List BandState = with_lanes bands at counter accumulators n in
      let s : Statistics = (state_of bands (at + n)).statistics in
      let w : CoderState = record v { bands = statistics_of now } in
      let b : ℕ = z + (0 + (i + n)) in
      let x : ℕ = number numbers n in
      let before = lanes_reached n h.0 some has (omega (arith, few)) (omega (arith, inside)) (λ j lt. same j (omega (arith, lt))) (λ j lt. statistics j (omega (arith, lt))) reach h.1 in
      let here : at + n ≡ b = omega arith in
      let there : at + n < length now = omega (arith, inside, lanes_count bands at counter accumulators n) in
      let own : of_band (statistics_of now) b ≡ s = ap (of_band (statistics_of now)) (sym here) ∙ statistics_at now (at + n) there
      ∙ ap (λ (k : BandState). k.statistics) (later_lane bands at counter accumulators n (at + n) (omega arith)) in
      let code = code_seen w b t settings.bits settings.limit settings.rescaling.size (code_parameter settings.bits s) s some (settings_stay has) own refl in
      let counts : counted w b t x ≡ with_band w b (lane_state bands at counter accumulators now n).statistics =
      rw (ne_eqb t 0 (λ e. omega (arith, some, e)), has.size_is, own, ← statistics n (omega arith)) refl in
      let whole : set residuals (i + n) x ≡ residuals = ap (set residuals (i + n)) (sym (same n (omega arith))) ∙ set-get_or residuals (i + n) 0 in
      let next : n + 1 ≡ suc n = omega arith in
      let order : i + (n + 1) ≡ i + n + 1 = omega arith in
      let reached = steps before {now = record { count = was.count; left = left }} (omega (arith, here, there, statistics_count now)) (omega (arith, few)) (rw (← code) (h.2 was.count (index + (i + n)))) refl
      (counts ∙ column_set v now (lane_state bands at counter accumulators now n) here) in
      rw (← next, order, one_lane_more bands at counter accumulators n) (rw whole at reached)

-- ---- the words of eight bands, from their parts

pub words_read : (settings : CodeSettings) (bands : List BandState) (at : ℕ) (ks ends numbers : List ℕ) (parts : WordParts) (n : ℕ) (bits left : List Bool)
    → ((j : ℕ) → j < n → number ends j ≡ number ks j + 64) → ((j : ℕ) → j < n → number ks j ≡ code_parameter settings.bits (state_of bands (at + j)).statistics) → ((j : ℕ) → j < n → number ks j + 2 ≤ settings.bits)
    → ((j : ℕ) → j < n → (zeros_of parts j < settings.limit) × (spelt_by (number ks j) (zeros_of parts j) (number parts.endings j) < 2 ^ settings.bits))
    → ((j : ℕ) → j < n → number numbers j ≡ spelt_by (number ks j) (zeros_of parts j) (number parts.endings j))
    → InSteps (IsPartNext ends parts) n bits left → InSteps (IsWordNext settings bands at numbers) n bits left
words_read settings bands at ks ends numbers parts n bits left end value few lawful same h =
    other_steps (IsPartNext ends parts) (IsWordNext settings bands at numbers) n bits left
    (λ j lt from to was count index.
    let code : Code = code_with settings (state_of bands (at + j)).statistics in
    let is_code : IsCode code = record { limit = settings.limit_in; k = omega (arith, few j lt, value j lt); bits = settings.bits_in.1 } in
    let k : number ends j - 64 ≡ number ks j = omega (arith, end j lt) in
    let plain = subst (λ (n : ℕ). IsPlainNext n (zeros_of parts j) (number parts.endings j) from to) k was in
    rw (same j lt) (plain count index code is_code (sym (value j lt)) (lawful j lt).0 (lawful j lt).1))
    h
