-- Columns of code words: one residual more, several in lanes, and a column after another.
use Rattle.std.proofs.Common.{◌≡◌, ◌+◌, ◌<◌, ◌≤◌, ◌++◌, List, [], ◌∷◌, Bool, ℕ, zero, suc, length, take, drop, get_or, set, refl, sym, ap, ◌∙◌, append-nil, append_assoc, length-take, arith}
use Rattle.std.proofs.lemmas.Bool.{ne_eqb}
use Rattle.std.proofs.Math.Seq.{take-add}
use Rattle.lanes.specs.Lanes.{number}
use Rattle.sample_adaptive.specs.declared.band_state.BandState.{BandState}
use Rattle.sample_adaptive.specs.declared.code_settings.CodeSettings.{CodeSettings}
use Rattle.sample_adaptive.specs.declared.statistics.Statistics.{Statistics}
use Rattle.sample_adaptive.specs.Statistics.{next_statistics, code_parameter}
use Rattle.sample_adaptive.specs.Words.{code_word}
use Rattle.sample_adaptive.specs.Runs.{code_with}
use Rattle.sample_adaptive.specs.Taken.{CoderState, HasSettings, Writes, WritesColumn, code_by, counted, of_band, with_band}
use Rattle.sample_adaptive.specs.BandStates.{state_of, statistics_of}
use Rattle.sample_adaptive.specs.ColumnLanes.{with_lanes}
use Rattle.word_lanes.specs.EightWords.{texts}
use Rattle.sample_adaptive.proofs.LaneStates.{lane_state, no_lanes, one_lane_more, lanes_count, later_lane}
use Rattle.sample_adaptive.proofs.Tracking.{settings_stay, statistics_at}
use Rattle.sample_adaptive.proofs.Writing.{column_more, writes_after}

-- residuals of a column, from band z on, are written as far as `now`
abbrev pub Puts : CodeSettings → ℕ → List ℕ → List BandState → List BandState → List Bool → List Bool → ℕ → Type 0
Puts settings z residuals first bands before now i =
    (v : CoderState) (t : ℕ) → 0 < t → v.bands ≡ statistics_of first → HasSettings v settings.bits settings.limit settings.rescaling.size
    → WritesColumn z t (take i residuals) v before (record v { bands = statistics_of bands }) now

-- the code of a later residual, by what is kept of its band
pub code_seen : (v : CoderState) (z t bits limit size k : ℕ) (s : Statistics) → 0 < t → HasSettings v bits limit size → of_band v.bands z ≡ s → k ≡ code_parameter bits s
    → record { limit = limit; k = k; bits = bits } ≡ code_by v z t
code_seen v z t bits limit size k s some has own is = rw (ne_eqb t 0 (λ e. omega (arith, some, e)), own, has.bits_are, has.umax_is, is) refl

-- one residual more
pub one_more : (settings : CodeSettings) (z i at : ℕ) (residual : ℕ) (residuals : List ℕ) (first bands : List BandState) (kept : BandState) (before was now : List Bool) → at ≡ z + i
    → i < length residuals → at < length bands → residual ≡ get_or residuals i 0
    → ((v : CoderState) (b t : ℕ) → 0 < t → HasSettings v settings.bits settings.limit settings.rescaling.size → of_band v.bands b ≡ (state_of bands at).statistics
    → now ≡ was ++ code_word (code_by v b t) residual)
    → ((v : CoderState) (b t : ℕ) → 0 < t → HasSettings v settings.bits settings.limit settings.rescaling.size → of_band v.bands b ≡ (state_of bands at).statistics
    → counted v b t residual ≡ with_band v b kept.statistics)
    → Puts settings z residuals first bands before was i → Puts settings z residuals first (set bands at kept) before now (i + 1)
one_more settings z i at residual residuals first bands kept before was now e lt inside there text counts puts = λ v t some same has.
    let old : CoderState = record v { bands = statistics_of bands } in
    let own = statistics_at bands at inside in
    rw e (column_more z t i residual v bands kept residuals before was now lt there (rw e at (text old at t some (settings_stay has) own))
    (rw e at (counts old at t some (settings_stay has) own)) (puts v t some same has))

-- ---- several in lanes

texts_more : (text : ℕ → List Bool) (i n : ℕ) → texts text i (suc n) ≡ texts text i n ++ text (i + n)
texts_more text i zero = let e : i + 0 ≡ i = omega arith in append-nil (text i) ∙ ap text (sym e)
texts_more text i (suc n) =
    let e : suc i + n ≡ i + suc n = omega arith in
    ap (λ (bits : List Bool). text i ++ bits) (texts_more text (suc i) n ∙ ap (λ j. texts text (suc i) n ++ text j) e)
    ∙ sym (append_assoc (text i) (texts text (suc i) n) (text (i + suc n)))

-- one text more
pub texts_after : (text : ℕ → List Bool) (n : ℕ) → texts text 0 (n + 1) ≡ texts text 0 n ++ text n
texts_after text n =
    let e : n + 1 ≡ suc n = omega arith in let f : 0 + n ≡ n = omega arith in
    ap (texts text 0) e ∙ texts_more text 0 n ∙ ap (λ j. texts text 0 n ++ text j) f

module _ (settings : CodeSettings) (at counter : ℕ) (accumulators residuals : List ℕ) (bands : List BandState) (text : ℕ → List Bool) (before : List Bool) where
  pub lanes_put : (n : ℕ) → n ≤ length residuals → at + n ≤ length bands
      → ((j : ℕ) → j < n → text j ≡ code_word (code_with settings (state_of bands (at + j)).statistics) (get_or residuals j 0))
      → ((j : ℕ) → j < n → record { counter = counter; accumulator = number accumulators j } ≡ next_statistics settings.rescaling.size (state_of bands (at + j)).statistics (get_or residuals j 0))
      → Puts settings at residuals bands (with_lanes bands at counter accumulators n) before (before ++ texts text 0 n) n
  lanes_put zero few inside words statistics = λ v t some same has. (rw (no_lanes bands at counter accumulators, ← same) refl, append-nil before)
  lanes_put (suc n) few inside words statistics =
      let now : List BandState = with_lanes bands at counter accumulators n in
      let next : n + 1 ≡ suc n = omega arith in
      let own = later_lane bands at counter accumulators n (at + n) (omega arith) in
      let begun = lanes_put n (omega (arith, few)) (omega (arith, inside)) (λ j lt. words j (omega (arith, lt))) (λ j lt. statistics j (omega (arith, lt))) in
      let more : before ++ texts text 0 (suc n) ≡ (before ++ texts text 0 n) ++ text n =
      ap (λ (bits : List Bool). before ++ bits) (texts_more text 0 n ∙ (let e : 0 + n ≡ n = omega arith in ap (λ j. texts text 0 n ++ text j) e))
      ∙ sym (append_assoc before (texts text 0 n) (text n)) in
      let s : Statistics = (state_of bands (at + n)).statistics in
      let x : ℕ = get_or residuals n 0 in
      rw (← next, one_lane_more bands at counter accumulators n) (one_more settings at n (at + n) (get_or residuals n 0) residuals bands now
      (lane_state bands at counter accumulators now n) before (before ++ texts text 0 n) (before ++ texts text 0 (suc n)) refl (omega (arith, few))
      (omega (arith, inside, lanes_count bands at counter accumulators n)) refl
      (λ v b t some has same. more ∙ ap (λ (bits : List Bool). (before ++ texts text 0 n) ++ bits) (words n (omega arith) ∙ ap (λ code. code_word code x)
      (code_seen v b t settings.bits settings.limit settings.rescaling.size (code_parameter settings.bits s) s some has (same ∙ ap (λ (k : BandState). k.statistics) own) refl)))
      (λ v b t some has same. rw (ne_eqb t 0 (λ e. omega (arith, some, e)), has.size_is, same ∙ ap (λ (k : BandState). k.statistics) own, ← statistics n (omega arith)) refl)
      begun)

-- ---- a column after another

pub writes_same : (zs ts zs' ts' : ℕ → ℕ) (k k' : ℕ) (xs : List ℕ) (old new : CoderState) (written now : List Bool)
    → ((j : ℕ) → zs (k + j) ≡ zs' (k' + j)) → ((j : ℕ) → ts (k + j) ≡ ts' (k' + j))
    → Writes zs ts k xs old written new now → Writes zs' ts' k' xs old written new now
writes_same zs ts zs' ts' k k' [] old new written now p q w = w
writes_same zs ts zs' ts' k k' (x ∷ xs) old new written now p q w =
    let a : k + 0 ≡ k = omega arith in let b : k' + 0 ≡ k' = omega arith in
    let z : zs k ≡ zs' k' = ap zs (sym a) ∙ p 0 ∙ ap zs' b in
    let t : ts k ≡ ts' k' = ap ts (sym a) ∙ q 0 ∙ ap ts' b in
    let here = rw (z, t) at w in
    writes_same zs ts zs' ts' (k + 1) (k' + 1) xs _ new _ now
    (λ j. (let e : k + 1 + j ≡ k + (1 + j) = omega arith in let f : k' + (1 + j) ≡ k' + 1 + j = omega arith in ap zs e ∙ p (1 + j) ∙ ap zs' f))
    (λ j. (let e : k + 1 + j ≡ k + (1 + j) = omega arith in let f : k' + (1 + j) ≡ k' + 1 + j = omega arith in ap ts e ∙ q (1 + j) ∙ ap ts' f)) here

pub column_after : (z t i n : ℕ) (residuals : List ℕ) (old mid new : CoderState) (written written_mid now : List Bool) → i ≤ length residuals
    → WritesColumn z t (take i residuals) old written mid written_mid → WritesColumn (z + i) t (take n (drop i residuals)) mid written_mid new now
    → WritesColumn z t (take (i + n) residuals) old written new now
column_after z t i n residuals old mid new written written_mid now few first second =
    let long : length (take i residuals) ≡ i = omega (arith, length-take i residuals, few) in
    let start : 0 + length (take i residuals) ≡ i = omega (arith, long) in
    let moved = writes_same (λ j. z + i + j) (λ j. t) (λ j. z + j) (λ j. t) 0 i (take n (drop i residuals)) mid new written_mid now (λ j. omega arith) (λ j. refl) second in
    rw (take-add i n residuals) (writes_after (λ j. z + j) (λ j. t) 0 (take i residuals) (take n (drop i residuals)) old mid new written written_mid now first (rw start moved))
