-- Numbers written one after another, and what runs and columns of them have taken.
use Rattle.std.proofs.Common.{◌≡◌, ◌+◌, ◌<◌, ◌≤◌, ℕ, suc, Bool, true, false, cond, eqb, List, [], ◌∷◌, ◌++◌, length, take, get_or, set}
use Rattle.std.proofs.Common.{refl, length-take, arith}
use Rattle.std.proofs.lemmas.List.{length-set, take_more}
use Rattle.sample_adaptive.specs.declared.statistics.Statistics.{Statistics}
use Rattle.sample_adaptive.specs.declared.band_state.BandState.{BandState}
use Rattle.sample_adaptive.specs.Statistics.{next_statistics, code_parameter}
use Rattle.sample_adaptive.specs.Words.{code_word}
use Rattle.sample_adaptive.specs.Taken.{CoderState, PutsRun, PutsColumn, Writes, WritesRun, WritesColumn, code_by, counted, of_band, with_band}
use Rattle.sample_adaptive.specs.BandStates.{statistics_of}
use Rattle.sample_adaptive.proofs.Running.{run_none, run_one, run_after, later_code, later_counted}
use Rattle.sample_adaptive.proofs.Taking.{puts_residual}
use Rattle.sample_adaptive.proofs.Tracking.{statistics_set}

-- ---- more numbers after others

pub writes_after : (zs ts : ℕ → ℕ) (k : ℕ) (xs ys : List ℕ) (old mid new : CoderState) (written written_mid written_now : List Bool)
    → Writes zs ts k xs old written mid written_mid → Writes zs ts (k + length xs) ys mid written_mid new written_now
    → Writes zs ts k (xs ++ ys) old written new written_now
writes_after zs ts k [] ys old mid new written written_mid written_now first second =
    let here : k + 0 ≡ k = omega arith in rw (here, first.0, first.1) at second
writes_after zs ts k (x ∷ xs) ys old mid new written written_mid written_now first second =
    let next : k + length (x ∷ xs) ≡ k + 1 + length xs = omega arith in
    writes_after zs ts (k + 1) xs ys _ mid new _ written_mid written_now first (rw next at second)

-- a number before others
pub writes_first : (zs ts : ℕ → ℕ) (k residual : ℕ) (residuals : List ℕ) (old mid new : CoderState) (written written_mid written_now : List Bool)
    → written_mid ≡ written ++ code_word (code_by old (zs k) (ts k)) residual → mid ≡ counted old (zs k) (ts k) residual
    → Writes zs ts (k + 1) residuals mid written_mid new written_now → Writes zs ts k (residual ∷ residuals) old written new written_now
writes_first zs ts k residual residuals old mid new written written_mid written_now text counts rest = rw (text, counts) at rest

-- a number more
pub writes_more : (zs ts : ℕ → ℕ) (k i at residual : ℕ) (residuals : List ℕ) (old mid new : CoderState) (written was now : List Bool) → i < length residuals
    → at ≡ k + i → residual ≡ get_or residuals i 0 → now ≡ was ++ code_word (code_by mid (zs at) (ts at)) residual → new ≡ counted mid (zs at) (ts at) residual
    → Writes zs ts k (take i residuals) old written mid was → Writes zs ts k (take (i + 1) residuals) old written new now
writes_more zs ts k i at residual residuals old mid new written was now lt place there text counts first =
    let long : k + length (take i residuals) ≡ at = omega (arith, length-take i residuals, lt, place) in
    let one : Writes zs ts (k + length (take i residuals)) (residual ∷ []) mid was new now = rw long (counts, text) in
    rw (take_more residuals i 0 lt, ← there) (writes_after zs ts k (take i residuals) (residual ∷ []) old mid new written was now first one)

-- ---- later numbers of one band

pub run_more : (z t k i residual : ℕ) (v : CoderState) (s next : Statistics) (residuals : List ℕ) (written was now : List Bool) → z < length v.bands → 0 < t + k
    → i < length residuals → residual ≡ get_or residuals i 0
    → now ≡ was ++ code_word (record { limit = v.umax; k = code_parameter v.bits s; bits = v.bits }) residual → next ≡ next_statistics v.gamma_star s residual
    → Writes (λ j. z) (λ j. t + j) k (take i residuals) v written (with_band v z s) was
    → Writes (λ j. z) (λ j. t + j) k (take (i + 1) residuals) v written (with_band v z next) now
run_more z t k i residual v s next residuals written was now within some lt there text counts run =
    let later : 0 < t + (k + i) = omega (arith, some) in
    let here : now ≡ was ++ code_word (code_by (with_band v z s) z (t + (k + i))) residual = rw (later_code z _ v s within later) text in
    let kept : with_band v z next ≡ counted (with_band v z s) z (t + (k + i)) residual = rw (later_counted z _ v s within later residual, counts) refl in
    writes_more (λ j. z) (λ j. t + j) k i (k + i) residual residuals v (with_band v z s) (with_band v z next) written was now lt refl there here kept run

-- ---- a number of each of bands one above another

pub column_more : (z t i residual : ℕ) (v : CoderState) (bands : List BandState) (kept : BandState) (residuals : List ℕ) (written was now : List Bool)
    → i < length residuals → residual ≡ get_or residuals i 0
    → now ≡ was ++ code_word (code_by (record v { bands = statistics_of bands }) (z + i) t) residual
    → counted (record v { bands = statistics_of bands }) (z + i) t residual ≡ with_band (record v { bands = statistics_of bands }) (z + i) kept.statistics
    → WritesColumn z t (take i residuals) v written (record v { bands = statistics_of bands }) was
    → WritesColumn z t (take (i + 1) residuals) v written (record v { bands = statistics_of (set bands (z + i) kept) }) now
column_more z t i residual v bands kept residuals written was now lt there text counts column =
    let old : CoderState = record v { bands = statistics_of bands } in
    let new : CoderState = record v { bands = statistics_of (set bands (z + i) kept) } in
    let is : new ≡ counted old (z + i) t residual = rw (counts, statistics_set bands (z + i) kept) refl in
    writes_more (λ j. z + j) (λ j. t) 0 i i residual residuals v old new written was now lt (omega arith) there text is column

-- ---- what was taken

pub counted_bands : (v : CoderState) (z t residual : ℕ) → length (counted v z t residual).bands ≡ length v.bands
counted_bands v z t residual = by_test (eqb t 0)
  where
    by_test : (first : Bool)
        → length (cond first v (record v { bands = set v.bands z (next_statistics v.gamma_star (of_band v.bands z) residual) })).bands ≡ length v.bands
    by_test true = refl
    by_test false = length-set v.bands z (next_statistics v.gamma_star (of_band v.bands z) residual)

counted_bits : (v : CoderState) (z t residual : ℕ) → (counted v z t residual).bits ≡ v.bits
counted_bits v z t residual = by_test (eqb t 0)
  where
    by_test : (first : Bool)
        → (cond first v (record v { bands = set v.bands z (next_statistics v.gamma_star (of_band v.bands z) residual) })).bits ≡ v.bits
    by_test true = refl
    by_test false = refl

run_from : (z t k : ℕ) (residuals : List ℕ) (old new : CoderState) (written now : List Bool) → z < length old.bands
    → Writes (λ j. z) (λ j. t + j) k residuals old written new now → PutsRun z (t + k) residuals old written new now
run_from z t k [] old new written now inside run = rw (run.0, run.1) (run_none z (t + k) old written)
run_from z t k (residual ∷ residuals) old new written now inside run =
    let mid : CoderState = counted old z (t + k) residual in
    let text : List Bool = written ++ code_word (code_by old z (t + k)) residual in
    let still : z < length mid.bands = omega (arith, inside, counted_bands old z (t + k) residual) in
    let next : t + (k + 1) ≡ t + k + 1 = omega arith in
    let one = run_one z (t + k) residual old mid written text (puts_residual z (t + k) residual old written text inside refl) in
    run_after z (t + k) (residual ∷ []) residuals old mid new written text now one (rw next at (run_from z t (k + 1) residuals mid new text now still run))

pub run_taken : (z t : ℕ) (residuals : List ℕ) (old new : CoderState) (written now : List Bool) → z < length old.bands
    → WritesRun z t residuals old written new now → PutsRun z t residuals old written new now
run_taken z t residuals old new written now inside run =
    let start : t + 0 ≡ t = omega arith in rw start at (run_from z t 0 residuals old new written now inside run)

column_from : (z t k : ℕ) (residuals : List ℕ) (old new : CoderState) (written now : List Bool) → z + k + length residuals ≤ length old.bands
    → Writes (λ j. z + j) (λ j. t) k residuals old written new now → PutsColumn (z + k) t residuals old written new now
column_from z t k [] old new written now inside column = column
column_from z t k (residual ∷ residuals) old new written now inside column =
    let mid : CoderState = counted old (z + k) t residual in
    let text : List Bool = written ++ code_word (code_by old (z + k) t) residual in
    let bands = counted_bands old (z + k) t residual in
    let above : z + (k + 1) ≡ suc (z + k) = omega arith in
    let rest = column_from z t (k + 1) residuals mid new text now (omega (arith, inside, bands)) column in
    (mid, text, bands, counted_bits old (z + k) t residual, puts_residual (z + k) t residual old written text (omega (arith, inside)) refl, rw above at rest)

pub column_taken : (z t : ℕ) (residuals : List ℕ) (old new : CoderState) (written now : List Bool) → z + length residuals ≤ length old.bands
    → WritesColumn z t residuals old written new now → PutsColumn z t residuals old written new now
column_taken z t residuals old new written now inside column =
    let start : z + 0 ≡ z = omega arith in rw start at (column_from z t 0 residuals old new written now (omega (arith, inside)) column)
