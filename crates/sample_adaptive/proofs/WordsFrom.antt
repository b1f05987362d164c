-- Code words and sums of a run or a piece, as far as they have come.
use Rattle.std.proofs.Common.{◌≡◌, ℕ, zero, suc, ◌+◌, ◌*◌, ◌^◌, ◌<◌, ◌≤◌, Bool, List, [], ◌∷◌, ◌++◌, length, take, get_or}
use Rattle.std.proofs.Common.{refl, sym, ap, ◌∙◌, append_assoc, append-nil, length-take, arith}
use Rattle.std.proofs.lemmas.List.{take_more}
use Rattle.std.proofs.lemmas.List.Sums.{sum_by-append}
use Rattle.std.proofs.Math.Pow.{pow_mono}
use Rattle.std.specs.List.{AllByRecursion, sum}
use Rattle.sample_adaptive.specs.declared.code_settings.CodeSettings.{CodeSettings}
use Rattle.sample_adaptive.specs.declared.statistics.Statistics.{Statistics}
use Rattle.sample_adaptive.specs.Statistics.{AreStatistics, next_statistics, statistics_from, code_parameter}
use Rattle.sample_adaptive.specs.Words.{code_word}
use Rattle.sample_adaptive.specs.Runs.{IsPiece, code_with, sum_after, words_from}
use Rattle.sample_adaptive.specs.Taken.{CoderState, HasSettings, Writes, code_by, counted, with_band}
use Rattle.sample_adaptive.proofs.Running.{later_code, later_counted}
use Rattle.sample_adaptive.proofs.Writing.{writes_first}
use Rattle.sample_adaptive.specs.declared.code_word.Code.{Code}
use Rattle.sample_adaptive.proofs.Pieces.{counts_within, sum_first}

pub words_append : (c : CodeSettings) (s : Statistics) (xs ys : List ℕ)
    → words_from c s (xs ++ ys) ≡ words_from c s xs ++ words_from c (statistics_from c.rescaling.size s xs) ys
unfolding words_from statistics_from
words_append c s [] ys = refl
words_append c s (x ∷ xs) ys =
    ap (λ (bits : List Bool). code_word (code_with c s) x ++ bits) (words_append c (next_statistics c.rescaling.size s x) xs ys)
    ∙ sym (append_assoc (code_word (code_with c s) x) _ _)

-- one residual more
pub words_more : (c : CodeSettings) (s : Statistics) (residuals : List ℕ) (i : ℕ) → i < length residuals
    → words_from c s (take (i + 1) residuals)
    ≡ words_from c s (take i residuals) ++ code_word (code_with c (statistics_from c.rescaling.size s (take i residuals))) (get_or residuals i 0)
unfolding words_from
words_more c s residuals i lt =
    rw (take_more residuals i 0 lt, words_append c s (take i residuals) (get_or residuals i 0 ∷ []), append-nil) refl

pub sum_more : (residuals : List ℕ) (i : ℕ) → i < length residuals → sum (take (i + 1) residuals) ≡ sum (take i residuals) + get_or residuals i 0
sum_more residuals i lt =
    let next : ℕ = get_or residuals i 0 in
    let both : sum (take i residuals ++ next ∷ []) ≡ sum (take i residuals) + sum (next ∷ []) = sum_by-append (λ n. n) (take i residuals) (next ∷ []) in
    rw (take_more residuals i 0 lt) (omega (arith, both, sum_first next []))

pub sum_most : (bits : ℕ) (residuals : List ℕ) (i : ℕ) → bits ≤ 16 → AllByRecursion (λ n. n < 2 ^ bits) residuals → sum (take i residuals) ≤ 65536 * i
sum_most bits residuals zero few below = omega arith
sum_most bits [] (suc i) few below = omega arith
sum_most bits (x ∷ xs) (suc i) few below =
    let power : 2 ^ bits ≤ 2 ^ 16 = pow_mono {i = bits} {j = 16} few in
    omega (arith, sum_first x (take i xs), sum_most bits xs i few below.1, below.0, power)

module _ (c : CodeSettings) (s : Statistics) (table residuals : List ℕ) (piece : IsPiece c s table residuals) (i : ℕ) where
  -- within a piece statistics are in range
  pub within_piece : i < length residuals → AreStatistics c.rescaling.size (record { counter = s.counter + i; accumulator = sum_after s residuals i })
  within_piece lt =
      let most = sum_most c.bits residuals i c.bits_in.1 piece.below in
      record {
        least = omega (arith, piece.statistics.least);
        most = omega (arith, piece.within, lt);
        bound = omega (arith, piece.statistics.bound, most);
      }

  pub statistics_within : i < length residuals
      → statistics_from c.rescaling.size s (take i residuals) ≡ record { counter = s.counter + i; accumulator = sum_after s residuals i }
  statistics_within lt =
      let long : length (take i residuals) ≡ i = omega (arith, length-take i residuals, lt) in
      rw long at (counts_within c.rescaling.size s (take i residuals) (omega (arith, long, lt, piece.within)))

  -- the text of one residual more
  pub text_more : (old now next : List Bool) (sum residual k : ℕ) → i < length residuals → sum ≡ sum_after s residuals i → residual ≡ get_or residuals i 0
      → k ≡ code_parameter c.bits (record { counter = s.counter + i; accumulator = sum })
      → next ≡ now ++ code_word (record { limit = c.limit; k = k; bits = c.bits }) residual
      → now ≡ old ++ words_from c s (take i residuals) → next ≡ old ++ words_from c s (take (i + 1) residuals)
  text_more old now next sum residual k lt is there of_k word text =
      rw (word, text, words_more c s residuals i lt, statistics_within lt, ← is, ← of_k, ← there)
      (append_assoc old (words_from c s (take i residuals)) (code_word (record { limit = c.limit; k = k; bits = c.bits }) residual))

-- the code words of residuals are what is written of them one after another
pub writes_words : (c : CodeSettings) (v : CoderState) (z t k : ℕ) (s : Statistics) (residuals : List ℕ) (written : List Bool) → z < length v.bands
    → HasSettings v c.bits c.limit c.rescaling.size → 0 < t + k
    → Writes (λ j. z) (λ j. t + j) k residuals (with_band v z s) written (with_band v z (statistics_from c.rescaling.size s residuals))
    (written ++ words_from c s residuals)
unfolding words_from statistics_from
writes_words c v z t k s [] written lt has some = (refl, append-nil written)
writes_words c v z t k s (x ∷ xs) written lt has some =
    let next : Statistics = next_statistics c.rescaling.size s x in
    let code : code_by (with_band v z s) z (t + k) ≡ code_with c s = later_code z (t + k) v s lt some ∙ (rw (has.bits_are, has.umax_is) refl) in
    let counts : counted (with_band v z s) z (t + k) x ≡ with_band v z next =
    later_counted z (t + k) v s lt some x ∙ ap (λ (size : ℕ). with_band v z (next_statistics size s x)) has.size_is in
    let rest = writes_words c v z t (k + 1) next xs (written ++ code_word (code_with c s) x) lt has (omega (arith, some)) in
    writes_first (λ j. z) (λ j. t + j) k x xs (with_band v z s) (with_band v z next) (with_band v z (statistics_from c.rescaling.size next xs))
    written (written ++ code_word (code_with c s) x) (written ++ words_from c s (x ∷ xs)) (ap (λ (d : Code). written ++ code_word d x) (sym code)) (sym counts)
    (rw (append_assoc written (code_word (code_with c s) x) (words_from c next xs)) at rest)
