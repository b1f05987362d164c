-- Eight residuals of a piece in lanes: their sums, code parameters and code words.
use Rattle.std.proofs.Common.{◌≡◌, ℕ, zero, suc, ◌+◌, ◌-◌, ◌*◌, ◌/◌, ◌%◌, ◌^◌, ◌<◌, ◌≤◌, Bool, List, ◌++◌, length, take, drop, get_or, min}
use Rattle.std.proofs.Common.{refl, sym, ap, ◌∙◌, append_assoc, append-nil, inl, inr, arith}
use Rattle.std.proofs.lemmas.Bool.{cases_eq, cases_lt, lt-ltb, ne_eqb}
use Rattle.std.proofs.lemmas.List.Sums.{sum_by-append}
use Rattle.std.proofs.lemmas.Nat.{mul-le, pow_pos, pow-add, shr_split}
use Rattle.std.proofs.Math.Nat.{min-eq_left, min-eq_right, mod-lt, pow-succ'}
use Rattle.std.proofs.Math.Pow.{pow_mono}
use Rattle.std.proofs.Math.Seq.{take-add}
use Rattle.std.specs.List.{sum}
use Rattle.lanes.specs.Lanes.{number}
use Rattle.header_bits.specs.Bits.{bits_of}
use Rattle.sample_adaptive.specs.declared.code_settings.CodeSettings.{CodeSettings}
use Rattle.sample_adaptive.specs.declared.code_word.Code.{Code}
use Rattle.sample_adaptive.specs.declared.statistics.Statistics.{Statistics}
use Rattle.word_lanes.specs.EightWords.{texts}
use Rattle.sample_adaptive.specs.Runs.{AreNeighbours, IsPiece, IsPlainWord, statistics_within, sum_after, text_within, words_from}
use Rattle.sample_adaptive.specs.Statistics.{code_parameter}
use Rattle.sample_adaptive.specs.Thresholds.{threshold}
use Rattle.sample_adaptive.specs.Words.{code_word}
use Rattle.sample_adaptive.proofs.Counting.{accumulator_range}
use Rattle.sample_adaptive.proofs.Forms.{plain_word, plain_below}
use Rattle.sample_adaptive.proofs.PieceEnds.{entry_is}
use Rattle.sample_adaptive.proofs.Table.{parameter_between, threshold_mid}
use Rattle.sample_adaptive.proofs.WordsFrom.{sum_more, within_piece, text_more}

-- ---- sums

-- the sum of the first lanes, added to that of the residuals before them
pub sum_along : (w residuals : List ℕ) (i j : ℕ) → length w ≡ 8 → i + 8 ≤ length residuals → ((k : ℕ) → k < 8 → number w k ≡ get_or residuals (i + k) 0) → j ≤ 8
    → sum (take i residuals) + sum (take j w) ≡ sum (take (i + j) residuals)
sum_along w residuals i zero long within same le =
    let none : i + 0 ≡ i = omega arith in let e : sum (take i residuals) + 0 ≡ sum (take i residuals) = omega arith in e ∙ ap (λ n. sum (take n residuals)) (sym none)
sum_along w residuals i (suc j) long within same le =
    let one : suc j ≡ j + 1 = omega arith in
    let next : i + suc j ≡ i + j + 1 = omega arith in
    let lane = sum_more w j (omega (arith, long, le)) in
    let residual = sum_more residuals (i + j) (omega (arith, within, le)) in
    let before = sum_along w residuals i j long within same (omega (arith, le)) in
    let equal = same j (omega (arith, le)) in
    rw (next, one) (omega (arith, lane, residual, before, equal))

pub sum_grows : (residuals : List ℕ) (a d : ℕ) → sum (take a residuals) ≤ sum (take (a + d) residuals)
sum_grows residuals a d =
    let both : sum (take a residuals ++ take d (drop a residuals)) ≡ sum (take a residuals) + sum (take d (drop a residuals)) =
    sum_by-append (λ n. n) (take a residuals) (take d (drop a residuals)) in
    rw (take-add a d residuals) (omega (arith, both))

-- ---- thresholds

none_needed : (bits counter : ℕ) → threshold bits 0 counter ≡ 0
unfolding threshold
none_needed bits counter = refl

never : (bits j counter : ℕ) → bits - 2 < j → threshold bits j counter ≡ 2 ^ 30
unfolding threshold
never bits j counter beyond = rw (ne_eqb j 0 (λ e. omega (arith, beyond, e)), lt-ltb (bits - 2) j beyond) refl

pub threshold_grows : (bits j a d : ℕ) → threshold bits j a ≤ threshold bits j (a + d)
threshold_grows bits j a d =
    elim (cases_eq j 0) [
      | inl none ↦ rw (none, none_needed bits a) (omega arith)
      | inr some ↦ elim (cases_lt (bits - 2) j) [
        | inl beyond ↦ rw (never bits j a beyond, never bits j (a + d) beyond) (omega arith)
        | inr inner ↦ (let product : (a + d) * 2 ^ j ≡ a * 2 ^ j + d * 2 ^ j = grind arith in
            let least = mul-le d 1 d (2 ^ j) (omega arith) (pow_pos j) in
            rw (threshold_mid bits j a (omega (arith, some)) inner, threshold_mid bits j (a + d) (omega (arith, some)) inner) (omega (arith, product, least)))
      ]
    ]

pub threshold_small : (bits j counter : ℕ) → bits ≤ 16 → counter < 1024 → threshold bits j counter ≤ 2 ^ 30
threshold_small bits j counter few small =
    elim (cases_eq j 0) [
      | inl none ↦ rw (none, none_needed bits counter) (omega arith)
      | inr some ↦ elim (cases_lt (bits - 2) j) [
        | inl beyond ↦ rw (never bits j counter beyond) (omega arith)
        | inr inner ↦ (let power : 2 ^ j ≤ 2 ^ 14 = pow_mono {i = j} {j = 14} (omega (arith, inner, few)) in
            let product = mul-le counter (2 ^ j) 1024 16384 (omega (arith, small)) (omega (arith, power)) in
            rw (threshold_mid bits j counter (omega (arith, some)) inner) (omega (arith, product)))
      ]
    ]

-- ---- code parameters

pub small_sum : (c : CodeSettings) (s : Statistics) (table residuals : List ℕ) → IsPiece c s table residuals → (i j : ℕ) → j < 8 → i + 8 ≤ length residuals
    → sum_after s residuals (i + j) < 33554432
small_sum c s table residuals piece i j few within =
    accumulator_range c.rescaling.size _ c.rescaling.size_in.1 (within_piece c s table residuals piece (i + j) (omega (arith, within, few)))

module _ (c : CodeSettings) (s : Statistics) (table residuals : List ℕ) (piece : IsPiece c s table residuals) (k i : ℕ) where
  -- two comparisons show it of all eight
  pub neighbours : (at : ℕ) → k + 2 ≤ c.bits → i + 8 ≤ length residuals → at ≡ 520 * k + s.counter + i → get_or table (at + 7) 0 ≤ sum_after s residuals i
      → sum_after s residuals (i + 7) < get_or table (at + 1040) 0 → AreNeighbours c s residuals k i
  neighbours at inside within is low high =
      let size : ℕ = c.rescaling.size in
      let first = entry_is c.bits size k (s.counter + (i + 7)) (at + 7) table piece.thresholds (omega (arith, inside)) (omega (arith, piece.within, within)) (omega (arith, is)) in
      let last = entry_is c.bits size (k + 2) (s.counter + i) (at + 1040) table piece.thresholds inside (omega (arith, piece.within, within)) (omega (arith, is)) in
      record {
        least = λ j few.
            let rest : s.counter + (i + j) + (7 - j) ≡ s.counter + (i + 7) = omega (arith, few) in
            let grown = threshold_grows c.bits k (s.counter + (i + j)) (7 - j) in
            let sums = sum_grows residuals i j in
            omega (arith, rw rest at grown, first, low, sums);
        most = λ j few.
            let rest : s.counter + i + j ≡ s.counter + (i + j) = omega arith in
            let more : i + j + (7 - j) ≡ i + 7 = omega (arith, few) in
            let grown = threshold_grows c.bits (k + 2) (s.counter + i) j in
            let sums = sum_grows residuals (i + j) (7 - j) in
            omega (arith, rw rest at grown, last, high, rw more at sums);
      }

  module _ (j : ℕ) (few : j < 8) (within : i + 8 ≤ length residuals) (inside : k + 2 ≤ c.bits) (near : AreNeighbours c s residuals k i) where
    pub lower_parameter_is : sum_after s residuals (i + j) < threshold c.bits (k + 1) (s.counter + (i + j))
        → code_parameter c.bits (statistics_within s residuals (i + j)) ≡ k
    lower_parameter_is less = parameter_between c.bits (statistics_within s residuals (i + j)) k inside (near.least j few) less

    pub upper_parameter_is : threshold c.bits (k + 1) (s.counter + (i + j)) ≤ sum_after s residuals (i + j)
        → code_parameter c.bits (statistics_within s residuals (i + j)) ≡ k + 1
    upper_parameter_is more =
        let range = accumulator_range c.rescaling.size _ c.rescaling.size_in.1 (within_piece c s table residuals piece (i + j) (omega (arith, within, few))) in
        elim (cases_lt (c.bits - 2) (k + 1)) [
          | inl beyond ↦ absurd (omega (arith, never c.bits (k + 1) (s.counter + (i + j)) beyond, more, range))
          | inr inner ↦ (let two : k + 1 + 1 ≡ k + 2 = omega arith in
              parameter_between c.bits (statistics_within s residuals (i + j)) (k + 1) (omega (arith, inner, inside)) more (rw two (near.most j few)))
        ]

-- ---- code words

above_power : (q : ℕ) → q + 1 ≤ 2 ^ q
above_power zero = omega arith
above_power (suc q) = let twice : 2 ^ suc q ≡ 2 * 2 ^ q = pow-succ' 2 q in omega (arith, above_power q, twice)

-- a residual with a short word is small
small_residual : (m k l : ℕ) → l ≡ m / 2 ^ k + 1 + k → l ≤ 14 → m < 8192
small_residual m k l long few =
    let q : ℕ = m / 2 ^ k in
    let split : q * 2 ^ k + m % 2 ^ k ≡ m = shr_split m k in
    let rest = mod-lt m {m = 2 ^ k} (pow_pos k) in
    let next : (q + 1) * 2 ^ k ≡ q * 2 ^ k + 1 * 2 ^ k = grind arith in
    let product = mul-le (q + 1) (2 ^ k) (2 ^ q) (2 ^ k) (above_power q) (omega arith) in
    let most : 2 ^ (q + k) ≤ 2 ^ 13 = pow_mono {i = q + k} {j = 13} (omega (arith, long, few)) in
    omega (arith, split, rest, next, product, pow-add 2 q k, most)

pub plain_lane : (limit bits k x b l : ℕ) → IsPlainWord k (min x 32767) b l → x ≤ 32767 → l ≤ limit + k
    → (b < 2 ^ l) × (bits_of l b ≡ code_word (record { limit = limit; k = k; bits = bits }) x)
plain_lane limit bits k x b l word small within =
    let same : min x 32767 ≡ x = min-eq_left small in
    let code : Code = record { limit = limit; k = k; bits = bits } in
    let long : l ≡ x / 2 ^ k + 1 + k = rw same at word.long in
    let low : b ≡ 2 ^ k + x % 2 ^ k = rw same at word.low in
    rw (long, low) (plain_below (x / 2 ^ k) k x, plain_word code x (omega (arith, long, within)))

pub short_word : (limit bits k x b l : ℕ) → IsPlainWord k (min x 32767) b l → l ≤ 14 → l ≤ limit + k
    → (b < 2 ^ l) × (bits_of l b ≡ code_word (record { limit = limit; k = k; bits = bits }) x)
short_word limit bits k x b l word few within =
    let small = small_residual (min x 32767) k l word.long few in
    elim (cases_lt x 32767) [
      | inl less ↦ plain_lane limit bits k x b l word (omega (arith, less)) within
      | inr more ↦ (let most = min-eq_right more in absurd (omega (arith, most, small)))
    ]

-- ---- the text of eight words

module _ (c : CodeSettings) (s : Statistics) (table residuals : List ℕ) (piece : IsPiece c s table residuals) (i : ℕ) (text : ℕ → List Bool) where
  pub texts_more : ((j : ℕ) → j < 8 → text j ≡ text_within c s residuals (i + j)) → i + 8 ≤ length residuals → (n j : ℕ) → j + n ≤ 8 → (old now : List Bool)
      → now ≡ old ++ words_from c s (take (i + j) residuals) → now ++ texts text j n ≡ old ++ words_from c s (take (i + j + n) residuals)
  texts_more same within zero j le old now e =
      let none : i + j + 0 ≡ i + j = omega arith in rw (append-nil now, none) e
  texts_more same within (suc n) j le old now e =
      let next : i + suc j ≡ i + j + 1 = omega arith in
      let all : i + suc j + n ≡ i + j + suc n = omega arith in
      let word = same j (omega (arith, le)) in
      let more = text_more c s table residuals piece (i + j) old now (now ++ text j) _ _ _ (omega (arith, within, le)) refl refl refl
      (ap (λ (bits : List Bool). now ++ bits) word) e in
      rw (← append_assoc now (text j) (texts text (suc j) n), ← all)
      (texts_more same within n (suc j) (omega (arith, le)) old (now ++ text j) (rw next more))
