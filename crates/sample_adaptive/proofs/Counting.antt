-- Statistics stay in range, and the code parameter from the lengths of two numbers.
use Rattle.std.proofs.Common.{◌≡◌, ℕ, zero, suc, ◌+◌, ◌-◌, ◌*◌, ◌/◌, ◌%◌, ◌^◌, ◌<◌, ◌≤◌, min, Bool, leb, refl, sym, ap, ◌∙◌, inl, inr, arith}
use Rattle.std.proofs.lemmas.Bool.{cases_lt, lt-ltb, le-ltb, le-leb, lt-leb, leb-true, true≢false}
use Rattle.std.proofs.lemmas.Nat.{pow_pos, pow-add, mul-le}
use Rattle.std.proofs.Math.Nat.{pow-succ', mod-eq_of_lt, mul-lt-mul_of_pos_left}
use Rattle.std.proofs.Math.Pow.{pow_mono}
use Rattle.cube_core.specs.Greatest.{greatest}
use Rattle.cube_core.proofs.Greatest.{greatest_is, greatest_holds}
use Rattle.sample_adaptive.specs.declared.statistics.Statistics.{Statistics}
use Rattle.sample_adaptive.specs.Laws.{ParameterIsGreatest}
use Rattle.sample_adaptive.specs.Statistics.{AreStatistics, start_statistics, next_statistics, level, code_parameter}

-- ---- the first statistics

pub least_power : (k : ℕ) → 64 ≤ 2 ^ (k + 6)
least_power k = let p : 2 ^ 6 ≤ 2 ^ (k + 6) = pow_mono {i = 6} {j = k + 6} (omega arith) in p

pub most_power : (k : ℕ) → k ≤ 14 → 2 ^ (k + 6) ≤ 1048576
most_power k le = let p : 2 ^ (k + 6) ≤ 2 ^ 20 = pow_mono {i = k + 6} {j = 20} (omega arith) in p

pub start_counter : (gamma : ℕ) → gamma ≤ 8 → 2 ^ gamma ≤ 256
start_counter gamma le = let p : 2 ^ gamma ≤ 2 ^ 8 = pow_mono le in p

pub start_product : (gamma k : ℕ) → gamma ≤ 8 → k ≤ 14 → (3 * 2 ^ (k + 6) - 49) * 2 ^ gamma ≤ 805306368
start_product gamma k p q =
    mul-le (3 * 2 ^ (k + 6) - 49) (2 ^ gamma) 3145728 256 (omega (arith, most_power k q)) (start_counter gamma p)

pub start_whole : (k : ℕ) → k ≤ 14 → 3 * 2 ^ (k + 6) % 4294967296 ≡ 3 * 2 ^ (k + 6)
start_whole k le = mod-eq_of_lt (omega (arith, most_power k le))

pub start_count : (gamma : ℕ) → gamma ≤ 8 → 1 * 2 ^ gamma % 4294967296 ≡ 2 ^ gamma
start_count gamma le = let e : 1 * 2 ^ gamma ≡ 2 ^ gamma = omega arith in rw e (mod-eq_of_lt (omega (arith, start_counter gamma le)))

pub start_in_range : (gamma_star gamma_zero k : ℕ) → gamma_zero + 1 ≤ gamma_star → gamma_zero ≤ 8 → k ≤ 14
    → AreStatistics gamma_star (start_statistics gamma_zero k)
unfolding start_statistics
start_in_range gamma_star gamma_zero k order p q =
    let larger : 2 ^ (gamma_zero + 1) ≤ 2 ^ gamma_star = pow_mono order in
    let twice : 2 ^ (gamma_zero + 1) ≡ 2 * 2 ^ gamma_zero = (let e : gamma_zero + 1 ≡ suc gamma_zero = omega arith in rw e (pow-succ' 2 gamma_zero)) in
    let some = pow_pos gamma_zero in
    let product = mul-le (3 * 2 ^ (k + 6) - 49) (2 ^ gamma_zero) 3145728 (2 ^ gamma_zero) (omega (arith, most_power k q)) (omega arith) in
    record { least = omega arith; most = omega arith; bound = omega arith }

-- ---- the next statistics

pub halved_in_range : (gamma_star : ℕ) (s : Statistics) (residual : ℕ) → 1 ≤ gamma_star → AreStatistics gamma_star s → residual < 65536
    → 2 ^ gamma_star - 1 ≤ s.counter
    → AreStatistics gamma_star (record { counter = (s.counter + 1) / 2; accumulator = (s.accumulator + residual + 1) / 2 })
halved_in_range gamma_star s residual least h small full =
    let e : suc (gamma_star - 1) ≡ gamma_star = omega arith in
    let twice : 2 ^ gamma_star ≡ 2 * 2 ^ (gamma_star - 1) = ap (λ k. 2 ^ k) (sym e) ∙ pow-succ' 2 (gamma_star - 1) in
    let some = pow_pos (gamma_star - 1) in
    record { least = omega (arith, h.most); most = omega (arith, h.most); bound = omega (arith, h.most, h.bound) }

pub next_in_range : (gamma_star : ℕ) (s : Statistics) (residual : ℕ) → 1 ≤ gamma_star → AreStatistics gamma_star s → residual < 65536
    → AreStatistics gamma_star (next_statistics gamma_star s residual)
unfolding next_statistics
next_in_range gamma_star s residual least h small =
    elim (cases_lt s.counter (2 ^ gamma_star - 1)) [
      | inl lt ↦ rw (lt-ltb _ _ lt) (record { least = omega arith; most = omega arith; bound = omega (arith, h.bound) })
      | inr full ↦ rw (le-ltb _ _ full) (halved_in_range gamma_star s residual least h small full)
    ]

-- ---- the code parameter

pub twice_power : (counter k : ℕ) → counter * 2 ^ (k + 1) ≡ 2 * (counter * 2 ^ k)
twice_power counter k = let e : 2 ^ (k + 1) ≡ 2 * 2 ^ k = (let e : k + 1 ≡ suc k = omega arith in rw e (pow-succ' 2 k)) in rw e (grind arith)

pub code_parameter_is : (bits : ℕ) (s : Statistics) (k : ℕ) → 2 * s.counter ≤ level s → s.counter * 2 ^ k ≤ level s → level s < 2 * (s.counter * 2 ^ k)
    → code_parameter bits s ≡ min k (bits - 2)
unfolding code_parameter
code_parameter_is bits s k large fits passes =
    rw (le-ltb _ _ large)
    (greatest_is (λ j. leb (s.counter * 2 ^ j) (level s)) (min k (bits - 2)) (bits - 2) (omega arith)
    (le-leb _ _ (let p = mul-le s.counter (2 ^ min k (bits - 2)) s.counter (2 ^ k) (omega arith) (pow_mono (omega arith)) in omega arith))
    (λ j above most. lt-leb _ _ (let p = mul-le s.counter (2 ^ (k + 1)) s.counter (2 ^ j) (omega arith) (pow_mono (omega arith)) in
    omega (arith, twice_power s.counter k))))

pub code_parameter_small : (bits : ℕ) (s : Statistics) → level s < 2 * s.counter → 0 ≡ code_parameter bits s
unfolding code_parameter
code_parameter_small bits s small = rw (lt-ltb _ _ small) refl

-- a parameter whose product with the counter still fits, but not twice, is still the greatest
pub parameter_stays : (bits : ℕ) (s : Statistics) (k : ℕ) → k + 2 ≤ bits → s.counter * 2 ^ k ≤ level s → level s < 2 * (s.counter * 2 ^ k)
    → k ≡ code_parameter bits s
parameter_stays bits s k few fits passes =
    elim (cases_lt (level s) (2 * s.counter)) [
      | inl small ↦ none_fits k small fits
      | inr large ↦ (let least : min k (bits - 2) ≡ k = omega (arith, few) in sym (code_parameter_is bits s k large fits passes ∙ least))
    ]
  where
    none_fits : (k : ℕ) → level s < 2 * s.counter → s.counter * 2 ^ k ≤ level s → k ≡ code_parameter bits s
    none_fits zero small fits = code_parameter_small bits s small
    none_fits (suc j) small fits =
        let two : 2 ^ 1 ≤ 2 ^ suc j = pow_mono {i = 1} {j = suc j} (omega arith) in
        let product = mul-le s.counter 2 s.counter (2 ^ suc j) (omega arith) (omega (arith, two)) in
        absurd (omega (arith, product, small, fits))

-- how far a number has to be shifted to be as long as a larger one
pub record IsShift (counter level shift : ℕ) : Type 0 where
  pub whole : counter * 2 ^ shift < 2 ^ 32
  pub enough : level < 2 * (counter * 2 ^ shift)
  pub close : counter * 2 ^ shift < 2 * level

pub logs_order : (counter level a b : ℕ) → counter ≤ level → 2 ^ a ≤ counter → level < 2 * 2 ^ b → a ≤ b
logs_order counter level a b le low high =
    elim (cases_lt b a) [
      | inl lt ↦ (let p : 2 ^ suc b ≤ 2 ^ a = pow_mono lt in let twice : 2 ^ suc b ≡ 2 * 2 ^ b = pow-succ' 2 b in absurd (omega arith))
      | inr ge ↦ ge
    ]

pub shift_is : (counter level a b : ℕ) → counter ≤ level → level < 2 ^ 31 → 2 ^ a ≤ counter → counter < 2 * 2 ^ a → 2 ^ b ≤ level → level < 2 * 2 ^ b
    → IsShift counter level (b - a)
shift_is counter level a b le fits low_counter high_counter low_level high_level =
    let order = logs_order counter level a b le low_counter high_level in
    let shift : ℕ = b - a in
    let same : shift + a ≡ b = omega arith in
    let product : 2 ^ b ≡ 2 ^ shift * 2 ^ a = ap (λ k. 2 ^ k) (sym same) ∙ pow-add 2 shift a in
    let low = mul-le (2 ^ shift) (2 ^ a) (2 ^ shift) counter (omega arith) low_counter in
    let high = mul-lt-mul_of_pos_left {m = counter} {n = 2 * 2 ^ a} {k = 2 ^ shift} high_counter (pow_pos shift) in
    let swapped : 2 ^ shift * counter ≡ counter * 2 ^ shift = grind arith in
    let above : 2 ^ shift * (2 * 2 ^ a) ≡ 2 * (2 ^ shift * 2 ^ a) = grind arith in
    record { whole = omega arith; enough = omega arith; close = omega arith }

-- the code parameter, where the shifted counter is within the level, and where it is beyond
pub parameter_within : (bits : ℕ) (s : Statistics) (shift : ℕ) → 2 * s.counter ≤ level s → IsShift s.counter (level s) shift
    → s.counter * 2 ^ shift % 4294967296 ≤ level s → code_parameter bits s ≡ min shift (bits - 2)
parameter_within bits s shift large h le = code_parameter_is bits s shift large (rw (mod-eq_of_lt h.whole) at le) h.enough

pub parameter_beyond : (bits : ℕ) (s : Statistics) (shift : ℕ) → 2 * s.counter ≤ level s → IsShift s.counter (level s) shift
    → level s < s.counter * 2 ^ shift % 4294967296 → code_parameter bits s ≡ min (shift - 1) (bits - 2)
parameter_beyond bits s zero large h lt = let beyond : level s < s.counter * 2 ^ 0 = rw (mod-eq_of_lt h.whole) at lt in absurd (omega arith)
parameter_beyond bits s (suc k) large h lt =
    let beyond : level s < s.counter * 2 ^ suc k = rw (mod-eq_of_lt h.whole) at lt in
    let e : suc k ≡ k + 1 = omega arith in
    let twice : s.counter * 2 ^ suc k ≡ 2 * (s.counter * 2 ^ k) = rw e (twice_power s.counter k) in
    let less : suc k - 1 ≡ k = omega arith in
    rw less (code_parameter_is bits s k large (omega (arith, h.close)) (omega arith))

-- statistics within the code's words
pub counter_range : (gamma_star : ℕ) (s : Statistics) → gamma_star ≤ 9 → AreStatistics gamma_star s → (1 ≤ s.counter) × (s.counter < 512)
counter_range gamma_star s le h =
    let power : 2 ^ gamma_star ≤ 2 ^ 9 = pow_mono le in
    (h.least, omega (arith, h.most))

pub accumulator_range : (gamma_star : ℕ) (s : Statistics) → gamma_star ≤ 9 → AreStatistics gamma_star s → s.accumulator < 33554432
accumulator_range gamma_star s le h =
    let power : 2 ^ gamma_star ≤ 2 ^ 9 = pow_mono le in
    omega (arith, h.most, h.bound)

-- a counter's product with the power of a code parameter
pub product_whole : (counter low : ℕ) → counter < 512 → low ≤ 14 → counter * 2 ^ low % 4294967296 ≡ counter * 2 ^ low
product_whole counter low few le =
    let power : 2 ^ low ≤ 2 ^ 14 = pow_mono le in
    mod-eq_of_lt (omega (arith, mul-le counter (2 ^ low) 512 16384 (omega arith) (omega (arith, power))))

pub parameter_is_greatest : ParameterIsGreatest
unfolding code_parameter
parameter_is_greatest bits s =
    elim (cases_lt (level s) (2 * s.counter)) [
      | inl small ↦ rw (lt-ltb _ _ small)
          (record { within = omega arith; none = λ p. refl; fits = λ p. absurd (omega arith); greatest = λ large. absurd (omega arith) })
      | inr large ↦
          (let f : ℕ → Bool = λ k. leb (s.counter * 2 ^ k) (level s) in
          let h = greatest_holds f (bits - 2) in
          rw (le-ltb _ _ large) (record {
            within = h.1;
            none = λ small. absurd (omega arith);
            fits = λ p. leb-true _ _ (h.0 p);
            greatest = λ _ j le fits.
                elim (cases_lt (greatest f (bits - 2)) j) [ inl lt ↦ absurd (true≢false (sym (le-leb _ _ fits) ∙ h.2 j lt le)) | inr most ↦ most ];
          }))
    ]
