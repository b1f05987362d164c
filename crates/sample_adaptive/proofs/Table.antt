-- The table of thresholds: how it is filled in, and that two of its entries give the code parameter.
use Rattle.std.proofs.Common.{◌≡◌, ℕ, ◌+◌, ◌-◌, ◌*◌, ◌/◌, ◌%◌, ◌^◌, ◌<◌, ◌≤◌, List, get_or, set, refl, sym, ◌∙◌, inl, inr, subst, arith}
use Rattle.std.proofs.lemmas.Bool.{cases_eq, cases_lt, le-ltb, ne_eqb}
use Rattle.std.proofs.lemmas.List.{get_or-set_same, get_or-set_other, length-set}
use Rattle.std.proofs.lemmas.Nat.{mul-le}
use Rattle.std.proofs.Math.Nat.{mod-eq_of_lt}
use Rattle.std.proofs.Math.Pow.{pow_mono}
use Rattle.sample_adaptive.specs.declared.statistics.Statistics.{Statistics}
use Rattle.sample_adaptive.specs.Statistics.{level, code_parameter}
use Rattle.sample_adaptive.specs.Thresholds.{AreThresholds, HasFirst, threshold}
use Rattle.sample_adaptive.proofs.Counting.{parameter_is_greatest, parameter_stays, code_parameter_small, twice_power}

pub size_power : (size : ℕ) → size ≤ 9 → 2 ^ size ≤ 512
size_power size le = let p : 2 ^ size ≤ 2 ^ 9 = pow_mono le in p

pub size_count : (size : ℕ) → size ≤ 9 → 1 * 2 ^ size % 4294967296 ≡ 2 ^ size
size_count size le = let e : 1 * 2 ^ size ≡ 2 ^ size = omega arith in rw e (mod-eq_of_lt (omega (arith, size_power size le)))

-- one more threshold of a row
pub one_more : (bits size rows counters entry : ℕ) (table : List ℕ) → size ≤ 9 → rows < 17 → counters < 2 ^ size + 8 → entry ≡ threshold bits rows counters
    → HasFirst bits size rows counters table → HasFirst bits size rows (counters + 1) (set table (520 * rows + counters) entry)
one_more bits size rows counters entry table small few next is h =
    let power = size_power size small in
    let at : ℕ = 520 * rows + counters in
    record {
      size = length-set table at entry ∙ h.size;
      above = λ j counter below inside.
          get_or-set_other table at (520 * j + counter) entry 0 (λ e. omega (arith, e, below, inside, next, power)) ∙ h.above j counter below inside;
      begun = λ counter lt.
          elim (cases_eq counter counters) [
            | inl e ↦ subst (λ (k : ℕ). get_or (set table at entry) (520 * rows + k) 0 ≡ threshold bits rows k) (sym e)
                (get_or-set_same table at entry 0 (omega (arith, h.size, few, next, power)) ∙ is)
            | inr other ↦ get_or-set_other table at (520 * rows + counter) entry 0 (λ e. other (omega (arith, e))) ∙ h.begun counter (omega (arith, lt, other))
          ];
    }

-- one more row
pub row_more : (bits size rows : ℕ) (table : List ℕ) → HasFirst bits size rows (2 ^ size + 8) table → HasFirst bits size (rows + 1) 0 table
row_more bits size rows table h =
    record {
      size = h.size;
      above = λ j counter below inside.
          elim (cases_lt j rows) [
            | inl lt ↦ h.above j counter lt inside
            | inr ge ↦ (let e : rows ≡ j = omega (arith, below, ge) in subst (λ (k : ℕ). get_or table (520 * k + counter) 0 ≡ threshold bits k counter) e (h.begun counter inside))
          ];
      begun = λ counter lt. absurd (omega (arith, lt));
    }

pub all_rows : (bits size rows : ℕ) (table : List ℕ) → bits < rows → HasFirst bits size rows 0 table → AreThresholds bits size table
all_rows bits size rows table most h = record { size = h.size; entries = λ j counter within inside. h.above j counter (omega (arith, within, most)) inside }

-- ---- the code parameter between two thresholds

pub threshold_mid : (bits j counter : ℕ) → 0 < j → j ≤ bits - 2 → threshold bits j counter ≡ counter * 2 ^ j - 49 * counter / 128
unfolding threshold
threshold_mid bits j counter some few = rw (ne_eqb j 0 (λ e. omega (arith, some, e)), le-ltb (bits - 2) j few) refl

-- the level, where the accumulator is at least a threshold, and where it is below one
level_reaches : (bits j : ℕ) (s : Statistics) → 0 < j → j ≤ bits - 2 → threshold bits j s.counter ≤ s.accumulator → s.counter * 2 ^ j ≤ level s
level_reaches bits j s some few low = let e = threshold_mid bits j s.counter some few in omega (arith, rw e at low)

level_below : (bits j : ℕ) (s : Statistics) → 0 < j → j ≤ bits - 2 → s.accumulator < threshold bits j s.counter → level s < s.counter * 2 ^ j
level_below bits j s some few high = let e = threshold_mid bits j s.counter some few in omega (arith, rw e at high)

pub parameter_between : (bits : ℕ) (s : Statistics) (k : ℕ) → k + 2 ≤ bits → threshold bits k s.counter ≤ s.accumulator
    → s.accumulator < threshold bits (k + 1) s.counter → code_parameter bits s ≡ k
parameter_between bits s k within low high =
    elim (cases_eq k 0) [
      | inl none ↦ elim (cases_lt (bits - 2) (k + 1)) [
        | inl last ↦ (let top = parameter_is_greatest bits s in omega (arith, top.within, last, none, within))
        | inr inner ↦ (let below = level_below bits (k + 1) s (omega arith) inner high in
            let two : k + 1 ≡ 1 = omega (arith, none) in
            let small : level s < 2 * s.counter = omega (arith, rw two at below) in
            sym (code_parameter_small bits s small) ∙ sym none)
      ]
      | inr some ↦ (let fits = level_reaches bits k s (omega (arith, some)) (omega (arith, within)) low in
          elim (cases_lt (bits - 2) (k + 1)) [
            | inl last ↦ (let top = parameter_is_greatest bits s in
                let two : 2 ^ 1 ≤ 2 ^ k = pow_mono {i = 1} {j = k} (omega (arith, some)) in
                let product = mul-le s.counter 2 s.counter (2 ^ k) (omega arith) (omega (arith, two)) in
                let least = top.greatest (omega (arith, product, fits)) k (omega (arith, within)) fits in
                omega (arith, top.within, least, last, within))
            | inr inner ↦ (let below = level_below bits (k + 1) s (omega arith) inner high in
                sym (parameter_stays bits s k within fits (omega (arith, below, twice_power s.counter k))))
          ])
    ]
