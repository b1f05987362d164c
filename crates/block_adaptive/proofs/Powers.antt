-- Numbers and powers of two.
use Rattle.std.proofs.Common.{◌≡◌, ℕ, ◌+◌, ◌-◌, ◌*◌, ◌/◌, ◌%◌, ◌^◌, ◌<◌, ◌≤◌, sym, ap, subst, ◌∙◌, arith, pow_pos, lit<, suc, ◌⊎◌, leb, Bool, true, false, ◌&&◌}
use Rattle.std.proofs.Common.{inl, inr, refl}
use Rattle.std.proofs.lemmas.Nat.{mul-le, shr-shr, pow-add}
use Rattle.std.proofs.Math.Nat.{div-mul-le_self, mod-eq_of_lt, pow-le-pow_right, lt-div-mul-add, pow-succ'}
use Rattle.cube_core.proofs.Bounds.{power_grows}
use Rattle.header_bits.proofs.Windows.{two_shifts}
use Rattle.std.proofs.lemmas.Bool.{cases_lt}
use Rattle.std.proofs.lemmas.Bool.Decides.{nat_tests}

pub low_few : (low k : ℕ) → low < 2 ^ k → k ≤ 15 → low < 32768
low_few low k lt le = (let wide : 2 ^ k ≤ 32768 = power_grows k 15 le in omega arith)

-- a quotient that is small enough for any low bits: no bit is lost
pub whole_small : (q k low most : ℕ) → most < 65536 → (q + 1) * 2 ^ k ≤ most + 1 → low < 2 ^ k → (q * 2 ^ k % 65536 ≡ q * 2 ^ k) × (q * 2 ^ k + low ≤ most)
whole_small q k low most small within lt =
    let parts : (q + 1) * 2 ^ k ≡ q * 2 ^ k + 2 ^ k = omega arith in
    (mod-eq_of_lt (omega arith), omega arith)

-- nor in a test for the greatest
pub greatest_shifted : (most k : ℕ) → most < 65536 → k ≤ 15 → (most / 2 ^ k + 1) * 2 ^ k % 4294967296 ≡ (most / 2 ^ k + 1) * 2 ^ k
greatest_shifted most k small le =
    let wide : 2 ^ k ≤ 32768 = power_grows k 15 le in
    let under : most / 2 ^ k * 2 ^ k ≤ most = div-mul-le_self most (2 ^ k) in
    let parts : (most / 2 ^ k + 1) * 2 ^ k ≡ most / 2 ^ k * 2 ^ k + 2 ^ k = omega arith in
    mod-eq_of_lt (omega arith)

-- the word shifted down to the end of the fourth, and from there to the ends of those before
pub four_shifts : (word k : ℕ) → k ≤ 14 → (word / 2 / 2 ^ (63 - 4 * k) ≡ word / 2 ^ (64 - 4 * k)) × (word / 2 / 2 ^ (63 - 4 * k) / 2 ^ k
    ≡ word / 2 ^ (64 - 3 * k)) × (word / 2 / 2 ^ (63 - 4 * k) / 2 ^ k / 2 ^ k ≡ word / 2 ^ (64 - 2 * k)) × (word / 2 / 2 ^ (63 - 4 * k) / 2 ^ k / 2 ^ k / 2 ^ k
    ≡ word / 2 ^ (64 - k))
four_shifts word k le =
    let down : (a b : ℕ) → a + k ≡ b → word / 2 ^ a / 2 ^ k ≡ word / 2 ^ b = λ a b e. shr-shr word a k ∙ ap (λ (n : ℕ). word / 2 ^ n) e in
    let fourth : word / 2 / 2 ^ (63 - 4 * k) ≡ word / 2 ^ (64 - 4 * k) = two_shifts word (4 * k) (omega arith) in
    let third : word / 2 / 2 ^ (63 - 4 * k) / 2 ^ k ≡ word / 2 ^ (64 - 3 * k) = ap (λ (n : ℕ). n / 2 ^ k) fourth
    ∙ down (64 - 4 * k) (64 - 3 * k) (omega arith) in
    let second : word / 2 / 2 ^ (63 - 4 * k) / 2 ^ k / 2 ^ k ≡ word / 2 ^ (64 - 2 * k) = ap (λ (n : ℕ). n / 2 ^ k) third
    ∙ down (64 - 3 * k) (64 - 2 * k) (omega arith) in
    (fourth, third, second, ap (λ (n : ℕ). n / 2 ^ k) second ∙ down (64 - 2 * k) (64 - k) (omega arith))

-- a quotient, and the next: half of it
pub halves : (v k : ℕ) → (2 * (v / 2 ^ suc k) ≤ v / 2 ^ k) × (v / 2 ^ k ≤ 2 * (v / 2 ^ suc k) + 1)
halves v k =
    let size : k + 1 ≡ suc k = omega arith in
    let half : v / 2 ^ k / 2 ≡ v / 2 ^ suc k = subst (λ (n : ℕ). v / 2 ^ k / 2 ≡ v / 2 ^ n) size (shr-shr v k 1) in
    (omega arith, omega arith)

pub falls_one : (v k : ℕ) → v + 1 + 2 * 2 ^ k * (v / 2 ^ suc k) ≤ 2 * 2 ^ k * (v / 2 ^ k) + 2 * 2 ^ k
falls_one v k =
    let h : ℕ = 2 ^ k in
    let x : ℕ = v / 2 ^ k in
    let y : ℕ = v / 2 ^ suc k in
    let top : v < y * (2 * h) + 2 * h = subst (λ (p : ℕ). v < y * p + p) (pow-succ' 2 k) (lt-div-mul-add {a = v} {b = 2 ^ suc k} (pow_pos (suc k))) in
    let twice : h * (2 * y) ≤ h * x = mul-le h (2 * y) h x (omega arith) (halves v k).0 in
    omega arith

pub rises_one : (v k : ℕ) → 2 * 2 ^ k * (v / 2 ^ k) ≤ 2 * 2 ^ k * (v / 2 ^ suc k) + v + 2 ^ k
rises_one v k =
    let h : ℕ = 2 ^ k in
    let x : ℕ = v / 2 ^ k in
    let y : ℕ = v / 2 ^ suc k in
    let under : x * h ≤ v = div-mul-le_self v h in
    let next : h * x ≤ h * (2 * y + 1) = mul-le h x h (2 * y + 1) (omega arith) (halves v k).1 in
    omega arith

-- a k that is so far below the sum's digits lies where it falls
pub near_falls : (sum len a b first : ℕ) → 2 ^ a ≤ sum → len < 2 * 2 ^ b → first + (b + 2) ≤ a → len * 2 ^ (first + 1) < sum
near_falls sum len a b first least most le =
    let p : ℕ = 2 ^ (first + 1) in
    let size : b + 1 + (first + 1) ≡ first + (b + 2) = omega arith in
    let e : b + 1 ≡ suc b = omega arith in
    let double : 2 ^ (b + 1) ≡ 2 * 2 ^ b = ap (λ (n : ℕ). 2 ^ n) e ∙ pow-succ' 2 b in
    let whole : 2 ^ (first + (b + 2)) ≡ 2 * 2 ^ b * p = ap (λ (n : ℕ). 2 ^ n) (sym size) ∙ pow-add 2 (b + 1) (first + 1) ∙ ap (λ (n : ℕ). n * p) double in
    let up : 2 ^ (first + (b + 2)) ≤ 2 ^ a = pow-le-pow_right {n = 2} (lit< tt) {i = first + (b + 2)} {j = a} le in
    let pos : 1 ≤ p = pow_pos (first + 1) in
    let under : (len + 1) * p ≤ 2 * 2 ^ b * p = mul-le (len + 1) p (2 * 2 ^ b) p (omega arith) (omega arith) in
    omega arith

-- a step further on the values are small for their number
pub near_rises : (sum len a b first : ℕ) → sum < 2 * 2 ^ a → 2 ^ b ≤ len → a ≤ first + (b + 2) → sum ≤ len * 2 ^ (first + 3)
near_rises sum len a b first most least le =
    let p : ℕ = 2 ^ (first + 3) in
    let size : b + (first + 3) ≡ suc (first + (b + 2)) = omega arith in
    let whole : 2 * 2 ^ (first + (b + 2)) ≡ 2 ^ b * p = sym (pow-succ' 2 (first + (b + 2))) ∙ ap (λ (n : ℕ). 2 ^ n) (sym size) ∙ pow-add 2 b (first + 3) in
    let up : 2 ^ a ≤ 2 ^ (first + (b + 2)) = pow-le-pow_right {n = 2} (lit< tt) {i = a} {j = first + (b + 2)} le in
    let under : 2 ^ b * p ≤ len * p = mul-le (2 ^ b) p len p least (omega arith) in
    omega arith

pub later : (a b c t u : ℕ) → b < a → (a < c) ⊎ ((a ≡ c) × (t ≤ u)) → b < c
later a b c t u lt h = grind arith

pub either : (a b t u : ℕ) → a ≤ b → t ≤ u → (a < b) ⊎ ((a ≡ b) × (t ≤ u))
either a b t u le turns = elim (cases_lt a b) [ inl lt ↦ inl lt | inr ge ↦ inr (omega arith, turns) ]

pub both_lead : (a b t u : ℕ) → (a < b) ⊎ ((a ≡ b) × (t ≤ u)) → (b < a) ⊎ ((b ≡ a) × (u ≤ t)) → t ≡ u
both_lead a b t u p q = grind arith

pub lead_cost : (a b t u : ℕ) → (a < b) ⊎ ((a ≡ b) × (t ≤ u)) → a ≤ b
lead_cost a b t u h = grind arith

-- where fewer numbers were handled than all blocks have, a block is left
pub block_left : (size count many held : ℕ) → many * size + held < count * size → many < count
block_left size count many held few =
    elim (cases_lt many count) [
      | inl lt ↦ lt
      | inr ge ↦ (let p = mul-le count size many size ge (omega arith) in absurd (omega arith))
    ]

pub leb-true : (a b : ℕ) → leb a b ≡ true → a ≤ b
leb-true a b h = grind (arith, nat_tests)

pub leb-false : (a b : ℕ) → leb a b ≡ false → b < a
leb-false a b h = grind (arith, nat_tests)

pub and_true : (a b : Bool) → (a && b) ≡ true → (a ≡ true) × (b ≡ true)
and_true true true h = (refl, refl)
and_true true false h = absurd cc
and_true false b h = absurd cc
