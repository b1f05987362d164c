-- The bits of numbers as floats, and the logarithm of a quotient.
use Rattle.std.proofs.Common.{ℕ, ◌+◌, ◌-◌, ◌*◌, ◌/◌, ◌%◌, ◌^◌, ◌<◌, ◌≤◌, true, false, T, not, pos, ◌≡◌, sym, ap, ◌∙◌, arith, inl, inr, le→leb, to_z, w32}
use Rattle.std.proofs.lemmas.Bool.{cases_lt, true≢false}
use Rattle.std.proofs.lemmas.Int.{to_z_pos}
use Rattle.std.proofs.lemmas.Nat.{pow_pos, pow-add, mul-le}
use Rattle.std.proofs.Math.Pow.{pow_mono}
use native.Mathlib.Nat.{mul-div_cancel, mul-one, mul_assoc, mul_right_comm}
use lib.Ieee.{Float, nan, inf, fin, binary32, up, down, size, of_int, to_bits, in_float, is_nan}
use lib.Ieee.Back.{round_whole}
use lib.Ieee.Exact.{HasValue}
use lib.Ieee.Digits.{size-lt, size_reaches, size-le}
use lib.Ieee.Fits.{down_pos}
use Rattle.lanes.specs.Lanes.{bits_as_float}

-- ---- a number as a float

-- a number in units of the least float, and how many digits of it a float leaves out
abbrev pub units_of : ℕ → ℕ
units_of n = n * 2 ^ 149

abbrev pub left_out : ℕ → ℕ
left_out n = size (units_of n) - 24

value_bits : (x : Float) (n : ℕ) → HasValue x false n 1 → to_bits binary32 x ≡ left_out n * 2 ^ 23 + units_of n / 2 ^ left_out n
unfolding to_bits
value_bits (fin true m e) n v = absurd (true≢false v.0)
value_bits (fin false m e) n v =
    let scaled : m * up e ≡ n * down e = sym (mul-one (m * up e)) ∙ v.1 in
    let whole : m * up e * 2 ^ 149 / down e ≡ units_of n =
    ap (λ (x : ℕ). x * 2 ^ 149 / down e) scaled ∙ ap (λ (x : ℕ). x / down e) (mul_right_comm n (down e) (2 ^ 149)) ∙ mul-div_cancel (units_of n) (down_pos e) in
    ap (λ (u : ℕ). 0 + (size u - 24) * 2 ^ 23 + u / 2 ^ (size u - 24)) whole ∙ omega arith
value_bits nan n v = elim v [ ]
value_bits (inf s) n v = elim v [ ]

no_nan : (x : Float) (n : ℕ) → HasValue x false n 1 → T (not (is_nan x))
unfolding is_nan
no_nan (fin s m e) n v = tt
no_nan nan n v = elim v [ ]
no_nan (inf s) n v = elim v [ ]

has_value : (n : ℕ) → n < 2 ^ 24 → HasValue (of_int binary32 (pos n)) false n 1
unfolding of_int
has_value n lt = round_whole binary32 false n (omega arith)

pub is_float : (n : ℕ) → n < 2 ^ 24 → T (in_float binary32 (pos n))
unfolding in_float
is_float n lt = le→leb n (2 ^ 24) (omega arith)

pub is_number : (n : ℕ) → n < 2 ^ 24 → T (not (is_nan (of_int binary32 (pos n))))
is_number n lt = no_nan (of_int binary32 (pos n)) n (has_value n lt)

pub same_number : (n : ℕ) → n < 2 ^ 24 → to_z w32 n ≡ pos n
same_number n lt = to_z_pos w32 n (omega arith)

-- ---- its exponent and its digits

pub record IsNormal (n exponent digits : ℕ) : Type 0 where
  pub whole : units_of n ≡ digits * 2 ^ exponent
  pub least : 2 ^ 23 ≤ digits
  pub most : digits < 2 ^ 24
  pub bound : exponent ≤ 149
  pub bits : bits_as_float n ≡ exponent * 2 ^ 23 + digits

pub normal : (n : ℕ) → 1 ≤ n → n < 2 ^ 24 → IsNormal n (left_out n) (units_of n / 2 ^ left_out n)
normal n some lt =
    let u : ℕ = units_of n in
    let s : ℕ = size u in
    let least : 150 ≤ s = elim (cases_lt s 150) [
      | inl few ↦ (let p : 2 ^ s ≤ 2 ^ 149 = pow_mono {i = s} {j = 149} (omega arith) in absurd (omega (arith, size-lt u, p)))
      | inr many ↦ many
    ] in
    let most : s ≤ 173 = size-le u 173 (omega arith) in
    let l : ℕ = s - 24 in
    let up : 149 - l + l ≡ 149 = omega (arith, most) in
    let split : 2 ^ 149 ≡ 2 ^ (149 - l) * 2 ^ l = ap (λ (k : ℕ). 2 ^ k) (sym up) ∙ pow-add 2 (149 - l) l in
    let parts : u ≡ n * 2 ^ (149 - l) * 2 ^ l = ap (λ (p : ℕ). n * p) split ∙ sym (mul_assoc n (2 ^ (149 - l)) (2 ^ l)) in
    let digits : u / 2 ^ l ≡ n * 2 ^ (149 - l) = ap (λ (x : ℕ). x / 2 ^ l) parts ∙ mul-div_cancel (n * 2 ^ (149 - l)) (pow_pos l) in
    let whole : u ≡ u / 2 ^ l * 2 ^ l = parts ∙ ap (λ (d : ℕ). d * 2 ^ l) (sym digits) in
    let above : 24 + l ≡ s = omega (arith, least) in
    let below : 23 + l ≡ s - 1 = omega (arith, least) in
    let top : 2 ^ s ≡ 2 ^ 24 * 2 ^ l = ap (λ (k : ℕ). 2 ^ k) (sym above) ∙ pow-add 2 24 l in
    let bottom : 2 ^ (s - 1) ≡ 2 ^ 23 * 2 ^ l = ap (λ (k : ℕ). 2 ^ k) (sym below) ∙ pow-add 2 23 l in
    let reached = size_reaches u (s - 1) (omega (arith, least)) in
    record {
      whole = whole;
      least = elim (cases_lt (u / 2 ^ l) (2 ^ 23)) [
        | inl few ↦ (let p = mul-le (u / 2 ^ l + 1) (2 ^ l) (2 ^ 23) (2 ^ l) (omega (arith, few)) (omega arith) in
            let next : (u / 2 ^ l + 1) * 2 ^ l ≡ u / 2 ^ l * 2 ^ l + 2 ^ l = grind arith in
            absurd (omega (arith, p, next, whole, bottom, reached, pow_pos l)))
        | inr many ↦ many
      ];
      most = elim (cases_lt (u / 2 ^ l) (2 ^ 24)) [
        | inl few ↦ few
        | inr many ↦ (let p = mul-le (2 ^ 24) (2 ^ l) (u / 2 ^ l) (2 ^ l) many (omega arith) in absurd (omega (arith, p, whole, top, size-lt u)))
      ];
      bound = omega (arith, most);
      bits = value_bits (of_int binary32 (pos n)) n (has_value n lt);
    }

-- ---- the logarithm of a quotient

-- a number is at least another, doubled so often, and less than that doubled once more
pub record IsLogarithm (by a log : ℕ) : Type 0 where
  pub fits : by * 2 ^ log ≤ a
  pub passes : a < 2 * (by * 2 ^ log)

module _ (g a e d f c : ℕ) (small : IsNormal g e d) (large : IsNormal a f c) (order : g ≤ a) where
  exponents : e ≤ f
  exponents =
      elim (cases_lt f e) [
        | inl lt ↦ (let p : 2 ^ (f + 1) ≤ 2 ^ e = pow_mono {i = f + 1} {j = e} (omega arith) in
            let q = mul-le (c + 1) (2 ^ f) (2 ^ 24) (2 ^ f) (omega (arith, large.most)) (omega arith) in
            let r = mul-le (2 ^ 23) (2 ^ (f + 1)) d (2 ^ e) small.least p in
            let next : (c + 1) * 2 ^ f ≡ c * 2 ^ f + 2 ^ f = grind arith in
            absurd (omega (arith, order, q, r, next, pow-add 2 f 1, pow_pos f, small.whole, large.whole)))
        | inr ge ↦ ge
      ]

  -- with digits d' and c', of which the first are to be doubled r times
  scaled : (r k : ℕ) → k ≡ e + r → units_of (g * 2 ^ r) ≡ d * 2 ^ k
  scaled r k is =
      mul_right_comm g (2 ^ r) (2 ^ 149) ∙ ap (λ (x : ℕ). x * 2 ^ r) small.whole ∙ mul_assoc d (2 ^ e) (2 ^ r)
      ∙ ap (λ (x : ℕ). d * x) (sym (pow-add 2 e r) ∙ ap (λ (j : ℕ). 2 ^ j) (sym is))

  -- digits that are fewer go with an exponent that is greater
  fewer : c < d → e < f
  fewer lt =
      elim (cases_lt e f) [
        | inl more ↦ more
        | inr same ↦ (let equal : f ≡ e = omega (arith, exponents, same) in
            let p = mul-le (c + 1) (2 ^ f) d (2 ^ f) (omega (arith, lt)) (omega arith) in
            let next : (c + 1) * 2 ^ f ≡ c * 2 ^ f + 2 ^ f = grind arith in
            let there : units_of g ≡ d * 2 ^ f = rw equal small.whole in
            absurd (omega (arith, order, p, next, pow_pos f, there, large.whole)))
      ]

  pub bits_ordered : e * 2 ^ 23 + d ≤ f * 2 ^ 23 + c
  bits_ordered =
      elim (cases_lt c d) [
        | inl lt ↦ omega (arith, fewer lt, small.most, large.least)
        | inr ge ↦ omega (arith, exponents, ge)
      ]

  pub logarithm : IsLogarithm g a ((f * 2 ^ 23 + c - (e * 2 ^ 23 + d)) / 2 ^ 23)
  logarithm = elim (cases_lt c d) [ inl lt ↦ borrowed lt (fewer lt) | inr ge ↦ plain ge ]
    where
      plain : d ≤ c → IsLogarithm g a ((f * 2 ^ 23 + c - (e * 2 ^ 23 + d)) / 2 ^ 23)
      plain ge =
          let r : ℕ = f - e in
          let is : (f * 2 ^ 23 + c - (e * 2 ^ 23 + d)) / 2 ^ 23 ≡ r = omega (arith, exponents, ge, large.most, small.least) in
          let s = scaled r f (omega (arith, exponents)) in
          let low = mul-le d (2 ^ f) c (2 ^ f) ge (omega arith) in
          let high = mul-le (c + 1) (2 ^ f) (2 * d) (2 ^ f) (omega (arith, large.most, small.least)) (omega arith) in
          let next : (c + 1) * 2 ^ f ≡ c * 2 ^ f + 2 ^ f = grind arith in
          let twice : 2 * d * 2 ^ f ≡ 2 * (d * 2 ^ f) = grind arith in
          rw is (record { fits = omega (arith, s, low, large.whole); passes = omega (arith, s, high, next, twice, large.whole, pow_pos f) })

      borrowed : c < d → e < f → IsLogarithm g a ((f * 2 ^ 23 + c - (e * 2 ^ 23 + d)) / 2 ^ 23)
      borrowed lt more =
          let r : ℕ = f - 1 - e in
          let k : ℕ = f - 1 in
          let is : (f * 2 ^ 23 + c - (e * 2 ^ 23 + d)) / 2 ^ 23 ≡ r = omega (arith, more, lt, small.most, large.least) in
          let s = scaled r k (omega (arith, more)) in
          let up : 2 ^ f ≡ 2 ^ k * 2 ^ 1 = (let e : f ≡ k + 1 = omega (arith, more) in ap (λ (j : ℕ). 2 ^ j) e ∙ pow-add 2 k 1) in
          let low = mul-le d (2 ^ k) (2 * c) (2 ^ k) (omega (arith, small.most, large.least)) (omega arith) in
          let high = mul-le (c + 1) (2 ^ f) d (2 ^ f) (omega (arith, lt)) (omega arith) in
          let next : (c + 1) * 2 ^ f ≡ c * 2 ^ f + 2 ^ f = grind arith in
          let twice : 2 * c * 2 ^ k ≡ c * (2 ^ k * 2 ^ 1) = grind arith in
          let double : d * (2 ^ k * 2 ^ 1) ≡ 2 * (d * 2 ^ k) = grind arith in
          let there : units_of a ≡ c * (2 ^ k * 2 ^ 1) = large.whole ∙ ap (λ (x : ℕ). c * x) up in
          let above : d * 2 ^ f ≡ d * (2 ^ k * 2 ^ 1) = ap (λ (x : ℕ). d * x) up in
          rw is (record { fits = omega (arith, s, low, twice, there); passes = omega (arith, s, high, next, double, above, large.whole, pow_pos f) })

-- a difference of bits, divided by 2^23
pub logarithm_of : (g a : ℕ) → 1 ≤ g → g ≤ a → a < 2 ^ 24
    → IsLogarithm g a ((bits_as_float a + (2 ^ 32 - bits_as_float g)) % 2 ^ 32 / 2 ^ 23)
logarithm_of g a some order lt =
    let small = normal g some (omega (arith, order, lt)) in
    let large = normal a (omega (arith, some, order)) lt in
    let e : ℕ = left_out g in let d : ℕ = units_of g / 2 ^ left_out g in
    let f : ℕ = left_out a in let c : ℕ = units_of a / 2 ^ left_out a in
    let up = bits_ordered g a e d f c small large order in
    let is : (f * 2 ^ 23 + c + (2 ^ 32 - (e * 2 ^ 23 + d))) % 2 ^ 32 ≡ f * 2 ^ 23 + c - (e * 2 ^ 23 + d) =
    omega (arith, up, large.bound, large.most, small.bound, small.most) in
    rw (small.bits, large.bits, is) (logarithm g a e d f c small large order)
