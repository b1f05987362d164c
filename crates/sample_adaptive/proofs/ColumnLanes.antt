-- One lane of eight bands of a column: the code parameter, and the code word.
use Rattle.std.proofs.Common.{◌≡◌, ℕ, zero, suc, ◌+◌, ◌-◌, ◌*◌, ◌/◌, ◌%◌, ◌^◌, ◌<◌, ◌≤◌, min, max, sym, ap, ap₂, ◌∙◌, inl, inr, arith}
use Rattle.std.proofs.lemmas.Bool.{cases_lt}
use Rattle.std.proofs.lemmas.Nat.{pow_pos, pow-add, mul-le, shr-shr, div-mul-add}
use Rattle.std.proofs.Math.Nat.{mod-eq_of_lt, mod-lt, pow-succ'}
use Rattle.std.proofs.Math.Pow.{pow_mono}
use native.Mathlib.Nat.{mul-div_cancel}
use Rattle.header_bits.specs.Bits.{bits_of}
use Rattle.sample_adaptive.specs.declared.statistics.Statistics.{Statistics}
use Rattle.sample_adaptive.specs.Statistics.{level, code_parameter}
use Rattle.sample_adaptive.specs.Words.{code_word}
use Rattle.sample_adaptive.proofs.Counting.{code_parameter_small, parameter_stays, parameter_is_greatest, twice_power}
use Rattle.sample_adaptive.proofs.Forms.{plain_word, plain_below}

-- ---- the code parameter, from the logarithm of a level that is held between two products of the counter

pub record IsParameter (bits : ℕ) (s : Statistics) (log : ℕ) : Type 0 where
  pub value : log ≡ code_parameter bits s
  pub most : log + 2 ≤ bits

pub held_parameter : (bits : ℕ) (s : Statistics) (held log : ℕ) → 2 ≤ bits → 1 ≤ s.counter → held ≡ max s.counter (min (level s) (s.counter * 2 ^ (bits - 1) - 1))
    → s.counter * 2 ^ log ≤ held → held < 2 * (s.counter * 2 ^ log) → IsParameter bits s log
held_parameter bits s held log least some is fits passes =
    record {
      value = elim (cases_lt (level s) (2 * s.counter)) [
        | inl small ↦ elim (cases_lt 0 log) [
          | inl more ↦ (let p = mul-le s.counter (2 ^ 1) s.counter (2 ^ log) (omega arith) (pow_mono {i = 1} {j = log} (omega (arith, more))) in absurd (omega (arith, p, is, fits, small)))
          | inr none ↦ (let e : log ≡ 0 = omega (arith, none) in e ∙ code_parameter_small bits s small)
        ]
        | inr large ↦ elim (cases_lt (level s) (s.counter * 2 ^ (bits - 1))) [
          | inl inner ↦ (let e : held ≡ level s = omega (arith, is, inner, large, some) in parameter_stays bits s log few (omega (arith, fits, e)) (omega (arith, passes, e)))
          | inr outer ↦ (let top = parameter_is_greatest bits s in
              let e : held ≡ s.counter * 2 ^ (bits - 1) - 1 = omega (arith, is, outer, twice, double, some) in
              let last : log ≡ bits - 2 = elim (cases_lt log (bits - 2)) [
                | inl less ↦ (let p = mul-le s.counter (2 ^ (log + 1)) s.counter (2 ^ (bits - 2)) (omega arith) (pow_mono {i = log + 1} {j = bits - 2} (omega (arith, less))) in
                    absurd (omega (arith, p, twice_power s.counter log, passes, e, twice, lone)))
                | inr more ↦ omega (arith, more, few)
              ] in
              let reach = top.greatest large (bits - 2) (omega arith) (omega (arith, outer, twice)) in
              omega (arith, last, reach, top.within))
        ]
      ];
      most = few;
    }
  where
    next : bits - 2 + 1 ≡ bits - 1
    next = omega (arith, least)

    twice : s.counter * 2 ^ (bits - 1) ≡ 2 * (s.counter * 2 ^ (bits - 2))
    twice = ap (λ (k : ℕ). s.counter * 2 ^ k) (sym next) ∙ twice_power s.counter (bits - 2)

    lone : s.counter ≤ s.counter * 2 ^ (bits - 2)
    lone = let p = mul-le s.counter 1 s.counter (2 ^ (bits - 2)) (omega arith) (omega (arith, pow_pos (bits - 2))) in omega (arith, p)

    double : s.counter ≤ s.counter * 2 ^ (bits - 2)
    double = lone

    few : log + 2 ≤ bits
    few = elim (cases_lt (bits - 2) log) [
      | inl more ↦ (let p = mul-le s.counter (2 ^ (bits - 1)) s.counter (2 ^ log) (omega arith) (pow_mono {i = bits - 1} {j = log} (omega (arith, more, least))) in
          absurd (omega (arith, p, fits, is, twice, lone, some)))
      | inr less ↦ omega (arith, less, least)
    ]

-- the same in a lane, as it is computed
pub parameter_lane : (bits counter accumulator level held log : ℕ) → 2 ≤ bits → bits ≤ 16 → 1 ≤ counter → counter < 2 ^ 9 → level ≡ accumulator + 49 * counter / 128
    → held ≡ max counter (min level (counter * 2 ^ (bits - 1) % 4294967296 - 1)) → counter * 2 ^ log ≤ held → held < 2 * (counter * 2 ^ log)
    → IsParameter bits (record { counter = counter; accumulator = accumulator }) log
parameter_lane bits counter accumulator level held log least most some few is between fits passes =
    let p = mul-le counter (2 ^ (bits - 1)) 512 (2 ^ 15) (omega (arith, few)) (pow_mono {i = bits - 1} {j = 15} (omega (arith, most))) in
    let whole : counter * 2 ^ (bits - 1) % 4294967296 ≡ counter * 2 ^ (bits - 1) = mod-eq_of_lt (omega (arith, p)) in
    held_parameter bits (record { counter = counter; accumulator = accumulator }) held log least some (rw (whole, is) at between) fits passes

-- ---- the code word

more_than : (n : ℕ) → n < 2 ^ n
more_than zero = pow_pos 0
more_than (suc n) = omega (arith, more_than n, pow-succ' 2 n)

-- the upper half of a product of a doubled number
quotient_is : (h k : ℕ) → k ≤ 14 → (h + h) * 2 ^ (15 - k) / 65536 ≡ h / 2 ^ k
quotient_is h k le =
    let a : 15 - k + 1 ≡ 16 - k = omega (arith, le) in
    let b : 16 - k + k ≡ 16 = omega (arith, le) in
    let up : 2 ^ (16 - k) ≡ 2 ^ (15 - k) * 2 ^ 1 = ap (λ (n : ℕ). 2 ^ n) (sym a) ∙ pow-add 2 (15 - k) 1 in
    let e : (h + h) * 2 ^ (15 - k) ≡ h * (2 ^ (15 - k) * 2 ^ 1) = grind arith in
    ap (λ (n : ℕ). n / 65536) (e ∙ ap (λ (p : ℕ). h * p) (sym up)) ∙ ap (λ (n : ℕ). h * 2 ^ (16 - k) / 2 ^ n) (sym b)
    ∙ sym (shr-shr (h * 2 ^ (16 - k)) (16 - k) k) ∙ ap (λ (n : ℕ). n / 2 ^ k) (mul-div_cancel h (pow_pos (16 - k)))

-- a number that is held has a quotient too large for a short word
held_is_long : (k : ℕ) → k ≤ 14 → 15 ≤ 32767 / 2 ^ k + k
held_is_long k le =
    let p : 2 ^ (15 - k) * 2 ^ k ≡ 2 ^ 15 = sym (pow-add 2 (15 - k) k) ∙ (let e : 15 - k + k ≡ 15 = omega (arith, le) in ap (λ (n : ℕ). 2 ^ n) e) in
    let some = pow_pos (15 - k) in let one = pow_pos k in
    let q : ℕ = 2 ^ (15 - k) - 1 in
    let less : q + 1 ≡ 2 ^ (15 - k) = omega (arith, some) in
    let parts : (q + 1) * 2 ^ k ≡ q * 2 ^ k + 2 ^ k = grind arith in
    let whole : 32767 ≡ q * 2 ^ k + (2 ^ k - 1) = omega (arith, p, parts, ap (λ (n : ℕ). n * 2 ^ k) less, one) in
    let e : 32767 / 2 ^ k ≡ q = ap (λ (n : ℕ). n / 2 ^ k) whole ∙ div-mul-add q (2 ^ k) (2 ^ k - 1) (omega (arith, one)) in
    omega (arith, e, more_than (15 - k), le)

-- what a lane has, where its length is within the limits
pub record IsShortWord (limit k residual bits length : ℕ) : Type 0 where
  pub short : length ≤ 14
  pub below : bits < 2 ^ length
  pub text : (d : ℕ) → bits_of length bits ≡ code_word (record { limit = limit; k = k; bits = d }) residual

pub short_word : (limit k residual held one quotient bits length : ℕ) → k ≤ 14 → held ≡ min residual 32767 → quotient ≡ (held + held) * 2 ^ (15 - k) / 65536
    → length ≡ quotient + k + 1 → one ≡ 2 ^ k → bits ≡ residual % 2 ^ k + one → length ≤ min (k + limit) 14 → IsShortWord limit k residual bits length
short_word limit k residual held one quotient bits length le h q l o b within =
    record {
      short = omega (arith, within);
      below = rw (number, long) (plain_below (residual / 2 ^ k) k residual);
      text = λ d. rw (number, long) (plain_word (record { limit = limit; k = k; bits = d }) residual (omega (arith, within, l, share)));
    }
  where
    whole : quotient ≡ held / 2 ^ k
    whole = q ∙ quotient_is held k le

    fits : held ≡ residual
    fits = elim (cases_lt residual 32768) [
      | inl lt ↦ omega (arith, h, lt)
      | inr ge ↦ (let e : held ≡ 32767 = omega (arith, h, ge) in
          let long : quotient ≡ 32767 / 2 ^ k = whole ∙ ap (λ (n : ℕ). n / 2 ^ k) e in
          absurd (omega (arith, long, held_is_long k le, l, within)))
    ]

    share : quotient ≡ residual / 2 ^ k
    share = whole ∙ ap (λ (n : ℕ). n / 2 ^ k) fits

    long : length ≡ residual / 2 ^ k + 1 + k
    long = omega (arith, l, share)

    number : bits ≡ 2 ^ k + residual % 2 ^ k
    number = omega (arith, b, o)

-- the same, as each step computes it
pub short_lane : (limit k residual one inverse held doubled quotient part length cap most rest bits : ℕ) → k ≤ 14 → limit ≤ 32 → one ≡ 2 ^ k → inverse ≡ 2 ^ (15 - k)
    → held ≡ min residual 32767 → (held + held < 2 ^ 16 → doubled ≡ held + held) → quotient ≡ doubled * inverse / 2 ^ 16 → (quotient + k < 2 ^ 16 → part ≡ quotient + k)
    → (part + 1 < 2 ^ 16 → length ≡ part + 1) → (k + limit < 2 ^ 16 → cap ≡ k + limit) → most ≡ min cap 14 → rest ≡ residual % 2 ^ k → (rest + one < 2 ^ 16 → bits ≡ rest + one)
    → length ≤ most → IsShortWord limit k residual bits length
short_lane limit k residual one inverse held doubled quotient part length cap most rest bits le few o i h twice q p l c m r b within =
    let d : doubled ≡ held + held = twice (omega (arith, h)) in
    let power : 2 ^ (15 - k) ≤ 2 ^ 15 = pow_mono {i = 15 - k} {j = 15} (omega arith) in
    let product = mul-le doubled inverse 65534 32768 (omega (arith, d, h)) (omega (arith, i, power)) in
    let part_is = p (omega (arith, q, product, le)) in
    let length_is = l (omega (arith, part_is, q, product, le)) in
    let cap_is = c (omega (arith, le, few)) in
    let low : residual % 2 ^ k < 2 ^ k = mod-lt residual (pow_pos k) in
    let own : 2 ^ k ≤ 2 ^ 14 = pow_mono {i = k} {j = 14} le in
    let bits_are = b (omega (arith, r, o, low, own)) in
    short_word limit k residual held one quotient bits length le h (q ∙ ap₂ (λ (x y : ℕ). x * y / 65536) d i)
    (omega (arith, length_is, part_is)) o (omega (arith, bits_are, r)) (omega (arith, within, m, cap_is))
