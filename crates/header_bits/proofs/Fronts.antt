-- Steps of reading that went well or failed, and what stands at the front of bits.
use Rattle.std.proofs.Common.{◌≡◌, ℕ, zero, suc, ◌+◌, ◌-◌, ◌^◌, ◌<◌, ◌⊎◌, Bool, true, false, cond, ltb, List, [], ◌∷◌, ◌++◌, length, take, drop, replicate}
use Rattle.std.proofs.Common.{Result, Ok, Err, refl, ap, subst, ◌∙◌, inl, inr, arith, lit<}
use Rattle.std.proofs.lemmas.List.{length-replicate}
use Rattle.std.proofs.Math.Nat.{pow-succ'}
use Rattle.std.proofs.lemmas.Nat.{pow_pos}
use Rattle.cube_core.specs.declared.fault.Fault.{Fault}
use Rattle.cube_core.specs.declared.fault.Fault.TheVariants.{Truncated}
use Rattle.cube_core.specs.Steps.{◌>>=◌}
use Rattle.header_bits.specs.Bits.{bits_of, weight_of, number_of, fundamental}
use Rattle.header_bits.specs.Reading.{one_more, number_at, zeros_at}
use Rattle.header_bits.proofs.Numbers.{bits_of-number_of, bits_of_zero}
use Rattle.header_bits.proofs.Reading.{done, ok_is, number_again}
use Rattle.std.specs.Prelude.{if◌then◌else◌}

-- ---- steps that went well

pub bind_ok : {A B : Type 0} (r : Result A Fault) (f : A → Result B Fault) (y : B) → (r >>= f) ≡ Ok y → (x : A) × (r ≡ Ok x) × (f x ≡ Ok y)
bind_ok (Ok x) f y e = (x, refl, e)
bind_ok (Err d) f y e = absurd cc

pub guard_ok : {A : Type 0} (b : Bool) (d : Fault) (r : Result A Fault) (y : A) → cond b (Err d) r ≡ Ok y → (b ≡ false) × (r ≡ Ok y)
guard_ok true d r y e = absurd cc
guard_ok false d r y e = (refl, e)

pub by_test : (b : Bool) → (b ≡ true) ⊎ (b ≡ false)
by_test true = inl refl
by_test false = inr refl

pub cond_ok : {A : Type 0} (b : Bool) (r s : Result A Fault) (y : A) → (if b then r else s) ≡ Ok y → ((b ≡ true) × (r ≡ Ok y)) ⊎ ((b ≡ false) × (s ≡ Ok y))
cond_ok true r s y e = inl (refl, e)
cond_ok false r s y e = inr (refl, e)

-- ---- steps that failed

abbrev pub failed : {A : Type 0} → Fault → Result A Fault
failed e = Err e

pub fault_is : {A : Type 0} (d e : Fault) → failed {A = A} d ≡ failed {A = A} e → d ≡ e
fault_is d e h = cc

pub bind_err : {A B : Type 0} (r : Result A Fault) (f : A → Result B Fault) (e : Fault) → (r >>= f) ≡ Err e
    → (r ≡ Err e) ⊎ ((x : A) × (r ≡ Ok x) × (f x ≡ Err e))
bind_err (Ok x) f e h = inr (x, refl, h)
bind_err (Err d) f e h = inl (ap (λ (k : Fault). Err k) (fault_is d e h))

test_fault : {A : Type 0} (b : Bool) (d e : Fault) (x : A) → cond b (failed d) (done x) ≡ Err e → d ≡ e
test_fault true d e x h = fault_is d e h
test_fault false d e x h = absurd cc

-- a number isn't read for want of bits alone
pub number_fault : (count n : ℕ) (bits : List Bool) (e : Fault) → number_at count n bits ≡ Err e → Truncated count ≡ e
unfolding number_at
number_fault count n bits e h = test_fault (ltb (length bits) n) (Truncated count) e (number_of (take n bits), drop n bits) h

one_more_fault : (count : ℕ) (e : Fault) (r : Result (ℕ × List Bool) Fault) → ((d : Fault) → r ≡ Err d → Truncated count ≡ d) → one_more r ≡ Err e
    → Truncated count ≡ e
one_more_fault count e (Ok x) earlier h = absurd cc
one_more_fault count e (Err d) earlier h = earlier d refl ∙ fault_is d e h

-- nor are zeros
pub zeros_fault : (count limit : ℕ) (bits : List Bool) (e : Fault) → zeros_at count limit bits ≡ Err e → Truncated count ≡ e
unfolding zeros_at
zeros_fault count zero bits e h = absurd cc
zeros_fault count (suc limit) [] e h = fault_is (Truncated count) e h
zeros_fault count (suc limit) (true ∷ bits) e h = absurd cc
zeros_fault count (suc limit) (false ∷ bits) e h = one_more_fault count e (zeros_at count limit bits) (λ d is. zeros_fault count limit bits d is) h

-- ---- bits that are all zero, or all one

pub ones_number : (n : ℕ) → number_of (replicate n true) + 1 ≡ 2 ^ n
unfolding number_of
ones_number zero = refl
ones_number (suc n) = rw (length-replicate n true) (omega (arith, ones_number n, pow-succ' 2 n))

pub bits_of_ones : (n : ℕ) → bits_of n (2 ^ n - 1) ≡ replicate n true
bits_of_ones n =
    let is : number_of (replicate n true) ≡ 2 ^ n - 1 = omega (arith, ones_number n) in
    rw (length-replicate n true, is) at (bits_of-number_of (replicate n true))

pub zeros_front : (count n : ℕ) (rest : List Bool) → number_at count n (replicate n false ++ rest) ≡ Ok (0, rest)
zeros_front count n rest = rw (bits_of_zero n) at (number_again count n 0 rest (pow_pos n))

pub ones_front : (count n : ℕ) (rest : List Bool) → number_at count n (replicate n true ++ rest) ≡ Ok (2 ^ n - 1, rest)
ones_front count n rest = rw (bits_of_ones n) at (number_again count n (2 ^ n - 1) rest (omega (arith, pow_pos n)))

pub bit_front : (count : ℕ) (b : Bool) (rest : List Bool) → number_at count 1 (b ∷ rest) ≡ Ok (weight_of b 0, rest)
unfolding bits_of
bit_front count true rest = number_again count 1 1 rest (lit< tt)
bit_front count false rest = number_again count 1 0 rest (lit< tt)

-- ---- fundamental sequences

pub zeros_again : (count m limit : ℕ) (rest : List Bool) → m < limit → zeros_at count limit (fundamental m ++ rest) ≡ Ok (m, rest)
unfolding zeros_at fundamental
zeros_again count zero zero rest h = absurd (omega arith)
zeros_again count zero (suc limit) rest h = refl
zeros_again count (suc m) zero rest h = absurd (omega arith)
zeros_again count (suc m) (suc limit) rest h = ap one_more (zeros_again count m limit rest (omega arith))

-- zeros and a one, or the limit's number of zeros
abbrev pub TakesZeros : ℕ → List Bool → ℕ × List Bool → Type 0
TakesZeros limit bits x = ((x.0 < limit) × (bits ≡ fundamental x.0 ++ x.1)) ⊎ ((x.0 ≡ limit) × (bits ≡ replicate limit false ++ x.1))

pub zeros_takes : (count limit : ℕ) (bits : List Bool) (x : ℕ × List Bool) → zeros_at count limit bits ≡ Ok x → TakesZeros limit bits x
unfolding zeros_at fundamental
zeros_takes count zero bits x e = subst (TakesZeros zero bits) (ok_is (0, bits) x e) (inr (refl, refl))
zeros_takes count (suc limit) [] x e = absurd cc
zeros_takes count (suc limit) (true ∷ bits) x e = subst (TakesZeros (suc limit) (true ∷ bits)) (ok_is (0, bits) x e) (inl (omega arith, refl))
zeros_takes count (suc limit) (false ∷ bits) x e =
    let b = bind_ok (zeros_at count limit bits) (λ z. Ok (suc z.0, z.1)) x e in
    let z = b.0 in
    subst (TakesZeros (suc limit) (false ∷ bits)) (ok_is (suc z.0, z.1) x b.2)
    (elim (zeros_takes count limit bits z b.1) [
      | inl h ↦ inl (omega (arith, h.0), ap (λ (bs : List Bool). false ∷ bs) h.1)
      | inr h ↦ inr (ap suc h.0, ap (λ (bs : List Bool). false ∷ bs) h.1)
    ])
