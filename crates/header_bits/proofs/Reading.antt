-- What the readings of numbers and of zeros give.
use Rattle.std.proofs.Common.{◌≡◌, ℕ, zero, suc, ◌+◌, ◌%◌, ◌^◌, ◌<◌, ◌≤◌, Bool, true, false, cond, ltb, List, [], ◌∷◌, ◌++◌, length, take, drop, replicate}
use Rattle.std.proofs.Common.{Result, Ok, Err, refl, sym, ap, subst, ◌∙◌, arith}
use Rattle.std.proofs.lemmas.Bool.{ltb-false, lt-ltb, le-ltb}
use Rattle.std.proofs.lemmas.List.{take_at, drop_at, drop_all, drop-drop, take-append-drop, append-nil, length-append, length-take}
use Rattle.std.proofs.Math.Nat.{mod-eq_of_lt}
use Rattle.cube_core.specs.declared.fault.Fault.{Fault}
use Rattle.cube_core.specs.declared.fault.Fault.TheVariants.{Truncated}
use Rattle.header_bits.specs.Bits.{bits_of, number_of}
use Rattle.header_bits.specs.Reading.{ReadsZeros, number_at, zeros_at, one_more}
use Rattle.header_bits.proofs.Numbers.{length-bits_of, number_of-bits_of, bits_of-number_of, number_below}

number_front : (count : ℕ) (bs rest : List Bool) → number_at count (length bs) (bs ++ rest) ≡ Ok (number_of bs, rest)
unfolding number_at
number_front count bs rest =
    let long : ltb (length (bs ++ rest)) (length bs) ≡ false = le-ltb _ _ (omega (arith, length-append bs rest)) in
    rw (long, take_at bs rest (length bs) refl, drop_at bs rest (length bs) refl) refl

-- the low bits of any number are read
pub number_low : (count n v : ℕ) (rest : List Bool) → number_at count n (bits_of n v ++ rest) ≡ Ok (v % 2 ^ n, rest)
number_low count n v rest = rw (number_of-bits_of n v) at (subst (λ (k : ℕ). number_at count k (bits_of n v ++ rest)
    ≡ Ok (number_of (bits_of n v), rest)) (length-bits_of n v) (number_front count (bits_of n v) rest))

-- a number's bits are read as the number
pub number_again : (count n v : ℕ) (rest : List Bool) → v < 2 ^ n → number_at count n (bits_of n v ++ rest) ≡ Ok (v, rest)
number_again count n v rest lt = number_low count n v rest ∙ ap (λ (m : ℕ). Ok (m, rest)) (mod-eq_of_lt lt)

pub number_short : (count n : ℕ) (bits : List Bool) → length bits < n → number_at count n bits ≡ Err (Truncated count)
unfolding number_at
number_short count n bits lt = rw (lt-ltb (length bits) n lt) refl

abbrev pub done : {A : Type 0} → A → Result A Fault
done x = Ok x

pub ok_is : {A : Type 0} (x y : A) → done x ≡ done y → x ≡ y
ok_is x y e = cc

-- what is read was spelled so
pub number_takes : (count n : ℕ) (bits : List Bool) (x : ℕ × List Bool) → number_at count n bits ≡ Ok x → (bits ≡ bits_of n x.0 ++ x.1) × (x.0 < 2 ^ n)
unfolding number_at
number_takes count n bits x e = by_test (ltb (length bits) n) refl e
  where
    by_test : (b : Bool) → ltb (length bits) n ≡ b → cond b (Err (Truncated count)) (Ok (number_of (take n bits), drop n bits)) ≡ Ok x
        → (bits ≡ bits_of n x.0 ++ x.1) × (x.0 < 2 ^ n)
    by_test true test h = absurd cc
    by_test false test h =
        let long : n ≤ length bits = ltb-false _ _ test in
        let len : length (take n bits) ≡ n = omega (arith, length-take n bits) in
        let back : bits_of n (number_of (take n bits)) ≡ take n bits =
        subst (λ (k : ℕ). bits_of k (number_of (take n bits)) ≡ take n bits) len (bits_of-number_of (take n bits)) in
        let below : number_of (take n bits) < 2 ^ n = subst (λ (k : ℕ). number_of (take n bits) < 2 ^ k) len (number_below (take n bits)) in
        subst (λ (y : ℕ × List Bool). (bits ≡ bits_of n y.0 ++ y.1) × (y.0 < 2 ^ n)) (ok_is (number_of (take n bits), drop n bits) x h)
        (rw back (sym (take-append-drop n bits)), below)

-- zeros, and then a one
pub zeros_ended : (count limit zeros : ℕ) (rest : List Bool) → zeros < limit → zeros_at count limit (replicate zeros false ++ true ∷ rest) ≡ Ok (zeros, rest)
unfolding zeros_at
zeros_ended count zero z rest lt = absurd (omega arith)
zeros_ended count (suc limit) zero rest lt = refl
zeros_ended count (suc limit) (suc z) rest lt = ap one_more (zeros_ended count limit z rest (omega arith))

-- as many zeros as the limit
pub zeros_full : (count limit : ℕ) (rest : List Bool) → zeros_at count limit (replicate limit false ++ rest) ≡ Ok (limit, rest)
unfolding zeros_at
zeros_full count zero rest = refl
zeros_full count (suc limit) rest = ap one_more (zeros_full count limit rest)

-- zeros that end too early
pub zeros_short : (count limit zeros : ℕ) → zeros < limit → zeros_at count limit (replicate zeros false) ≡ Err (Truncated count)
unfolding zeros_at
zeros_short count zero z lt = absurd (omega arith)
zeros_short count (suc limit) zero lt = refl
zeros_short count (suc limit) (suc z) lt = ap one_more (zeros_short count limit z (omega arith))

-- ---- at a position

before_one : (zeros at : ℕ) (bits left : List Bool) → drop at bits ≡ left → drop at bits ≡ replicate zeros false ++ drop (at + zeros) bits
    → drop (at + zeros) bits ≡ true ∷ drop (at + zeros + 1) bits → left ≡ replicate zeros false ++ true ∷ drop (at + (zeros + 1)) bits
before_one zeros at bits left is first one =
    let position : at + zeros + 1 ≡ at + (zeros + 1) = omega arith in
    sym is ∙ first ∙ ap (λ (x : List Bool). replicate zeros false ++ x) (one ∙ ap (λ k. true ∷ drop k bits) position)

pub ends_at : (count limit zeros at : ℕ) (bits left : List Bool) → zeros < limit → drop at bits ≡ left
    → drop at bits ≡ replicate zeros false ++ drop (at + zeros) bits → drop (at + zeros) bits ≡ true ∷ drop (at + zeros + 1) bits
    → zeros_at count limit left ≡ Ok (zeros, drop (at + (zeros + 1)) bits)
ends_at count limit zeros at bits left lt is first one =
    ap (zeros_at count limit) (before_one zeros at bits left is first one) ∙ zeros_ended count limit zeros (drop (at + (zeros + 1)) bits) lt

pub ends_taken : (limit zeros at : ℕ) (bits left : List Bool) → zeros < limit → drop at bits ≡ left
    → drop at bits ≡ replicate zeros false ++ drop (at + zeros) bits → drop (at + zeros) bits ≡ true ∷ drop (at + zeros + 1) bits
    → ReadsZeros limit zeros left (drop (at + (zeros + 1)) bits)
ends_taken limit zeros at bits left lt is first one =
    record { within = omega (arith, lt); one = λ h. before_one zeros at bits left is first one; full = λ e. absurd (omega (arith, lt, e)) }

pub full_taken : (limit zeros at : ℕ) (bits left : List Bool) → zeros ≡ limit → drop at bits ≡ left
    → drop at bits ≡ replicate zeros false ++ drop (at + zeros) bits → ReadsZeros limit zeros left (drop (at + zeros) bits)
full_taken limit _ at bits left e is first =
    record { within = omega (arith, e); one = λ h. absurd (omega (arith, h, e)); full = λ h. sym is ∙ first }

pub full_at : (count limit zeros at : ℕ) (bits left : List Bool) → zeros ≡ limit → drop at bits ≡ left
    → drop at bits ≡ replicate zeros false ++ drop (at + zeros) bits → zeros_at count limit left ≡ Ok (zeros, drop (at + zeros) bits)
full_at count limit zeros at bits left e is first =
    ap (zeros_at count limit) (sym is ∙ first) ∙ subst (λ (k : ℕ). zeros_at count k (replicate zeros false ++ drop (at + zeros) bits)
    ≡ Ok (zeros, drop (at + zeros) bits)) e (zeros_full count zeros (drop (at + zeros) bits))

-- only zeros are left
pub only_zeros : (zeros at : ℕ) (bits left : List Bool) → zeros ≡ length left → drop at bits ≡ left
    → drop at bits ≡ replicate zeros false ++ drop (at + zeros) bits → left ≡ replicate zeros false
only_zeros zeros at bits left e is first =
    let none : drop (at + zeros) bits ≡ [] = sym (drop-drop zeros at bits) ∙ ap (drop zeros) is ∙ drop_all zeros left (omega arith) in
    sym is ∙ first ∙ ap (λ (x : List Bool). replicate zeros false ++ x) none ∙ append-nil (replicate zeros false)

pub short_at : (count limit zeros at : ℕ) (bits left : List Bool) → zeros ≡ length left → zeros < limit → drop at bits ≡ left
    → drop at bits ≡ replicate zeros false ++ drop (at + zeros) bits → zeros_at count limit left ≡ Err (Truncated count)
short_at count limit zeros at bits left e lt is first = ap (zeros_at count limit) (only_zeros zeros at bits left e is first) ∙ zeros_short count limit zeros lt

-- a one stands among no zeros
pub no_one : (n m : ℕ) (x : List Bool) → replicate n false ≡ replicate m false ++ true ∷ x → ⊥
no_one zero zero x e = absurd cc
no_one zero (suc m) x e = absurd cc
no_one (suc n) zero x e = absurd cc
no_one (suc n) (suc m) x e = no_one n m x (tails (replicate n false) (replicate m false ++ true ∷ x) e)
  where
    tails : (a b : List Bool) → false ∷ a ≡ false ∷ b → a ≡ b
    tails a b h = cc
