-- Bits after those that were read change nothing, but for what they end too early.
use Rattle.std.proofs.Common.{◌≡◌, ◌⊎◌, ◌≤◌, ℕ, zero, suc, Bool, true, false, cond, ltb, List, [], ◌∷◌, ◌++◌, length, take, drop, Result, Ok, Err, refl, inl}
use Rattle.std.proofs.Common.{inr, arith}
use Rattle.std.proofs.lemmas.Bool.{ltb-false, le-ltb}
use Rattle.std.proofs.lemmas.List.{take-append-le, drop-append-le, length-append}
use Rattle.cube_core.specs.declared.fault.Fault.{Fault}
use Rattle.cube_core.specs.declared.fault.Fault.TheVariants.{Truncated}
use Rattle.cube_core.specs.Steps.{◌>>=◌}
use Rattle.header_bits.specs.Bits.{number_of}
use Rattle.header_bits.specs.Reading.{number_at, zeros_at}

-- what was read is read again where more bits follow, and what was refused is refused for the same, unless the bits ended too early
abbrev pub Goes : {X : Type 0} → ℕ → List Bool → Result (X × List Bool) Fault → Result (X × List Bool) Fault → Type 0
Goes count more (Ok x) later = later ≡ Ok (x.0, x.1 ++ more)
Goes count more (Err e) later = (e ≡ Truncated count) ⊎ (later ≡ Err e)

pub goes_then : {A B : Type 0} (count : ℕ) (more : List Bool) (r s : Result (A × List Bool) Fault) (f : A × List Bool → Result (B × List Bool) Fault)
    → Goes count more r s → ((a : A) (rest : List Bool) → Goes count more (f (a, rest)) (f (a, rest ++ more))) → Goes count more (r >>= f) (s >>= f)
goes_then count more (Ok x) s f h k = rw h (k x.0 x.1)
goes_then count more (Err e) s f (inl t) k = inl t
goes_then count more (Err e) s f (inr h) k = inr (rw h refl)

pub goes_if : {A : Type 0} (count : ℕ) (more : List Bool) (b : Bool) (r s t u : Result (A × List Bool) Fault) → Goes count more r s → Goes count more t u
    → Goes count more (cond b r t) (cond b s u)
goes_if count more true r s t u h k = h
goes_if count more false r s t u h k = k

pub goes_guard : {A : Type 0} (count : ℕ) (more : List Bool) (b : Bool) (e : Fault) (r s : Result (A × List Bool) Fault) → Goes count more r s
    → Goes count more (cond b (Err e) r) (cond b (Err e) s)
goes_guard count more true e r s h = inr refl
goes_guard count more false e r s h = h

pub number_goes : (count n : ℕ) (more bits : List Bool) → Goes count more (number_at count n bits) (number_at count n (bits ++ more))
unfolding number_at
number_goes count n more bits = by_test (ltb (length bits) n) refl
  where
    by_test : (b : Bool) → ltb (length bits) n ≡ b → Goes count more (cond b (Err (Truncated count)) (Ok (number_of (take n bits), drop n bits)))
        (cond (ltb (length (bits ++ more)) n) (Err (Truncated count)) (Ok (number_of (take n (bits ++ more)), drop n (bits ++ more))))
    by_test true e = inl refl
    by_test false e =
        let le : n ≤ length bits = ltb-false (length bits) n e in
        let there : ltb (length (bits ++ more)) n ≡ false = le-ltb (length (bits ++ more)) n (omega (arith, le, length-append bits more)) in
        rw (there, take-append-le n bits more le, drop-append-le n bits more le) refl

pub zeros_goes : (count limit : ℕ) (more bits : List Bool) → Goes count more (zeros_at count limit bits) (zeros_at count limit (bits ++ more))
unfolding zeros_at
zeros_goes count zero more bits = refl
zeros_goes count (suc limit) more [] = inl refl
zeros_goes count (suc limit) more (true ∷ bits) = refl
zeros_goes count (suc limit) more (false ∷ bits) =
    goes_then count more (zeros_at count limit bits) (zeros_at count limit (bits ++ more)) (λ z. Ok (suc z.0, z.1)) (zeros_goes count limit more bits)
    (λ z rest. refl)
