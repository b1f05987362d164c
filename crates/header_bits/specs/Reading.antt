-- Reading from the front of bits: the result is a value and the bits after it, or the first fault.
use Rattle.std.specs.Prelude.{◌≡◌, ℕ, zero, suc, ◌<◌, ◌≤◌, nat_lt, Bool, true, false, List, [], ◌∷◌, ◌++◌, length, take, drop, replicate, Result, Ok, Err}
use Rattle.std.specs.Prelude.{if◌then◌else◌}
use Rattle.cube_core.specs.declared.fault.Fault.{Fault}
use Rattle.cube_core.specs.declared.fault.Fault.TheVariants.{Truncated}
use Rattle.cube_core.specs.Steps.{◌>>=◌}
use Rattle.header_bits.specs.Bits.{number_of}

abbrev pub Reading : Type 0 → Type 0
Reading X = List Bool → Result (X × List Bool) Fault

-- a call's result, through `view`, and the bits that it left are those of a reading, or its fault is that of the reading
abbrev pub Reads : {X Y : Type 0} → (X → Y) → Result X Fault → List Bool → Result (Y × List Bool) Fault → Type 0
Reads view (Ok x) left read = read ≡ Ok (view x, left)
Reads view (Err e) left read = read ≡ Err e

-- the next n bits as a number, in a file of `count` bits
unfoldable pub number_at : ℕ → ℕ → Reading ℕ
number_at count n bits = if nat_lt (length bits) n then Err (Truncated count) else Ok (number_of (take n bits), drop n bits)

-- the result with one zero more
abbrev pub one_more : Result (ℕ × List Bool) Fault → Result (ℕ × List Bool) Fault
one_more read = read >>= λ z. Ok (suc z.0, z.1)

-- the number of zeros before a one, which is taken too; or the limit, if that many zeros come first
unfoldable pub zeros_at : ℕ → ℕ → Reading ℕ
zeros_at count zero bits = Ok (0, bits)
zeros_at count (suc limit) [] = Err (Truncated count)
zeros_at count (suc limit) (true ∷ bits) = Ok (0, bits)
zeros_at count (suc limit) (false ∷ bits) = one_more (zeros_at count limit bits)

-- `zeros` zeros were read, and a one after them if they are fewer than the limit
pub record ReadsZeros (limit zeros : ℕ) (old new : List Bool) : Type 0 where
  pub within : zeros ≤ limit
  pub one : zeros < limit → old ≡ replicate zeros false ++ true ∷ new
  pub full : zeros ≡ limit → old ≡ replicate zeros false ++ new
