-- What a sink took of bytes that weren't written whole.
use Rattle.std.specs.Prelude.{◌≡◌, ◌⊎◌, ℕ, ◌+◌, ◌<◌, List, length, take, Option}
use Rattle.cube_core.specs.declared.fault.Fault.{Fault}
use Rattle.cube_core.specs.declared.fault.Fault.TheVariants.{Write}
use Rattle.command_devices.specs.Devices.{Took, Rose}

-- the sink took the first n bytes, as the fault says, and then failed or stalled
abbrev pub IsCutShort : Option (List ℕ) → Option (List ℕ) → ℕ → ℕ → ℕ → ℕ → List ℕ → Fault → Type 0
IsCutShort old new failures failures_after stalls stalls_after bytes fault =
    (n : ℕ) × (fault ≡ Write n) × (n < length bytes) × Took old new (take n bytes) × (Rose failures failures_after ⊎ Rose stalls stalls_after)

-- after `sent` others, the sink took the first n bytes, and then failed or stalled; the fault says how many there were with those
abbrev pub IsCutAfter : ℕ → Option (List ℕ) → Option (List ℕ) → ℕ → ℕ → ℕ → ℕ → List ℕ → Fault → Type 0
IsCutAfter sent old new failures failures_after stalls stalls_after bytes fault =
    (n : ℕ) × (fault ≡ Write (sent + n)) × (n < length bytes) × Took old new (take n bytes) × (Rose failures failures_after ⊎ Rose stalls stalls_after)

-- a fault that says how many bytes went out
abbrev pub IsWrite : Fault → Type 0
IsWrite fault = (n : ℕ) × (fault ≡ Write n)

-- a failure or a stall of the sink is reported as `Write`: any other fault leaves both counts as they were
abbrev pub ToldAsWrite : ℕ → ℕ → ℕ → ℕ → Fault → Type 0
ToldAsWrite failures failures_now stalls stalls_now fault = IsWrite fault ⊎ ((failures_now ≡ failures) × (stalls_now ≡ stalls))
