-- Reading a file whole, and its refusals.
use Rattle.std.specs.Prelude.{◌≡◌, ◌⊎◌, ℕ, ◌+◌, ◌^◌, List, Option}
use Rattle.cube_core.specs.declared.fault.Fault.{Fault}
use Rattle.cube_core.specs.declared.fault.Fault.TheVariants.{WantOfMemory, Read}
use Rattle.command_devices.specs.Devices.{Rose, IsLonger}

-- one byte more than a file may have
abbrev pub file_limit : ℕ
file_limit = 2 ^ 40 + 1

-- why a file isn't read: an allocation failed, and the source didn't; or the source failed, or has more than 2^40 bytes
abbrev pub IsReadRefusal : Option (List ℕ) → ℕ → ℕ → Fault → Type 0
IsReadRefusal left failures failures_now fault =
    ((fault ≡ WantOfMemory) × (failures_now ≡ failures)) ⊎ ((fault ≡ Read) × (Rose failures failures_now ⊎ IsLonger (2 ^ 40) left))

-- a failure of the source is reported as `Read`: any other fault leaves the count of failures as it was
abbrev pub ToldAsRead : ℕ → ℕ → Fault → Type 0
ToldAsRead failures failures_now fault = (fault ≡ Read) ⊎ (failures_now ≡ failures)
