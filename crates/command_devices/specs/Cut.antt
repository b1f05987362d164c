-- Devices over memory that transfer a piece at a time and may fail once.
use Rattle.std.specs.Prelude.{◌≡◌, ◌+◌, ◌<◌, ℕ, List, [], length, min, Option}
use Rattle.command_devices.specs.Devices.{Rises}

-- a source: the bytes that are left, the most bytes that a call gives, the index of the call that fails, and the numbers of calls and of failures
pub record Giving : Type 0 where
  pub left : List ℕ
  pub piece : ℕ
  pub fail_at : Option ℕ
  pub calls : ℕ
  pub failures : ℕ

-- a sink: the bytes that it took, its room for bytes in all, the most that a call takes, the index of the call that fails, and the numbers of calls and
-- of failures
pub record Taking : Type 0 where
  pub taken : List ℕ
  pub room : ℕ
  pub piece : ℕ
  pub fail_at : Option ℕ
  pub calls : ℕ
  pub failures : ℕ

-- a device before its first call
abbrev pub new_giving : List ℕ → ℕ → Option ℕ → Giving
new_giving bytes piece fail_at = record { left = bytes; piece = piece; fail_at = fail_at; calls = 0; failures = 0 }

abbrev pub new_taking : ℕ → ℕ → Option ℕ → Taking
new_taking room piece fail_at = record { taken = []; room = room; piece = piece; fail_at = fail_at; calls = 0; failures = 0 }

-- a call is counted, and the settings stay
abbrev pub CountsGiving : Giving → Giving → Type 0
CountsGiving old new = Rises old.calls new.calls × (new.piece ≡ old.piece) × (new.fail_at ≡ old.fail_at)

abbrev pub CountsTaking : Taking → Taking → Type 0
CountsTaking old new = Rises old.calls new.calls × (new.room ≡ old.room) × (new.piece ≡ old.piece) × (new.fail_at ≡ old.fail_at)

-- there is no room for what a call would take of a piece of `size` bytes
abbrev pub IsFull : Taking → ℕ → Type 0
IsFull s size = s.room < length s.taken + min s.piece size
