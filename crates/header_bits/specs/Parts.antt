-- Parts of a header that follow one another: how each is read, with its first fault, and which bits spell it.
use Rattle.std.specs.Prelude.{◌≡◌, ℕ, zero, suc, ◌+◌, ◌/◌, ◌^◌, ◌==◌, nat_lt, Bool, if◌then◌else◌, List, ◌++◌, length, drop, Ok, Err}
use Rattle.cube_core.specs.declared.fault.Fault.TheVariants.{ShortHeader, Reserved}
use Rattle.cube_core.specs.Steps.{Test, ◌>>=◌}
use Rattle.header_bits.specs.declared.layout.Slot.{Slot}
use Rattle.header_bits.specs.Layout.{AreValues, total, spelled, values}
use Rattle.header_bits.specs.Reading.{Reading, Reads}

abbrev pub fine : Test
fine = Ok (tt {0})

-- reserved bits are zero: the first that is one is refused; `at` is the position of the first bit in the file
unfoldable pub reserved_test : ℕ → ℕ → ℕ → Test
reserved_test at zero value = fine
reserved_test at (suc n) value = if value / 2 ^ n == 0 then reserved_test (at + 1) n value else Err (Reserved at)

-- a list of slots, with the tests of their numbers and the contents that the numbers stand for
pub record Part (X : Type 0) : Type 1 where
  pub fields : List Slot
  pub tests : List ℕ → Test
  pub contents : List ℕ → X

unfoldable pub part_at : {X : Type 0} → Part X → Reading X
part_at part bits =
    if nat_lt (length bits) (total part.fields) then Err ShortHeader
    else (part.tests (values part.fields bits) >>= λ _. Ok (part.contents (values part.fields bits), drop (total part.fields) bits))

-- the result of checking a part without keeping its contents: it is refused as reading it is, or the bits after it are left
abbrev pub Passes : {X : Type 0} → Part X → Test → List Bool → List Bool → Type 0
Passes part result old new = Reads (λ _. part.contents (values part.fields old)) result new (part_at part old)

-- the bits spell a part with these contents: they are the bits of numbers in its slots that pass its tests and stand for the contents
pub record SpellsPart {X : Type 0} (part : Part X) (x : X) (bits : List Bool) : Type 0 where
  pub numbers : List ℕ
  pub held : AreValues part.fields numbers
  pub passed : part.tests numbers ≡ fine
  pub contents : part.contents numbers ≡ x
  pub text : bits ≡ spelled part.fields numbers

-- one reading, then another that depends on its value
unfoldable pub then_at : {X Y : Type 0} → Reading X → (X → Reading Y) → Reading (X × Y)
then_at first second bits = first bits >>= λ x. second x.0 x.1 >>= λ y. Ok ((x.0, y.0), y.1)

pub record SpellsThen {X Y : Type 0} (First : X → List Bool → Type 0) (Second : X → Y → List Bool → Type 0) (x : X × Y) (bits : List Bool) : Type 0 where
  pub front : List Bool
  pub back : List Bool
  pub first : First x.0 front
  pub second : Second x.0 x.1 back
  pub text : bits ≡ front ++ back

-- a reading whose value is converted by `form`
unfoldable pub as_at : {X Y : Type 0} → (X → Y) → Reading X → Reading Y
as_at form read bits = read bits >>= λ x. Ok (form x.0, x.1)

pub record SpellsAs {X Y : Type 0} (form : X → Y) (Spells : X → List Bool → Type 0) (y : Y) (bits : List Bool) : Type 0 where
  pub from : X
  pub same : form from ≡ y
  pub spells : Spells from bits

-- a value is read exactly if the bits begin with bits that spell it
pub record IsExact {X : Type 0} (read : Reading X) (Spells : X → List Bool → Type 0) : Type 0 where
  pub again : (x : X) (h rest : List Bool) → Spells x h → read (h ++ rest) ≡ Ok (x, rest)
  pub found : (x : X) (bits rest : List Bool) → read bits ≡ Ok (x, rest) → (h : List Bool) × Spells x h × (bits ≡ h ++ rest)
