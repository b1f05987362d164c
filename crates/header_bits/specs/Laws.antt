-- The laws of headers.
use Rattle.std.specs.Prelude.{◌≡◌, List, Bool, ◌++◌, Err}
use Rattle.cube_core.specs.declared.fault.Fault.{Fault}
use Rattle.cube_core.specs.declared.fault.Fault.TheVariants.{ShortHeader}
use Rattle.header_bits.specs.declared.params.Params.{Params}
use Rattle.header_bits.specs.Parts.{IsExact}
use Rattle.header_bits.specs.Header.{header_at, header_of, SpellsHeader}
use Rattle.header_bits.specs.Lawful.{IsLawful}

abbrev pub OneHeader : Type 0
OneHeader = (g h x y : List Bool) (p q : Params) → SpellsHeader p g → SpellsHeader q h → g ++ x ≡ h ++ y → (p ≡ q) × (g ≡ h)

abbrev pub HeaderIsExact : Type 0
HeaderIsExact = IsExact header_at SpellsHeader

abbrev pub HeaderIsLawful : Type 0
HeaderIsLawful = (p : Params) (h : List Bool) → SpellsHeader p h → IsLawful p

abbrev pub ChosenIsSpelt : Type 0
ChosenIsSpelt = (p : Params) → IsLawful p → SpellsHeader p (header_of p)

-- bits that are refused with another fault than `ShortHeader` don't begin with a header, whatever bits follow
abbrev pub FaultIsNoHeader : Type 0
FaultIsNoHeader =
    (e : Fault) (bits : List Bool) → header_at bits ≡ Err e → (e ≡ ShortHeader → ⊥)
    → (more : List Bool) (p : Params) (h rest : List Bool) → SpellsHeader p h → bits ++ more ≡ h ++ rest → ⊥
