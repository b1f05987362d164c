-- The state of the coder of one image, and the residuals that it has taken.
use Rattle.std.specs.Prelude.{ℕ, suc, ◌≡◌, ◌+◌, ◌<◌, ◌==◌, Bool, if◌then◌else◌, List, [], ◌∷◌, ◌++◌, length, slice_index_or, slice_set, Option, None}
use Rattle.std.specs.Prelude.{Result, IfOk, take}
use Rattle.std.specs.List.{AllByRecursion}
use Rattle.cube_core.specs.declared.fault.Fault.{Fault}
use Rattle.cube_core.specs.declared.order.Place.{Place}
use Rattle.header_bits.specs.Bits.{Unread}
use Rattle.header_bits.specs.Reading.{Reads}
use Rattle.sample_adaptive.specs.declared.code_word.Code.{Code}
use Rattle.sample_adaptive.specs.declared.statistics.Statistics.{Statistics}
use Rattle.sample_adaptive.specs.Statistics.{CoderSettings, statistics, next_statistics, code_parameter}
use Rattle.sample_adaptive.specs.Words.{code_word, code_at}
use Rattle.sample_adaptive.specs.Body.{band_residuals, words_after}
use Rattle.sample_adaptive.specs.Reading.{word_at, words_at}

-- D, U_max, γ*, each band's statistics, and the fault for which a read was refused, if one was
pub record CoderState : Type 0 where
  pub bits : ℕ
  pub umax : ℕ
  pub gamma_star : ℕ
  pub bands : List Statistics
  pub refused : Option Fault

-- a placeholder for the statistics of a band that doesn't exist
abbrev pub no_statistics : Statistics
no_statistics = record { counter = 0; accumulator = 0 }

-- the statistics of a band
abbrev pub of_band : List Statistics → ℕ → Statistics
of_band bands z = slice_index_or bands z no_statistics

-- D, U_max and γ* of a state
pub record HasSettings (v : CoderState) (bits umax gamma_star : ℕ) : Type 0 where
  pub bits_are : v.bits ≡ bits
  pub umax_is : v.umax ≡ umax
  pub size_is : v.gamma_star ≡ gamma_star

-- the state with other statistics of band z
abbrev pub with_band : CoderState → ℕ → Statistics → CoderState
with_band v z s = record v { bands = slice_set v.bands z s }

-- the code of the residual at raster index t of band z
abbrev pub code_by : CoderState → ℕ → ℕ → Code
code_by v z t =
    if t == 0 then record { limit = 0; k = 0; bits = v.bits }
    else record { limit = v.umax; k = code_parameter v.bits (of_band v.bands z); bits = v.bits }

-- the state after the residual at raster index t of band z, which isn't counted at t = 0
abbrev pub counted : CoderState → ℕ → ℕ → ℕ → CoderState
counted v z t residual =
    if t == 0 then v else record v { bands = slice_set v.bands z (next_statistics v.gamma_star (of_band v.bands z) residual) }

-- the coder has taken these residuals of each band: it has the settings and each band's statistics, and refused nothing
pub record HasTaken (c : CoderSettings) (v : CoderState) (taken : ℕ → List ℕ) : Type 0 where
  pub bits : v.bits ≡ c.bits
  pub umax : v.umax ≡ c.umax
  pub gamma_star : v.gamma_star ≡ c.gamma_star
  pub bands : (z : ℕ) → z < length v.bands → of_band v.bands z ≡ statistics c z (taken z)
  pub working : v.refused ≡ None

-- one more residual, of band z
abbrev pub with_residual : (ℕ → List ℕ) → ℕ → ℕ → ℕ → List ℕ
with_residual taken z residual b = if b == z then taken b ++ residual ∷ [] else taken b

-- whatever was taken before, with t residuals of band z: the residual's code word is appended, and the residual is taken
abbrev pub PutsResidual : ℕ → ℕ → ℕ → CoderState → List Bool → CoderState → List Bool → Type 0
PutsResidual z t residual old written new written_now =
    (c : CoderSettings) (taken : ℕ → List ℕ) → HasTaken c old taken → t ≡ length (taken z)
    → (written_now ≡ written ++ code_word (code_at c z (taken z)) residual) × HasTaken c new (with_residual taken z residual)

-- successive residuals of one band: whatever was taken before, with t residuals of the band, their code words are appended, and they are taken
abbrev pub PutsRun : ℕ → ℕ → List ℕ → CoderState → List Bool → CoderState → List Bool → Type 0
PutsRun z t residuals old written new written_now =
    (c : CoderSettings) (gone places : List Place) (before : List ℕ) → length before ≡ length gone → length residuals ≡ length places
    → AllByRecursion (λ p. p.z ≡ z) places
    → HasTaken c old (λ b. band_residuals b gone before) → t ≡ length (band_residuals z gone before)
    → (written_now ≡ written ++ words_after c gone before places residuals) × HasTaken c new (λ b. band_residuals b (gone ++ places) (before ++ residuals))

-- one residual of each of successive bands, from band z on: each is taken in turn, at raster index t of its band
abbrev pub PutsColumn : ℕ → ℕ → List ℕ → CoderState → List Bool → CoderState → List Bool → Type 0
PutsColumn z t [] old written new written_now = (new ≡ old) × (written_now ≡ written)
PutsColumn z t (residual ∷ residuals) old written new written_now =
    (mid : CoderState) × (written_mid : List Bool) × (length mid.bands ≡ length old.bands) × (mid.bits ≡ old.bits)
    × PutsResidual z t residual old written mid written_mid × PutsColumn (suc z) t residuals mid written_mid new written_now

-- residuals are written one after another, whatever was read or refused before: the first at raster index ts i of band zs i, the next at ts (i + 1) of band
-- zs (i + 1), .., each with the code that the state before it gives
abbrev pub Writes : (ℕ → ℕ) → (ℕ → ℕ) → ℕ → List ℕ → CoderState → List Bool → CoderState → List Bool → Type 0
Writes zs ts i [] old written new written_now = (new ≡ old) × (written_now ≡ written)
Writes zs ts i (residual ∷ residuals) old written new written_now =
    Writes zs ts (i + 1) residuals (counted old (zs i) (ts i) residual) (written ++ code_word (code_by old (zs i) (ts i)) residual) new written_now

-- successive residuals of one band, from raster index t on
abbrev pub WritesRun : ℕ → ℕ → List ℕ → CoderState → List Bool → CoderState → List Bool → Type 0
WritesRun z t residuals old written new written_now = Writes (λ i. z) (λ i. t + i) 0 residuals old written new written_now

-- the residual at raster index t of each of successive bands, from band z on
abbrev pub WritesColumn : ℕ → ℕ → List ℕ → CoderState → List Bool → CoderState → List Bool → Type 0
WritesColumn z t residuals old written new written_now = Writes (λ i. z + i) (λ i. t) 0 residuals old written new written_now

-- whatever was taken before, with t residuals of band z: the residual whose code word comes next is returned and taken, or the fault is that of the word,
-- with the index t
abbrev pub GetsResidual : ℕ → ℕ → Result ℕ Fault → CoderState → Unread → CoderState → List Bool → Type 0
GetsResidual z t result old unread new left =
    (c : CoderSettings) (taken : ℕ → List ℕ) → HasTaken c old taken → t ≡ length (taken z)
    → Reads (λ residual. residual) result left (word_at unread.count t (code_at c z (taken z)) unread.left)
    × IfOk result (λ residual. HasTaken c new (with_residual taken z residual))

-- places of bands zs i, zs (i + 1), ..: before each, its band has ts i, ts (i + 1), .. residuals, whatever the residuals at the places between are
abbrev pub AreEach : (ℕ → ℕ) → (ℕ → ℕ) → ℕ → List Place → List ℕ → List Place → Type 0
AreEach zs ts i gone before [] = Unit {0}
AreEach zs ts i gone before (p ∷ places) =
    (p.z ≡ zs i) × (ts i ≡ length (band_residuals (zs i) gone before))
    × ((residual : ℕ) → AreEach zs ts (i + 1) (gone ++ p ∷ []) (before ++ residual ∷ []) places)

-- residuals at such places: whatever was taken before, those whose code words come next are returned and taken, or the result is the first fault of
-- the words at these places
abbrev pub GetsEach : (ℕ → ℕ) → (ℕ → ℕ) → ℕ → ℕ → Result (Unit {0}) Fault → CoderState → Unread → CoderState → List Bool → List ℕ → Type 0
GetsEach zs ts i index result old unread new left residuals =
    (c : CoderSettings) (gone places : List Place) (before : List ℕ) → length before ≡ length gone → length residuals ≡ length places
    → AreEach zs ts i gone before places → HasTaken c old (λ b. band_residuals b gone before) → index ≡ length before
    → Reads (λ _. residuals) result left (words_at unread.count c gone before places unread.left)
    × IfOk result (λ _. HasTaken c new (λ b. band_residuals b (gone ++ places) (before ++ residuals)))

-- successive residuals of one band, from raster index t on
abbrev pub GetsRun : ℕ → ℕ → ℕ → Result (Unit {0}) Fault → CoderState → Unread → CoderState → List Bool → List ℕ → Type 0
GetsRun z t index result old unread new left residuals = GetsEach (λ i. z) (λ i. t + i) 0 index result old unread new left residuals

-- the residual at raster index t of each of successive bands, from band z on
abbrev pub GetsColumn : ℕ → ℕ → ℕ → Result (Unit {0}) Fault → CoderState → Unread → CoderState → List Bool → List ℕ → Type 0
GetsColumn z t index result old unread new left residuals = GetsEach (λ i. z + i) (λ i. t) 0 index result old unread new left residuals

-- the first i residuals were read: with whatever residuals are read after them, they are read as one list
pub record Reaches (zs ts : ℕ → ℕ) (k index i : ℕ) (v w : CoderState) (first now : Unread) (residuals : List ℕ) : Type 0 where
  pub append : (r : Result (Unit {0}) Fault) (new : CoderState) (left : List Bool) (ys : List ℕ)
      → GetsEach zs ts (k + i) (index + i) r w now new left ys → GetsEach zs ts k index r v first new left (take i residuals ++ ys)
