-- Code words that are taken apart one after another, before it is known whether they are lawful.
use Rattle.std.specs.Prelude.{ℕ, zero, suc, ◌≡◌, ◌+◌, ◌-◌, ◌*◌, ◌%◌, ◌^◌, ◌<◌, Bool, List, Ok}
use Rattle.lanes.specs.Lanes.{number}
use Rattle.sample_adaptive.specs.declared.code_settings.CodeSettings.{CodeSettings}
use Rattle.sample_adaptive.specs.declared.code_word.Code.{Code}
use Rattle.sample_adaptive.specs.declared.word_parts.WordParts.{WordParts}
use Rattle.sample_adaptive.specs.BandStates.{state_of}
use Rattle.sample_adaptive.specs.declared.band_state.BandState.{BandState}
use Rattle.sample_adaptive.specs.Reading.{word_at}
use Rattle.sample_adaptive.specs.Runs.{code_with}
use Rattle.sample_adaptive.specs.Words.{IsCode}

-- n steps, from some bits to those that are left
unfoldable pub InSteps : (ℕ → List Bool → List Bool → Type 0) → ℕ → List Bool → List Bool → Type 0
InSteps step zero bits left = left ≡ bits
InSteps step (suc n) bits left = (mid : List Bool) × InSteps step n bits mid × step n mid left

-- the residual of a plain word: its zeros, and a number that ends with its k low bits
abbrev pub spelt_by : ℕ → ℕ → ℕ → ℕ
spelt_by k zeros ending = zeros * 2 ^ k + ending % 2 ^ k

-- a plain word comes first, and the others are left: by each code in which it is lawful
abbrev pub IsPlainNext : ℕ → ℕ → ℕ → List Bool → List Bool → Type 0
IsPlainNext k zeros ending bits left =
    (count index : ℕ) (c : Code) → IsCode c → c.k ≡ k → zeros < c.limit → spelt_by k zeros ending < 2 ^ c.bits
    → word_at count index c bits ≡ Ok (spelt_by k zeros ending, left)

-- how many zeros the word in lane j begins with, by the place of the one after them in a word of 64 bits
abbrev pub zeros_of : WordParts → ℕ → ℕ
zeros_of parts j = 63 - number parts.places j

-- the word in lane j comes first, by the code parameter in that lane, to which 64 is added
abbrev pub IsPartNext : List ℕ → WordParts → ℕ → List Bool → List Bool → Type 0
IsPartNext ends parts j bits left = IsPlainNext (number ends j - 64) (zeros_of parts j) (number parts.endings j) bits left

-- the code word of band at + j comes first, of the number in lane j
abbrev pub IsWordNext : CodeSettings → List BandState → ℕ → List ℕ → ℕ → List Bool → List Bool → Type 0
IsWordNext settings bands at numbers j bits left =
    (count index : ℕ) → word_at count index (code_with settings (state_of bands (at + j)).statistics) bits ≡ Ok (number numbers j, left)
