-- The settings that words ask for.
use Rattle.std.specs.Prelude.{◌≡◌, ◌≤◌, ◌⊎◌, ℕ, List, [], length, map, slice_index_or, codes, String}
use Rattle.std.specs.declared.alloc.Global.{Global}
use Rattle.std.specs.Borrow.{Bor}
use Rattle.clap.specs.Walk.{Row}
use Rattle.clap.specs.Simple.{App, matches_of}
use Rattle.clap.specs.Faults.{fault_of}
use Rattle.cube_core.specs.declared.layout.Layout.{Layout}
use Rattle.command_words.specs.declared.settings.CompressSettings.{CompressSettings}
use Rattle.command_words.specs.declared.settings.Settings.{Settings}
use Rattle.command_words.specs.declared.settings.Settings.TheVariants.{Show, Compress, Expand, Inspect}
use Rattle.command_words.specs.Options.{compress_app, expand_app}
use Rattle.command_words.specs.Reading.{AreFilesOf, AreParamsOf, HasNumber, IsLayoutOf}
use Rattle.command_words.specs.Settings.{AreInRange}

-- the texts of words
abbrev pub texts : List (Bor (List ℕ)) → List (List ℕ)
texts words = map (λ w. w.now) words

-- the command accepts the words
abbrev pub AreTaken : App → List (List ℕ) → Type 0
AreTaken app words = fault_of app words ≡ []

-- the first word is `name`
abbrev pub BeginWith : List ℕ → List (List ℕ) → Type 0
BeginWith name words = (1 ≤ length words) × (slice_index_or words 0 [] ≡ name)

-- the only word is `name`
abbrev pub IsAlone : List ℕ → List (List ℕ) → Type 0
IsAlone name words = (length words ≡ 1) × (slice_index_or words 0 [] ≡ name)

-- the words name a command that takes options
abbrev pub AreOfOptions : List (List ℕ) → Type 0
AreOfOptions words = BeginWith (codes "compress") words ⊎ BeginWith (codes "expand") words

-- the settings of `compress`, from its options and files
abbrev pub AreCompressed : List Row → CompressSettings → String Global → String Global → Type 0
AreCompressed rows s from to =
    AreParamsOf rows s.params × IsLayoutOf rows s.layout × HasNumber rows (codes "predictors") s.predictors × HasNumber rows (codes "slots") s.slots
    × AreFilesOf rows from to

-- those of `expand`
abbrev pub AreExpanded : List Row → Layout → String Global → String Global → Type 0
AreExpanded rows l from to = IsLayoutOf rows l × AreFilesOf rows from to

-- the words ask for these settings: the first is the command's name, the others are its options and files
abbrev pub Ask : List (List ℕ) → Settings → Type 0
Ask words Show = IsAlone (codes "show") words
Ask words (Compress s from to) = BeginWith (codes "compress") words × AreTaken compress_app words × AreCompressed (matches_of compress_app words) s from to
Ask words (Expand l from to) = BeginWith (codes "expand") words × AreTaken expand_app words × AreExpanded (matches_of expand_app words) l from to
Ask words Inspect = IsAlone (codes "inspect") words

-- the words ask for no settings in their ranges
abbrev pub AskForNone : List (List ℕ) → Type 0
AskForNone words = (s : Settings) → Ask words s → ¬ (AreInRange s)
