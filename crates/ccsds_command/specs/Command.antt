-- What the run of a command promises, whichever it is: what its engine does.
use Rattle.std.specs.Prelude.{◌≡◌, ◌≢◌, ◌⊎◌, false, ℕ, List, Option, Some, None, string_bytes, ⊤, Result, Err, OnOk, IfErr}
use Rattle.cube_core.specs.declared.fault.Fault.{Fault}
use Rattle.cube_core.specs.declared.fault.Fault.TheVariants.{Read, WantOfMemory, Write}
use Rattle.cube_core.specs.Layout.{IsLayout}
use Rattle.header_bits.specs.Lawful.{IsLawful, params_fault}
use Rattle.header_bits.specs.declared.params.Params.{Params}
use Rattle.command_words.specs.declared.settings.CompressSettings.{CompressSettings}
use Rattle.command_words.specs.declared.settings.Settings.{Settings}
use Rattle.command_words.specs.declared.settings.Settings.TheVariants.{Show, Compress, Expand, Inspect}
use Rattle.command_devices.specs.Devices.{GaveBelow}
use Rattle.command_devices.specs.Reading.{ToldAsRead, file_limit}
use Rattle.command_devices.specs.Writing.{ToldAsWrite}
use Rattle.ccsds_command.specs.Compress.{Compresses, IsCompressFault, raw_limit}
use Rattle.ccsds_command.specs.Expand.{Expands, IsExpandFault}
use Rattle.ccsds_command.specs.Inspect.{Inspects, IsInspectFault, header_limit}
use Rattle.ccsds_command.specs.Piped.{HasNoPlan, IsPipedFault, MayBePlanned}
use Rattle.ccsds_command.specs.Show.{Shows, IsShowFault, show_limit}

-- the file that a command reads; with no name it is the standard input
abbrev pub name_in : Settings → Option (List ℕ)
name_in Show = None
name_in (Compress settings from to) = Some (string_bytes from)
name_in (Expand layout from to) = Some (string_bytes from)
name_in Inspect = None

-- the file that it writes; with no name it is the standard output
abbrev pub name_out : Settings → Option (List ℕ)
name_out Show = None
name_out (Compress settings from to) = Some (string_bytes to)
name_out (Expand layout from to) = Some (string_bytes to)
name_out Inspect = None

-- why a command's ends aren't had: its input can't be opened; or that was opened, and its output can't be made
abbrev pub HasNoEnd : {Input : Type 0} → (Option (List ℕ) → Input → Type 0) → (List ℕ → Type 0) → (Input → List ℕ → Type 0) → Settings → Fault → Type 0
HasNoEnd {Input} opens has_none makes_none settings fault =
    ((name : List ℕ) × (name_in settings ≡ Some name) × (fault ≡ Read) × has_none name)
    ⊎ ((input : Input) × opens (name_in settings) input × (name : List ℕ) × (name_out settings ≡ Some name) × (fault ≡ Write 0) × makes_none input name)

-- the parameters that are checked before anything is read
abbrev pub checked_params : Settings → Option Params
checked_params Show = None
checked_params (Compress settings from to) = Some settings.params
checked_params (Expand layout from to) = None
checked_params Inspect = None

-- why `compress` can have no plan, though its parameters are lawful and it has predictors
abbrev pub IsUnplanned : Settings → Fault → Type 0
IsUnplanned Show fault = ⊥
IsUnplanned (Compress settings from to) fault = IsLawful settings.params × (settings.predictors ≢ 0) × HasNoPlan settings fault
IsUnplanned (Expand layout from to) fault = ⊥
IsUnplanned Inspect fault = ⊥

-- why a command is refused before anything is read: its parameters aren't lawful, or it can have no plan
abbrev pub IsRefusedFirst : Settings → Fault → Type 0
IsRefusedFirst settings fault = ((p : Params) × (checked_params settings ≡ Some p) × (params_fault p ≡ Err fault)) ⊎ IsUnplanned settings fault

-- raw samples have one byte or two
abbrev pub HasLayout : Settings → Type 0
HasLayout Show = ⊤
HasLayout (Compress settings from to) = IsLayout settings.layout
HasLayout (Expand layout from to) = IsLayout layout
HasLayout Inspect = ⊤

-- where `compress` has predictors, there may be as many, and as many slots
abbrev pub IsPlanned : Settings → Type 0
IsPlanned Show = ⊤
IsPlanned (Compress settings from to) = settings.predictors ≢ 0 → MayBePlanned settings
IsPlanned (Expand layout from to) = ⊤
IsPlanned Inspect = ⊤

-- what the sink gained of the source's bytes
abbrev pub Does : Settings → Option (List ℕ) → Option (List ℕ) → Option (List ℕ) → Type 0
Does Show left old new = Shows left old new
Does (Compress settings from to) left old new = Compresses settings left old new
Does (Expand layout from to) left old new = Expands layout left old new
Does Inspect left old new = Inspects left old new

-- why `compress` is refused, and what was written then: on one thread where it has no predictors, else in threads that nothing stops
abbrev pub IsFaultBy : CompressSettings → Option (List ℕ) → ℕ → ℕ → Option (List ℕ) → Option (List ℕ) → ℕ → ℕ → ℕ → ℕ → Fault → Type 0
IsFaultBy settings left read_failures read_failures_now old new failures failures_now stalls stalls_now fault =
    ((settings.predictors ≡ 0) × IsCompressFault settings left read_failures read_failures_now old new failures failures_now stalls stalls_now fault)
    ⊎ ((settings.predictors ≢ 0)
    × IsPipedFault {G = Unit {0}} (λ gate q n. false) tt settings left read_failures read_failures_now old new failures failures_now stalls stalls_now fault)

-- why it is refused, and what was written then
abbrev pub IsFaultOf : Settings → Option (List ℕ) → ℕ → ℕ → Option (List ℕ) → Option (List ℕ) → ℕ → ℕ → ℕ → ℕ → Fault → Type 0
IsFaultOf Show = IsShowFault
IsFaultOf (Compress settings from to) = IsFaultBy settings
IsFaultOf (Expand layout from to) = IsExpandFault layout
IsFaultOf Inspect = IsInspectFault

-- how many bytes are read of an input at most
abbrev pub limit_of : Settings → List ℕ → ℕ
limit_of Show = show_limit
limit_of (Compress settings from to) = λ _. raw_limit settings
limit_of (Expand layout from to) = λ _. file_limit
limit_of Inspect = λ _. header_limit

-- the command reads a coded file whole
abbrev pub ReadsFile : Settings → Type 0
ReadsFile Show = ⊥
ReadsFile (Compress settings from to) = ⊥
ReadsFile (Expand layout from to) = ⊤
ReadsFile Inspect = ⊥

-- where memory is refused for a coded file, fewer bytes came than make it too long
abbrev pub IsUnfilled : Settings → Option (List ℕ) → Option (List ℕ) → Fault → Type 0
IsUnfilled settings left left_now fault = ReadsFile settings → fault ≡ WantOfMemory → GaveBelow file_limit left left_now

-- between a source and a sink a command did what it is to do, and neither failed; or it was refused for a reason of its own, which tells what failed
abbrev pub Ran : {U : Type 0} → Settings → Option (List ℕ) → ℕ → ℕ → Option (List ℕ) → Option (List ℕ) → ℕ → ℕ → ℕ → ℕ → Result U Fault → Type 0
Ran settings left read_failures read_failures_now old new failures failures_now stalls stalls_now answer =
    OnOk answer (Does settings left old new)
    × IfErr answer (IsFaultOf settings left read_failures read_failures_now old new failures failures_now stalls stalls_now)
    × OnOk answer ((read_failures_now ≡ read_failures) × (failures_now ≡ failures) × (stalls_now ≡ stalls))
    × IfErr answer (ToldAsRead read_failures read_failures_now)
    × IfErr answer (ToldAsWrite failures failures_now stalls stalls_now)
