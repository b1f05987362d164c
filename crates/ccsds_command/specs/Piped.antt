-- What a cube's raw bytes are compressed to by predictors in threads of their own.
use Rattle.std.specs.Prelude.{◌≡◌, ◌⊎◌, ℕ, ◌%◌, ◌&&◌, nat_le, Bool, if◌then◌else◌, List, [], map, Option, Err}
use Rattle.cube_core.specs.declared.fault.Fault.{Fault}
use Rattle.cube_core.specs.Image.{Image}
use Rattle.cube_core.specs.Order.{upto}
use Rattle.cube_core.specs.Shape.{InRange}
use Rattle.header_bits.specs.Lawful.{IsLawful, params_fault}
use Rattle.coder_pipe.specs.Piping.{EndsEarly, MayStopPart}
use Rattle.coder_pipe.specs.Plans.{PlanState, plan_fault}
use Rattle.command_words.specs.declared.settings.CompressSettings.{CompressSettings}
use Rattle.command_devices.specs.Writing.{IsCutShort}
use Rattle.ccsds_command.specs.Compress.{HasCube, HasFile, IsCubeRefusal}

-- the numbers of predictors and of slots are in their ranges
abbrev pub are_in_range : CompressSettings → Bool
are_in_range s = (nat_le 1 s.predictors && nat_le s.predictors 64) && (nat_le 1 s.slots && nat_le s.slots 65536)

-- there may be as many predictors and slots
abbrev pub MayBePlanned : CompressSettings → Type 0
MayBePlanned s = InRange 1 64 s.predictors × InRange 1 65536 s.slots

-- band z goes to predictor z mod their number
abbrev pub deal_of : CompressSettings → List ℕ
deal_of s = if are_in_range s then map (λ z. z % s.predictors) (upto s.params.shape.bands) else []

abbrev pub plan_of : CompressSettings → PlanState
plan_of s = record { params = s.params; predictors = s.predictors; deal = deal_of s; slots = s.slots }

-- there can be no plan, and this is why
abbrev pub HasNoPlan : CompressSettings → Fault → Type 0
HasNoPlan s fault = plan_fault s.predictors s.slots s.params.shape.bands (deal_of s) ≡ Err fault

-- the source has a cube, and its pipeline ended early: memory or a thread was refused, or the gate stopped a predictor at a residual that its part has
abbrev pub EndedEarly : {G : Type 0} → (G → ℕ → ℕ → Bool) → G → CompressSettings → Option (List ℕ) → Fault → Type 0
EndedEarly may_stop gate s left fault = (c : Image) × HasCube s left c × EndsEarly fault (λ q n. MayStopPart may_stop gate (plan_of s) c q n)

-- why a run is refused: the parameters aren't lawful, there can be no plan, the source has no cube, or the pipeline ended early, and nothing was written;
-- or the sink cut the file short
unfoldable pub IsPipedFault : {G : Type 0} → (G → ℕ → ℕ → Bool) → G → CompressSettings → Option (List ℕ) → ℕ → ℕ → Option (List ℕ) → Option (List ℕ) → ℕ → ℕ
    → ℕ → ℕ → Fault → Type 0
IsPipedFault may_stop gate s left read_failures read_failures_now old new failures failures_now stalls stalls_now fault =
    ((params_fault s.params ≡ Err fault) × (new ≡ old))
    ⊎ ((IsLawful s.params × HasNoPlan s fault × (new ≡ old))
    ⊎ ((IsLawful s.params × IsCubeRefusal s left read_failures read_failures_now fault × (new ≡ old))
    ⊎ ((IsLawful s.params × EndedEarly may_stop gate s left fault × (new ≡ old))
    ⊎ ((file : List ℕ) × IsLawful s.params × HasFile s left file × IsCutShort old new failures failures_now stalls stalls_now file fault))))
