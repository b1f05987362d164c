-- The parameters of the measurements.
use Rattle.std.specs.Prelude.{ℕ, Bool, true, false, if◌then◌else◌, Result, Ok}
use Rattle.cube_core.specs.declared.fault.Fault.{Fault}
use Rattle.cube_core.specs.declared.order.Order.{Order}
use Rattle.cube_core.specs.declared.order.Order.TheVariants.{Bsq}
use Rattle.cube_core.specs.Shape.{Sizes}
use Rattle.cube_core.specs.Kind.{SampleKind}
use Rattle.cube_core.specs.Steps.{◌>>◌}
use Rattle.header_bits.specs.declared.params.Params.{Params}
use Rattle.header_bits.specs.declared.params.Coder.{Coder}
use Rattle.header_bits.specs.declared.params.WeightStart.TheVariants.{Table}
use Rattle.header_bits.specs.Lawful.{params_fault}
use Rattle.header_bits.specs.Plain.{plain}
use Rattle.header_bits.specs.TableParts.{weight_count}
use Rattle.speed.specs.Numbers.{synthetic_weights}

-- the sizes of the cube that is gone through: large ones where times are told
abbrev pub measured_shape : Bool → Sizes
measured_shape timed = if timed then record { columns = 512; rows = 512; bands = 24 } else record { columns = 23; rows = 17; bands = 5 }

-- how many numbers go through a lane
abbrev pub measured_numbers : Bool → ℕ
measured_numbers timed = if timed then 1000000 else 5000

-- parameters of 12 bits, neighbour sums, and the plain numbers
abbrev pub measured : Sizes → Bool → ℕ → Order → Coder → Params
measured shape reduced previous order coder =
    record (plain shape (record { signed = false; bits = 12 })) { order = order; previous = previous; reduced = reduced; column = false; coder = coder }

-- the plainest parameters of a kind, for a coder that is measured alone
abbrev pub coder_alone : Sizes → SampleKind → Coder → Params
coder_alone shape kind coder = record (measured shape true 0 Bsq coder) { kind = kind; column = true }

-- the same parameters in full mode, whose weights start from a table
abbrev pub from_table : Params → Params
from_table p = record p { start = Table 14 (synthetic_weights (weight_count p.previous false p.shape.bands)) }

-- parameters, or the first refusal of them
abbrev pub lawful_or_fault : Params → Result Params Fault
lawful_or_fault p = params_fault p >> Ok p
