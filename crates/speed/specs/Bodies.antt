-- The bodies that the coders write of measured numbers.
use Rattle.std.specs.Prelude.{ℕ, ◌<◌, ◌^◌, Bool, List, length, replicate, slice_index}
use Rattle.cube_core.specs.declared.order.Place.{Place}
use Rattle.header_bits.specs.declared.params.Params.{Params}
use Rattle.sample_adaptive.specs.Settings.{settings}
use Rattle.sample_adaptive.specs.Body.{sample_body}

-- numbers of so many bits
abbrev pub AreOfBits : ℕ → List ℕ → Type 0
AreOfBits bits numbers = (i : ℕ) → i < length numbers → slice_index numbers i < 2 ^ bits

abbrev pub first_place : Place
first_place = record { z = 0; y = 0; x = 0 }

-- the code words of numbers that are all of the first band
abbrev pub one_band_body : Params → List ℕ → List Bool
one_band_body p numbers = sample_body (settings p) (replicate (length numbers) first_place) numbers
