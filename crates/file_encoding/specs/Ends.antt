-- The file encoder: what it has written once it has taken the first residuals of an image.
use Rattle.std.specs.Prelude.{ℕ, ◌≡◌, ◌+◌, ◌^◌, ◌<◌, ◌≤◌, Bool, List, ◌++◌, length, drop, slice_get, Some}
use Rattle.std.specs.List.{AllByRecursion}
use Rattle.cube_core.specs.declared.order.Place.{Place}
use Rattle.cube_core.specs.Along.{AreByRows}
use Rattle.cube_core.specs.Shape.{sample_count}
use Rattle.cube_core.specs.Order.{IsOrder, places}
use Rattle.header_bits.specs.declared.params.Params.{Params}
use Rattle.header_bits.specs.Header.{header_of}
use Rattle.header_bits.specs.Lawful.{IsLawful}
use Rattle.file_encoding.specs.declared.encoder.EntropyEncoder.{EntropyEncoder}
use Rattle.file_encoding.specs.Coding.{HasTaken, IsBySamples}

-- N_x, B, the places whose residuals are still to come, the entropy coder, and the bits so far
pub record FileEncoderState : Type 0 where
  pub columns : ℕ
  pub word : ℕ
  pub left : List Place
  pub coder : EntropyEncoder
  pub bits : List Bool

-- the file encoder for parameters has taken the residuals: the places after them are still to come, and what the coder wrote follows the header
pub record HasCoded (p : Params) (e : FileEncoderState) (numbers : List ℕ) : Type 0 where
  pub columns : e.columns ≡ p.shape.columns
  pub word : e.word ≡ p.word
  pub order : IsOrder p.shape p.order
  pub within : length numbers ≤ sample_count p.shape
  pub left : e.left ≡ drop (length numbers) (places p.shape p.order)
  pub written : List Bool
  pub taken : HasTaken p e.coder numbers written
  pub text : e.bits ≡ header_of p ++ written

-- a file encoder for lawful parameters has taken fewer residuals than there are samples, and the next one is below 2^D
pub record MayCode (e : FileEncoderState) (number : ℕ) : Type 0 where
  pub params : Params
  pub numbers : List ℕ
  pub lawful : IsLawful params
  pub coded : HasCoded params e numbers
  pub more : length numbers < sample_count params.shape
  pub range : number < 2 ^ params.kind.bits

-- a file encoder for lawful parameters may take the residuals of a list: enough places are left, and each residual is below 2^D
pub record MayCodeAll (e : FileEncoderState) (list : List ℕ) : Type 0 where
  pub params : Params
  pub numbers : List ℕ
  pub lawful : IsLawful params
  pub coded : HasCoded params e numbers
  pub more : length numbers + length list ≤ sample_count params.shape
  pub range : AllByRecursion (λ n. n < 2 ^ params.kind.bits) list

-- whichever residuals it had taken, it has taken those of the list after them
abbrev pub CodesAll : FileEncoderState → FileEncoderState → List ℕ → Type 0
CodesAll old new list = (p : Params) (numbers : List ℕ) → HasCoded p old numbers → HasCoded p new (numbers ++ list)

-- the first `count` places share the row and column of a place, and their bands follow one another from its band on
abbrev pub AreOfColumn : Place → ℕ → List Place → Type 0
AreOfColumn place count ps = (i : ℕ) → i < count → slice_get ps i ≡ Some (record { z = place.z + i; y = place.y; x = place.x })

-- a run may be coded: its residuals are of one row, from the next place on
pub record MayCodeRun (e : FileEncoderState) (place : Place) (run : List ℕ) : Type 0 where
  pub may : MayCodeAll e run
  pub samples : IsBySamples e.coder
  pub rows : AreByRows e.columns e.left
  pub next : slice_get e.left 0 ≡ Some place
  pub row : place.x + length run ≤ e.columns

-- a column may be coded: its residuals are of one row and column, from the next place on
pub record MayCodeColumn (e : FileEncoderState) (place : Place) (column : List ℕ) : Type 0 where
  pub may : MayCodeAll e column
  pub samples : IsBySamples e.coder
  pub next : slice_get e.left 0 ≡ Some place
  pub along : AreOfColumn place (length column) e.left
