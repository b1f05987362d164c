-- The entropy coder, writing: the residuals that it has taken, in encoding order, and what it appended for them.
use Rattle.std.specs.Prelude.{ℕ, suc, ◌≡◌, ◌+◌, ◌*◌, ◌^◌, ◌<◌, ◌≤◌, Bool, List, [], ◌∷◌, ◌++◌, length, take, drop, slice_get, Some}
use Rattle.std.specs.List.{AllByRecursion}
use Rattle.cube_core.specs.declared.order.Place.{Place}
use Rattle.cube_core.specs.Shape.{sample_count}
use Rattle.cube_core.specs.Order.{IsOrder, places}
use Rattle.header_bits.specs.declared.params.Params.{Params}
use Rattle.sample_adaptive.specs.Settings.{settings, IsSample}
use Rattle.sample_adaptive.specs.Body.{band_residuals, sample_body}
use Rattle.sample_adaptive.specs.Given.{IsNext, places_of}
use Rattle.sample_adaptive.specs.Taken.{CoderState, HasTaken as HaveTaken}
use Rattle.block_adaptive.specs.Settings.{IsBlock, IsCutOf, cut_by}
use Rattle.block_adaptive.specs.Taken.{WriterState, EndsBlock, EndsInside, taken_count, HasTaken as HasPacked}
use Rattle.block_adaptive.specs.DataSets.{capacity}
use Rattle.file_encoding.specs.declared.encoder.EntropyEncoder.{EntropyEncoder}
use Rattle.file_encoding.specs.declared.encoder.EntropyEncoder.TheVariants.{Samples, Blocks}
use Rattle.file_format.specs.File.{body_of}

-- the residuals of band z, among the first ones in encoding order
abbrev pub of_band : Params → List ℕ → ℕ → List ℕ
of_band p numbers z = band_residuals z (places_of p numbers) numbers

-- the sample-adaptive coder has taken the residuals, and the bits are their code words
pub record SamplesTaken (p : Params) (v : CoderState) (numbers : List ℕ) (bits : List Bool) : Type 0 where
  pub coder : IsSample p.coder
  pub bands : length v.bands ≡ p.shape.bands
  pub depth : v.bits ≡ p.kind.bits
  pub taken : HaveTaken (settings p) v (of_band p numbers)
  pub text : bits ≡ sample_body (settings p) (places_of p numbers) numbers

-- the block-adaptive coder has taken the residuals, and the bits are what it has appended
pub record BlocksTaken (p : Params) (v : WriterState) (numbers : List ℕ) (bits : List Bool) : Type 0 where
  pub coder : IsBlock p.coder
  pub cut : v.cut ≡ cut_by p
  pub room : IsCutOf (sample_count p.shape) v.cut
  pub taken : HasPacked v numbers bits
  pub count : taken_count v ≡ length numbers

-- the coder that parameters name has taken the residuals, and appended the bits
abbrev pub HasTaken : Params → EntropyEncoder → List ℕ → List Bool → Type 0
HasTaken p (Samples v) numbers bits = SamplesTaken p v numbers bits
HasTaken p (Blocks v) numbers bits = BlocksTaken p v numbers bits

-- a residual of band z may be put
abbrev pub MayPut : EntropyEncoder → ℕ → ℕ → Type 0
MayPut (Samples v) z number = (z < length v.bands) × (number < 2 ^ v.bits)
MayPut (Blocks v) z number = (taken_count v < capacity v.cut) × (number < 2 ^ v.cut.set.bits)

-- coding a residual may allocate: with blocks, only if it completes one
abbrev pub MayGrow : EntropyEncoder → Type 0
MayGrow (Samples v) = Unit {0}
MayGrow (Blocks v) = EndsBlock v

-- ending a body may allocate: with blocks, only if the residuals end inside one
abbrev pub MayGrowAtEnd : EntropyEncoder → Type 0
MayGrowAtEnd (Samples v) = ⊥
MayGrowAtEnd (Blocks v) = EndsInside v

-- whichever residuals were taken before: bits were appended, and one residual more is taken
abbrev pub PutsResidual : ℕ → ℕ → ℕ → EntropyEncoder → List Bool → EntropyEncoder → List Bool → Type 0
PutsResidual z t number old written new written_now =
    (p : Params) (numbers : List ℕ) (bits : List Bool) → HasTaken p old numbers bits → IsNext p numbers z t
    → (more : List Bool) × (written_now ≡ written ++ more) × HasTaken p new (numbers ++ number ∷ []) (bits ++ more)

-- residuals of band z from raster index t on may be put as one run: the coder is the sample-adaptive one
abbrev pub MayPutRun : EntropyEncoder → ℕ → ℕ → List ℕ → Type 0
MayPutRun (Samples v) z t run = (z < length v.bands) × AllByRecursion (λ n. n < 2 ^ v.bits) run × (length run ≤ 2 ^ 16) × (t < 2 ^ 48)
MayPutRun (Blocks v) z t run = ⊥

-- `count` places after those of the residuals
abbrev pub places_after : Params → List ℕ → ℕ → List Place
places_after p numbers count = take count (drop (length numbers) (places p.shape p.order))

-- the next `count` places are those of band z from raster index t on
pub record IsRun (p : Params) (numbers : List ℕ) (z t count : ℕ) : Type 0 where
  pub fits : length numbers + count ≤ length (places p.shape p.order)
  pub band : AllByRecursion (λ q. q.z ≡ z) (places_after p numbers count)
  pub time : t ≡ length (of_band p numbers z)

-- whichever residuals were taken before: bits were appended, and the residuals of a run are taken
abbrev pub PutsRun : ℕ → ℕ → List ℕ → EntropyEncoder → List Bool → EntropyEncoder → List Bool → Type 0
PutsRun z t run old written new written_now =
    (p : Params) (numbers : List ℕ) (bits : List Bool) → HasTaken p old numbers bits → IsRun p numbers z t (length run)
    → (more : List Bool) × (written_now ≡ written ++ more) × HasTaken p new (numbers ++ run) (bits ++ more)

-- residuals of consecutive bands from band z on may be put as one column: the coder is the sample-adaptive one
abbrev pub MayPutColumn : EntropyEncoder → ℕ → List ℕ → Type 0
MayPutColumn (Samples v) z column = (z + length column ≤ length v.bands) × AllByRecursion (λ n. n < 2 ^ v.bits) column × (length column ≤ 2 ^ 16)
MayPutColumn (Blocks v) z column = ⊥

-- one residual for each of consecutive bands from band z on, at raster index t: they are taken in turn
abbrev pub PutsColumn : ℕ → ℕ → List ℕ → EntropyEncoder → List Bool → EntropyEncoder → List Bool → Type 0
PutsColumn z t [] old written new written_now = (new ≡ old) × (written_now ≡ written)
PutsColumn z t (number ∷ numbers) old written new written_now =
    (mid : EntropyEncoder) × (written_mid : List Bool) × PutsResidual z t number old written mid written_mid
    × PutsColumn (suc z) t numbers mid written_mid new written_now

-- residuals may be put as they come: the coder is the block-adaptive one, and has blocks for them
abbrev pub MayPutBlocks : EntropyEncoder → List ℕ → Type 0
MayPutBlocks (Samples v) list = ⊥
MayPutBlocks (Blocks v) list = (taken_count v + length list ≤ capacity v.cut) × AllByRecursion (λ n. n < 2 ^ v.cut.set.bits) list

-- whichever residuals were taken before: bits were appended, and the residuals of the list are taken
abbrev pub PutsBlocks : List ℕ → EntropyEncoder → List Bool → EntropyEncoder → List Bool → Type 0
PutsBlocks list old written new written_now =
    (p : Params) (numbers : List ℕ) (bits : List Bool) → HasTaken p old numbers bits
    → (more : List Bool) × (written_now ≡ written ++ more) × HasTaken p new (numbers ++ list) (bits ++ more)

-- the coder is the sample-adaptive one
abbrev pub IsBySamples : EntropyEncoder → Type 0
IsBySamples (Samples v) = Unit {0}
IsBySamples (Blocks v) = ⊥

-- the coder is the block-adaptive one
abbrev pub IsByBlocks : EntropyEncoder → Type 0
IsByBlocks (Samples v) = ⊥
IsByBlocks (Blocks v) = Unit {0}

-- if a residual was taken for each sample, all bits together are the body
abbrev pub EndsBody : EntropyEncoder → List Bool → List Bool → Type 0
EndsBody old written written_now =
    (p : Params) (numbers : List ℕ) (bits : List Bool) → HasTaken p old numbers bits → IsOrder p.shape p.order → length numbers ≡ sample_count p.shape
    → (more : List Bool) × (written_now ≡ written ++ more) × (bits ++ more ≡ body_of p numbers)

-- the number of earlier residuals of a place's band is the place's raster index
abbrev pub TimeOfPlace : Type 0
TimeOfPlace =
    (p : Params) (numbers : List ℕ) (q : Place) → IsOrder p.shape p.order → slice_get (places p.shape p.order) (length numbers) ≡ Some q
    → length (of_band p numbers q.z) ≡ q.y * p.shape.columns + q.x
