-- The entropy coder, reading: the residuals that it has decoded, in encoding order; and what decoding a file returns.
use Rattle.std.specs.Prelude.{ℕ, ◌≡◌, ◌⊎◌, ◌+◌, ◌^◌, ◌<◌, Bool, List, [], ◌∷◌, ◌++◌, map, length, Result, Ok, Err, IfOk, IfErr, MatchResult}
use Rattle.std.specs.List.{AllByRecursion}
use Rattle.cube_core.specs.declared.fault.Fault.{Fault}
use Rattle.cube_core.specs.declared.fault.Fault.TheVariants.{WantOfMemory}
use Rattle.cube_core.specs.declared.order.Place.{Place}
use Rattle.cube_core.specs.Image.{Image}
use Rattle.cube_core.specs.Order.{places}
use Rattle.header_bits.specs.declared.params.Params.{Params}
use Rattle.header_bits.specs.Bits.{Unread, bits_of_bytes}
use Rattle.header_bits.specs.Header.{BeginsWithTable}
use Rattle.header_bits.specs.Lawful.{IsLawful}
use Rattle.predict_core.specs.Cubes.{IsCubeOf}
use Rattle.predict_core.specs.Offsets.{number_at}
use Rattle.sample_prediction.specs.Residual.{residuals}
use Rattle.sample_adaptive.specs.Given.{HasGiven as GivenBySamples, IsNext}
use Rattle.block_adaptive.specs.Given.{HasGivenOf}
use Rattle.file_decoding.specs.declared.decoder.EntropyDecoder.{EntropyDecoder}
use Rattle.file_decoding.specs.declared.decoder.EntropyDecoder.TheVariants.{Samples, Blocks}
use Rattle.file_format.specs.Files.{IsBody, IsFile, after_body, head_at, file_test}

-- the coder that parameters name has decoded the residuals from the bits
abbrev pub HasGiven : Params → EntropyDecoder → List ℕ → List Bool → Type 0
HasGiven p (Samples v) numbers bits = GivenBySamples p v numbers bits
HasGiven p (Blocks v) numbers bits = HasGivenOf p v numbers bits

-- some bits were read, from which the coder decoded the residuals of the list, each below 2^D
abbrev pub GivesAll : Params → EntropyDecoder → List ℕ → List Bool → List Bool → List Bool → List ℕ → Type 0
GivesAll p new numbers bits unread left list =
    AllByRecursion (λ n. n < 2 ^ p.kind.bits) list × (read : List Bool) × (unread ≡ read ++ left) × HasGiven p new (numbers ++ list) (bits ++ read)

-- on success the result's residuals were decoded; a refusal is the first fault of the body
abbrev pub GivesMore : {X : Type 0} → (X → List ℕ) → Result X Fault → Params → List ℕ → List Bool → Unread → EntropyDecoder → List Bool → Type 0
GivesMore numbers_of result p numbers bits unread new left =
    MatchResult result (λ answer. GivesAll p new numbers bits unread.left left (numbers_of answer))
    (λ fault. after_body unread.count p (bits ++ unread.left) ≡ Err fault)

-- residual n + i is one of band `zs i` at raster index `ts i`, for each i < count
abbrev pub AreEach : Params → ℕ → (ℕ → ℕ) → (ℕ → ℕ) → ℕ → Type 0
AreEach p n zs ts count = (i : ℕ) (numbers : List ℕ) → i < count → length numbers ≡ n + i → IsNext p numbers (zs i) (ts i)

-- the next `count` residuals are those of band z from raster index t on
abbrev pub AreResiduals : Params → ℕ → ℕ → ℕ → ℕ → Type 0
AreResiduals p n z t count = AreEach p n (λ i. z) (λ i. t + i) count

-- the next `count` residuals are those at raster index t of consecutive bands from band z on
abbrev pub AreAbove : Params → ℕ → ℕ → ℕ → ℕ → Type 0
AreAbove p n z t count = AreEach p n (λ i. z + i) (λ i. t) count

-- such residuals may be read, one after another: for lawful parameters, and the first of them stands at `index` in encoding order
pub record MayAskEach (d : EntropyDecoder) (zs ts : ℕ → ℕ) (index count : ℕ) : Type 0 where
  pub params : Params
  pub numbers : List ℕ
  pub bits : List Bool
  pub lawful : IsLawful params
  pub given : HasGiven params d numbers bits
  pub stands : index ≡ length numbers
  pub ask : AreEach params (length numbers) zs ts count

-- `count` residuals of band z from raster index t on may be read
abbrev pub MayAskAll : EntropyDecoder → ℕ → ℕ → ℕ → ℕ → Type 0
MayAskAll d z t index count = MayAskEach d (λ i. z) (λ i. t + i) index count

-- the residuals at raster index t of `count` consecutive bands from band z on may be read
abbrev pub MayAskColumn : EntropyDecoder → ℕ → ℕ → ℕ → ℕ → Type 0
MayAskColumn d z t index count = MayAskEach d (λ i. z + i) (λ i. t) index count

-- if such residuals may be read, they are decoded, or the refusal is the first fault of the body
abbrev pub GivesEach : (ℕ → ℕ) → (ℕ → ℕ) → ℕ → Result (Unit {0}) Fault → EntropyDecoder → Unread → EntropyDecoder → List Bool → List ℕ → Type 0
GivesEach zs ts index result old unread new left list =
    (m : MayAskEach old zs ts index (length list)) → GivesMore (λ _. list) result m.params m.numbers m.bits unread new left

-- the residuals of band z from raster index t on
abbrev pub GivesRun : ℕ → ℕ → ℕ → Result (Unit {0}) Fault → EntropyDecoder → Unread → EntropyDecoder → List Bool → List ℕ → Type 0
GivesRun z t index result old unread new left list = GivesEach (λ i. z) (λ i. t + i) index result old unread new left list

-- the residuals at raster index t of consecutive bands from band z on
abbrev pub GivesColumn : ℕ → ℕ → ℕ → Result (Unit {0}) Fault → EntropyDecoder → Unread → EntropyDecoder → List Bool → List ℕ → Type 0
GivesColumn z t index result old unread new left list = GivesEach (λ i. z + i) (λ i. t) index result old unread new left list

-- the bits are a body of the cube's residuals, followed by the bits that are left
pub record TakesCube (p : Params) (c : Image) (bits left : List Bool) : Type 0 where
  pub cube : IsCubeOf p c
  pub body : List Bool
  pub coded : IsBody p (residuals p c) body
  pub text : bits ≡ body ++ left

-- the numbers that an image holds at places, as offsets from the least sample
abbrev pub numbers_at : Image → List Place → List ℕ
numbers_at c ps = map (λ q. number_at c q.z q.y q.x) ps

-- the bits are a body of the numbers that the image holds in encoding order, followed by the bits that are left
pub record TakesResiduals (p : Params) (c : Image) (bits left : List Bool) : Type 0 where
  pub shape : c.shape ≡ p.shape
  pub kind : c.kind ≡ p.kind
  pub body : List Bool
  pub coded : IsBody p (numbers_at c (places p.shape p.order)) body
  pub text : bits ≡ body ++ left

-- the result is these parameters and this cube, or `WantOfMemory`
abbrev pub AnswersOr : Result (Params × Image) Fault → Params → Image → Type 0
AnswersOr (Ok found) p c = (found.0 ≡ p) × (found.1 ≡ c)
AnswersOr (Err e) p c = e ≡ WantOfMemory

-- the bytes are no file, whatever the parameters and the cube
abbrev pub IsNoFile : List ℕ → Type 0
IsNoFile bytes = (p : Params) (c : Image) → IsFile bytes p c → ⊥

-- why a file was refused: for the first fault of the bytes; or memory ran out, for the header's tables or after a head without a fault
abbrev pub IsRefusal : List Bool → Fault → Type 0
IsRefusal bits e =
    (file_test bits ≡ Err e) ⊎ ((e ≡ WantOfMemory) × (BeginsWithTable bits ⊎ ((head : Params × List Bool) × (head_at bits ≡ Ok head))))

-- the result of reading a file: lawful parameters and a cube of which the bytes are a file, or a refusal
pub record ReadsFile (bytes : List ℕ) (r : Result (Params × Image) Fault) : Type 0 where
  pub lawful : IfOk r (λ found. IsLawful found.0)
  pub file : IfOk r (λ found. IsFile bytes found.0 found.1)
  pub refused : IfErr r (IsRefusal (bits_of_bytes bytes))
