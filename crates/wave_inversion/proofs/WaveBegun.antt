-- What a wavefront knows before its first step. A lane begins: it gets the weights of its band, and the offset at column 0.
use Rattle.std.proofs.Common.{◌≡◌, ◌≢◌, ◌+◌, ◌*◌, ◌<◌, ◌≤◌, ℕ, ℤ, List, length, ◌∙◌, inl, inr, arith}
use Rattle.std.proofs.lemmas.Bool.{cases_eq}
use Rattle.cube_core.specs.Image.{Image}
use Rattle.header_bits.specs.declared.params.Params.{Params}
use Rattle.lanes.specs.Lanes.{place}
use Rattle.band_lanes.specs.Rows.{weights_of}
use Rattle.predict_core.specs.declared.settings.Settings.{Settings}
use Rattle.predict_core.specs.Following.{PredictorState}
use Rattle.predict_core.specs.BandLanes.{HasWeights}
use Rattle.wave_inversion.specs.Inversion.{AreAhead, band_at}
use Rattle.wave_inversion.specs.Wave.{Lower}
use Rattle.wave_inversion.specs.WaveForms.{WaveForm}
use Rattle.wave_inversion.specs.WaveLanes.{AreInStep, AreToBegin, column_at}
use Rattle.wave_inversion.specs.WaveRows.{AreFilled}
use Rattle.wave_inversion.specs.WaveTiles.{IsFormOf, StandAsWave}

-- what is known before step 8
pub record IsBegun (q : ℕ) (f : WaveForm) (c : Image) (bands : List PredictorState) (first y origin last : ℕ) (base : Settings)
    (above numbers : List (List ℤ)) (lower : Lower) (own weights : List (List ℤ)) : Type 0 where
  pub few : q ≤ 9
  pub pairs : f.pairs ≤ q
  pub some : first < length bands
  pub row : (0 < y) × (y < c.shape.rows)
  pub steps : (8 ≤ last) × (last ≤ 63)
  pub inside : origin + 2 ≤ c.shape.columns
  pub stand : StandAsWave bands first c.shape.columns y origin
  pub ahead : AreAhead bands first ((y + 1) * c.shape.columns)
  pub form : IsFormOf f (band_at bands first).predictor c y
  pub made : base.predictor ≡ (band_at bands first).predictor
  pub of-kind : base.range.kind ≡ (band_at bands first).kind
  pub of-columns : base.columns ≡ (band_at bands first).shape.columns
  pub filled : AreFilled q f c bands first y origin above numbers lower own weights

-- one lane more has begun
pub lane_begins : {q : ℕ} {p : Params} {s : ℕ → Settings} {d : Image} {first y last : ℕ} {bands : List PredictorState}
    {start numbers own weights numbers' weights' : List (List ℤ)} (b k : ℕ) → b < 8 → k ≡ 8 + b → AreToBegin q p s d first y bands start
    → HasWeights q b (band_at bands (first + b)) weights' → ((c : ℕ) → c ≢ b → weights_of q c weights' ≡ weights_of q c weights)
    → place numbers' (7 + b) b ≡ place start (7 + b) b → ((i c : ℕ) → i ≢ 7 + b → place numbers' i c ≡ place numbers i c)
    → ((i c : ℕ) → c ≢ b → place numbers' i c ≡ place numbers i c) → AreInStep q p s d first y 0 last b k numbers own weights
    → AreInStep q p s d first y 0 last (b + 1) k numbers' own weights'
lane_begins {q} {p} {s} {d} {first} {y} {numbers' = numbers'} {weights' = weights'} b k fits step begin has beside put rows lanes now = record {
  offsets = λ i c low high mine exists left right. elim (cases_eq c b) [
    | inl here ↦
        (let row : i ≡ 7 + b = omega (arith, here, high, left, step) in let column : column_at 0 (7 + b) b ≡ 0 = omega arith in
        rw (here, row, column) (put ∙ begin.offset b fits (rw here at exists)))
    | inr apart ↦ lanes i c apart ∙ now.offsets i c low high (omega (arith, mine, apart)) exists left right
  ];
  residuals = λ i c low high few exists left right. rows i c (λ e. omega (arith, e, low, step)) ∙ now.residuals i c low high few exists left right;
  centrals = λ i c low high mine exists left right. elim (cases_eq c b) [
    | inl here ↦ absurd (omega (arith, here, high, left, step))
    | inr apart ↦ now.centrals i c low high (omega (arith, mine, apart)) exists left right
  ];
  weights_at = λ c mine exists bound. elim (cases_eq c b) [
    | inl here ↦ (let column : column_at 0 k b ≡ 1 = omega (arith, step) in rw (here, column) (begin.weights_at b fits (rw here at exists) weights' has))
    | inr apart ↦ rw (beside c apart) (now.weights_at c (omega (arith, mine, apart)) exists bound)
  ];
}

-- lanes that have no band have nothing to begin with
pub lanes_all : {q : ℕ} {p : Params} {s : ℕ → Settings} {d : Image} {first y origin last k : ℕ} {numbers own weights : List (List ℤ)} (n : ℕ)
    → ((b : ℕ) → b < 8 → first + b < d.shape.bands → b < n) → AreInStep q p s d first y origin last n k numbers own weights → AreInStep q p s d first y origin last 8 k numbers own weights
lanes_all n all now = record {
  offsets = λ i b low high few exists left right. now.offsets i b low high (all b few exists) exists left right;
  residuals = now.residuals;
  centrals = λ i b low high few exists left right. now.centrals i b low high (all b few exists) exists left right;
  weights_at = λ b few exists bound. now.weights_at b (all b few exists) exists bound;
}
