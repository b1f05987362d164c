-- A piece of a row of eight bands: what its lanes have found after their last step.
use Rattle.std.proofs.Common.{◌≡◌, ◌+◌, ◌-◌, ◌*◌, ◌^◌, ◌<◌, ◌≤◌, ℕ, ℤ, pos, ◌+ℤ◌, ◌≤ℤ◌, List, [], length, take, min, get_or, sym, ap, ◌∙◌, subst, arith}
use Rattle.std.proofs.lemmas.Int.{ints}
use Rattle.std.proofs.lemmas.List.{take-take}
use Rattle.cube_core.specs.Shape.{Sizes}
use Rattle.cube_core.specs.Image.{Image}
use Rattle.header_bits.specs.declared.params.Params.{Params}
use Rattle.lanes.specs.Lanes.{place}
use Rattle.band_lanes.specs.Rows.{weights_of}
use Rattle.sample_prediction.specs.Bounds.{AllWithin}
use Rattle.sample_prediction.specs.Chain.{AreWeightsAt}
use Rattle.sample_prediction.specs.declared.predictor.Predictor.{Predictor}
use Rattle.predict_core.specs.declared.settings.Settings.{Settings}
use Rattle.wave_inversion.specs.declared.found.Found.{Found}
use Rattle.predict_core.specs.Following.{PredictorState}
use Rattle.wave_inversion.specs.Inversion.{IsInverting, band_at}
use Rattle.wave_inversion.specs.Wave.{Lower, AreOffsetRows}
use Rattle.wave_inversion.specs.WaveForms.{WaveForm}
use Rattle.wave_inversion.specs.WaveLanes.{AreLanes, AreInStep, AreToBegin, column_at}
use Rattle.wave_inversion.specs.WaveTiles.{AreCollected, AreFound, ended, rows_at_end}
use Rattle.wave_inversion.proofs.WaveEnds.{at_end, whole_far, offsets_found, weights_found}
use Rattle.wave_inversion.proofs.WaveForms.{constants_at}
use Rattle.wave_inversion.proofs.WaveBegun.{IsBegun}
use Rattle.wave_inversion.proofs.WaveTiles.{lanes_begun, start_begun, to_begin, same_made, count_is, enough_at}

module _ {q : ℕ} {f : WaveForm} {c : Image} {bands : List PredictorState} {first y origin last : ℕ} {base : Settings} {above numbers : List (List ℤ)} {lower : Lower} {own weights : List (List ℤ)}
    (k : IsBegun q f c bands first y origin last base above numbers lower own weights) where
  abbrev pub settings : ℕ → Settings
  settings b = constants_at base (first + b)

  -- the bands' weights are in the range that the form has
  pub omega_same : {p : Params} {d : Image} → IsInverting p c d bands → (z : ℕ) → z < length bands → f.omega ≡ (band_at bands z).predictor.omega
  omega_same inv z inside = k.form.omega ∙ ap (λ (m : Predictor). m.omega) (sym k.made ∙ sym (same_made k inv z inside))

  pub weights_small : {p : Params} {d : Image} → IsInverting p c d bands → (b : ℕ) → b < 8 → AllWithin (2 ^ (f.omega + 2)) (weights_of q b weights)
  weights_small inv b fits =
      subst (λ (n : ℕ). AllWithin (2 ^ (n + 2)) (weights_of q b weights)) (sym (omega_same inv (min (first + b) (length bands - 1)) (omega (arith, k.some))))
      (k.filled.has b fits).within

  abbrev lanes : ℕ
  lanes = ended c.shape.columns origin last

  -- by what the steps do up to where the first lane ends, and from there on
  pub are_found : {near_numbers near_own near_weights far_numbers far_own far_weights : List (List ℤ)} {ends : ℕ → List (List ℤ)} {found : Found}
      → (p : Params) × (d : Image) × IsInverting p c d bands → f.greatest +ℤ pos 1 ≡ pos (2 ^ f.bits) → 16 ≤ c.shape.columns
      → (origin ≡ 0 → 15 ≤ last) × (0 < origin → 7 ≤ origin)
      → ((p : Params) (d : Image) → AreLanes q f p settings d first y origin last above lower → (origin ≡ 0 → AreToBegin q p settings d first y bands numbers)
      → AreInStep q p settings d first y origin last (min 8 (origin + 1)) 8 numbers own weights
      → AreInStep q p settings d first y origin last 8 (last - lanes) near_numbers near_own near_weights)
      → ((p : Params) (d : Image) → AreLanes q f p settings d first y origin last above lower → 15 ≤ origin + (last - lanes)
      → AreInStep q p settings d first y origin last 8 (last - lanes) near_numbers near_own near_weights
      → AreInStep q p settings d first y origin last 8 last far_numbers far_own far_weights)
      → ((p : Params) (d : Image) → AreLanes q f p settings d first y origin last above lower → 15 ≤ origin + (last - lanes)
      → AreInStep q p settings d first y origin last 8 (last - lanes) near_numbers near_own near_weights
      → (b : ℕ) → b < last - (last - lanes) → first + b < d.shape.bands → column_at origin (last - lanes + b) b ≤ d.shape.columns
      → AreWeightsAt p (settings b).predictor d (first + b) (y * d.shape.columns + column_at origin (last - lanes + b) b)
      (take (settings b).count (weights_of q b (ends b))))
      → AreOffsetRows f.greatest far_numbers
      → ((b : ℕ) → b < last - (last - lanes) → AllWithin (2 ^ (f.omega + 2)) (weights_of q b (ends b)))
      → ((b : ℕ) → b < 8 → AllWithin (2 ^ (f.omega + 2)) (weights_of q b far_weights)) → AreCollected q lanes far_numbers ends far_weights found
      → AreFound q bands c first y origin last found
  are_found {near_numbers} {near_own} {near_weights} {far_numbers} {far_own} {far_weights} {ends} {found} inverting top wide begun near far kept offsets_in ends_in weights_in collected = record {
    within = λ b i fits small.
        below (place far_numbers i b) f.greatest _ _ (collected.offsets_are i b small fits) (offsets_in i b small fits).1 top (ap (λ (n : ℕ). 2 ^ n) k.form.bits);
    enough = enough;
    weights_in = λ b fits exists. rw (collected.weights_are b fits) (subst (λ (n : ℕ). AllWithin (2 ^ (n + 2)) (weights_of q b (rows_at_end lanes ends far_weights b)))
        (omega_same inverting.2 (first + b) exists)
        (at_end (λ (rows : List (List ℤ)). AllWithin (2 ^ (f.omega + 2)) (weights_of q b rows)) lanes b ends far_weights
        (λ before. ends_in b (rw whole before)) (λ after. weights_in b fits)));
    offsets_at = λ p d inv b i fits exists low high right.
        same_number (place far_numbers i b) _ _ (collected.offsets_are i b (omega (arith, high, k.steps)) fits)
        (offsets_found (last_step p d inv) (ap (λ (s : Sizes). s.columns) inv.alike.shape) b i fits (here p d inv b exists) low high right);
    weights_at = λ p d inv b fits exists.
        sym (take-take (length (band_at bands (first + b)).weights) (2 * q) (get_or found.weights b []) (enough b fits exists))
        ∙ ap (take (length (band_at bands (first + b)).weights)) (collected.weights_are b fits)
        ∙ weights_found (last_step p d inv) (ap (λ (s : Sizes). s.columns) inv.alike.shape) ends b _ fits (here p d inv b exists) k.inside (count_is k inv b fits exists)
        (λ before column. kept p d (lanes_begun k inv) distant (first_step p d inv) b before (here p d inv b exists) column);
  }
    where
      below : (v greatest : ℤ) (n limit : ℕ) {power : ℕ} → v ≡ pos n → v ≤ℤ greatest → greatest +ℤ pos 1 ≡ pos power → power ≡ limit → n < limit
      below v greatest n limit e h top same = omega (arith, ints, e, h, top, same)

      same_number : (v : ℤ) (a b : ℕ) → v ≡ pos a → v ≡ pos b → a ≡ b
      same_number v a b e h = omega (arith, ints, e, h)

      whole : last - (last - lanes) ≡ lanes
      whole = omega (arith, k.inside)

      distant : 15 ≤ origin + (last - lanes)
      distant = whole_far c.shape.columns origin last wide k.inside k.steps.0 begun.0 begun.1

      enough : (b : ℕ) → b < 8 → first + b < length bands → length (band_at bands (first + b)).weights ≤ 2 * q
      enough b fits exists = rw (← count_is k inverting.2 b fits exists) (enough_at k inverting.2 (first + b))

      here : (p : Params) (d : Image) → IsInverting p c d bands → (b : ℕ) → first + b < length bands → first + b < d.shape.bands
      here p d inv b exists = let many = ap (λ (s : Sizes). s.bands) inv.cube.shape in omega (arith, exists, many, inv.many)

      first_step : (p : Params) (d : Image) (inv : IsInverting p c d bands)
          → AreInStep q p settings d first y origin last 8 (last - lanes) near_numbers near_own near_weights
      first_step p d inv = near p d (lanes_begun k inv) (to_begin k inv) (start_begun k inv)

      last_step : (p : Params) (d : Image) (inv : IsInverting p c d bands) → AreInStep q p settings d first y origin last 8 last far_numbers far_own far_weights
      last_step p d inv = far p d (lanes_begun k inv) distant (first_step p d inv)
