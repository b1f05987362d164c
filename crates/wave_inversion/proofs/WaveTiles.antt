-- A piece of a row of at most eight bands: what is known before its first step is what its lanes need.
use Rattle.std.proofs.Common.{◌≡◌, ◌+◌, ◌-◌, ◌*◌, ◌<◌, ◌≤◌, nat_le, ℕ, ℤ, pos, ◌+ℤ◌, ◌-ℤ◌, ◌*ℤ◌, unsigned_abs, Bool, true, false, List, length, take, min, refl, sym, ap, ap₂, subst, ◌∙◌, inl, inr, arith, if◌then◌else◌}
use Rattle.std.proofs.lemmas.Bool.{cases_lt}
use Rattle.std.proofs.lemmas.Bool.Decides.{nat_tests}
use Rattle.std.proofs.lemmas.Int.{ints}
use Rattle.std.proofs.lemmas.Nat.{row_fits}
use Rattle.cube_core.specs.Shape.{Sizes}
use Rattle.cube_core.specs.Kind.{SampleKind, smin}
use Rattle.cube_core.specs.Image.{Image, IsPlace, sample_at}
use Rattle.header_bits.specs.declared.params.Params.{Params}
use Rattle.lanes.specs.Lanes.{place}
use Rattle.band_lanes.specs.Rows.{weights_of}
use Rattle.sample_prediction.specs.Chain.{AreWeightsAt}
use Rattle.sample_prediction.specs.Differences.{central_difference}
use Rattle.sample_prediction.specs.Predictor.{predictor_of, component_count}
use Rattle.sample_prediction.specs.Prediction.{weight_vector}
use Rattle.sample_prediction.specs.Residual.{mapped_residual}
use Rattle.sample_prediction.specs.Weights.{step_exponent}
use Rattle.sample_prediction.specs.declared.predictor.Predictor.{Predictor}
use Rattle.predict_core.specs.declared.settings.Settings.{Settings}
use Rattle.predict_core.specs.Following.{PredictorState}
use Rattle.predict_core.specs.BandLanes.{HasWeights}
use Rattle.wave_inversion.specs.Inversion.{IsInverting, IsBandInverted, band_at}
use Rattle.predict_core.specs.Offsets.{number_at}
use Rattle.wave_inversion.specs.Wave.{Lower, sum_by}
use Rattle.wave_inversion.specs.WaveForms.{WaveForm}
use Rattle.wave_inversion.specs.WaveLanes.{AreLanes, AreInStep, AreToBegin, column_at, column_within, first_column, lower_central}
use Rattle.wave_inversion.specs.WaveRows.{AreCentralsOf}
use Rattle.wave_inversion.proofs.WaveBegun.{IsBegun}
use Rattle.wave_inversion.proofs.WaveForms.{constants_at}
use Rattle.wave_inversion.proofs.WaveOffsets.{central_told}

module _ {q : ℕ} {f : WaveForm} {c : Image} {bands : List PredictorState} {first y origin last : ℕ} {base : Settings}
    {above numbers : List (List ℤ)} {lower : Lower} {own weights : List (List ℤ)}
    (k : IsBegun q f c bands first y origin last base above numbers lower own weights) {p : Params} {d : Image}
    (inv : IsInverting p c d bands) where
  abbrev s : ℕ → Settings
  s b = constants_at base (first + b)

  shape : c.shape ≡ p.shape
  shape = inv.alike.shape ∙ inv.cube.shape

  columns : c.shape.columns ≡ d.shape.columns
  columns = ap (λ (z : Sizes). z.columns) inv.alike.shape

  -- the bands of the wavefront, and the one that stands first
  within : (z : ℕ) → z < length bands → z < p.shape.bands
  within z inside = omega (arith, inside, inv.many)

  bands_are : c.shape.bands ≡ length bands
  bands_are = ap (λ (z : Sizes). z.bands) shape ∙ sym inv.many

  bands_here : d.shape.bands ≡ length bands
  bands_here = ap (λ (z : Sizes). z.bands) inv.cube.shape ∙ sym inv.many

  band : (b : ℕ) → first + b < length bands → IsBandInverted p c d (first + b) (band_at bands (first + b))
  band b exists = inv.each (first + b) (within (first + b) exists)

  head : IsBandInverted p c d first (band_at bands first)
  head = inv.each first (within first k.some)

  predictor_is : base.predictor ≡ predictor_of p
  predictor_is = k.made ∙ head.follows.made.predictor

  pub same_made : (z : ℕ) → z < length bands → (band_at bands z).predictor ≡ base.predictor
  same_made z inside = (inv.each z (within z inside)).follows.made.predictor ∙ sym predictor_is

  -- the weights of a band that there is
  pub has_weights : (b : ℕ) → b < 8 → first + b < length bands → HasWeights q b (band_at bands (first + b)) weights
  has_weights b fits exists = subst (λ (z : ℕ). HasWeights q b (band_at bands z) weights) (omega (arith, exists)) (k.filled.has b fits)

  -- where the image has the samples of d, it has their numbers
  number_same : (z y' x : ℕ) → sample_at c z y' x ≡ sample_at d z y' x → number_at c z y' x ≡ number_at d z y' x
  number_same z y' x same = ap₂ (λ (v : ℤ) (k : SampleKind). unsigned_abs (v -ℤ smin k)) same inv.alike.kind

  -- in the k.row above, in all bands up to these
  done_above : (z x : ℕ) → z < first + 8 → z < length bands → x < c.shape.columns → number_at c z (y - 1) x ≡ number_at d z (y - 1) x
  done_above z x low inside fits =
      let there : IsPlace c.shape z (y - 1) x = record { band = rw shape (within z inside); row = omega (arith, k.row); column = fits } in
      let line = row_fits (y - 1) c.shape.columns y c.shape.columns (omega (arith, k.row.0)) (omega arith) in
      number_same z (y - 1) x ((inv.each z (within z inside)).done (y - 1) x there (elim (cases_lt z first) [
        | inl below ↦ (let a = k.ahead z below in let more = row_fits (y - 1) c.shape.columns (y + 1) c.shape.columns (omega arith) (omega arith) in
            omega (arith, a, more, fits))
        | inr not ↦ (let here : first + (z - first) ≡ z = omega (arith, not) in let now = rw here at (k.stand (z - first) (omega (arith, low, not)) (omega (arith, inside, not))) in
            omega (arith, line, fits, now))
      ]))

  -- in the k.row itself, in the bands below
  done_below : (z x : ℕ) → z < first → x < c.shape.columns → number_at c z y x ≡ number_at d z y x
  done_below z x low fits =
      let there : IsPlace c.shape z y x = record { band = rw shape (omega (arith, low, k.some, inv.many)); row = k.row.1; column = fits } in
      let line = row_fits y c.shape.columns (y + 1) c.shape.columns (omega arith) (omega arith) in
      number_same z y x ((inv.each z (omega (arith, low, k.some, inv.many))).done y x there (let a = k.ahead z low in omega (arith, a, line, fits)))

  -- and in these as far as each has come
  done_here : (b x : ℕ) → b < 8 → first + b < length bands → x < first_column origin b → number_at c (first + b) y x ≡ number_at d (first + b) y x
  done_here b x fits exists low =
      let there : IsPlace c.shape (first + b) y x = record { band = rw shape (within (first + b) exists); row = k.row.1; column = omega (arith, low, k.inside) } in
      number_same (first + b) y x ((band b exists).done y x there (let at = k.stand b fits exists in omega (arith, at, low)))

  -- the offsets of these bands, by their rows
  own_number : (i b : ℕ) → i < 64 → b < 8 → first + b < length bands → 7 + b ≤ origin + i → column_at origin i b < c.shape.columns
      → place numbers i b ≡ pos (number_at c (first + b) y (column_at origin i b))
  own_number i b small fits exists low bound =
      let same : first + b - 0 ≡ first + b = omega arith in
      rw same at (k.filled.numbers_is.numbers i b small fits (omega arith) (omega arith) (omega (arith, exists, bands_are)) (omega (arith, low)) (omega (arith, bound)))
      ∙ ap (λ (n : ℕ). pos (number_at c (first + b) y n)) (omega (arith, bound))

  above_number : (i b : ℕ) → i < 64 → b < 8 → first + b < length bands → 7 + b ≤ origin + i → column_at origin i b ≤ c.shape.columns
      → place above i b ≡ pos (number_at d (first + b) (y - 1) (column_within c.shape.columns (column_at origin i b)))
  above_number i b small fits exists low bound =
      let same : first + b - 0 ≡ first + b = omega arith in
      rw same at (k.filled.above_is.numbers i b small fits (omega arith) (omega arith) (omega (arith, exists, bands_are)) (omega (arith, low)) bound)
      ∙ ap (λ (n : ℕ). pos n) (done_above (first + b) (column_within c.shape.columns (column_at origin i b)) (omega (arith, fits)) exists (omega (arith, k.inside)))

  place_of : (z x : ℕ) → z < length bands → x < c.shape.columns → IsPlace d.shape z y x
  place_of z x inside fits = rw (← inv.alike.shape) (record { band = rw shape (within z inside); row = k.row.1; column = fits })

  -- the central differences of the bands themselves before step 8
  own_central : (i b : ℕ) → b < i → i < 8 → b < 8 → first + b < length bands → 0 < column_at origin i b → column_at origin i b < c.shape.columns
      → place own i b ≡ central_difference base.predictor d (first + b) y (column_at origin i b)
  own_central i b low high fits exists left right =
      let x : ℕ = column_at origin i b in
      let before : column_at origin (i - 1) b ≡ x - 1 = omega (arith, low) in let after : column_at origin (i + 1) b ≡ x + 1 = omega (arith, left) in
      let here = own_number i b (omega (arith, high)) fits exists (omega (arith, left)) right
      ∙ ap (λ (n : ℕ). pos n) (done_here b x fits exists (omega (arith, high, left))) in
      let west = own_number (i - 1) b (omega (arith, high)) fits exists (omega (arith, left, low)) (omega (arith, right, before))
      ∙ ap (λ (n : ℕ). pos n) (done_here b (column_at origin (i - 1) b) fits exists (omega (arith, high, left))) in
      let north_west = above_number (i - 1) b (omega (arith, high)) fits exists (omega (arith, left, low)) (omega (arith, right, before)) in
      let north = above_number i b (omega (arith, high)) fits exists (omega (arith, left)) (omega (arith, right)) in
      let north_east = above_number (i + 1) b (omega (arith, high)) fits exists (omega (arith, left)) (omega (arith, right, after)) in
      let at : column_within c.shape.columns x ≡ x = omega (arith, right) in
      let at_west : column_within c.shape.columns (x - 1) ≡ x - 1 = omega (arith, right) in
      k.filled.own_is i b (omega (arith, low)) high fits
      ∙ rw (here, west, north_west, north, north_east, before, after, at, at_west, columns, k.form.column, ← k.made)
      (sym (central_told base.predictor d inv.cube.cube (first + b) y x (place_of (first + b) x exists right) k.row.0 left))

  -- and those of bands below, by rows of them
  module _ {below least start : ℕ} {rows : List (List ℤ)} (of : AreCentralsOf f.column c first below least y start rows) (further : 8 ≤ below) (i b : ℕ)
      (low : 1 ≤ i) (high : i < 63) (fits : b < 8) (used : least ≤ b) where
    abbrev x : ℕ
    x = column_at start i b

    lower_none : first + b < below → place rows i b ≡ pos 0
    lower_none out =
        let zero = λ (j : ℕ) (h : j < 64). of.numbers_is.none j b h fits used out in let zero_above = λ (j : ℕ) (h : j < 64). of.above_is.none j b h fits used out in
        of.rows_are i b low high fits
        ∙ rw (
          zero i (omega (arith, high)),
          zero (i - 1) (omega (arith, high)),
          zero_above (i - 1) (omega (arith, high)),
          zero_above i (omega (arith, high)),
          zero_above (i + 1) (omega (arith, high)),
        ) (nothing f.column)
      where
        nothing : (r : Bool) → pos 4 *ℤ pos 0 -ℤ sum_by r (pos 0) (pos 0) (pos 0) (pos 0) ≡ pos 0
        nothing true = refl
        nothing false = refl

    lower_some : below ≤ first + b → 0 < x → x < c.shape.columns → place rows i b ≡ central_difference base.predictor d (first + b - below) y x
    lower_some some left right =
        let z : ℕ = first + b - below in
        let number = λ (j : ℕ) (h : j < 64) (m : 7 + b ≤ start + j) (l : column_at start j b ≤ c.shape.columns). of.numbers_is.numbers j b h fits used some (omega (arith, fits, further, k.some, bands_are)) m l
        ∙ ap (λ (n : ℕ). pos n) (done_below z (column_within c.shape.columns (column_at start j b)) (omega (arith, some, further, fits)) (omega (arith, k.inside))) in
        let number_above = λ (j : ℕ) (h : j < 64) (m : 7 + b ≤ start + j) (l : column_at start j b ≤ c.shape.columns). of.above_is.numbers j b h fits used some (omega (arith, fits, further, k.some, bands_are)) m l
        ∙ ap (λ (n : ℕ). pos n) (done_above z (column_within c.shape.columns (column_at start j b)) (omega (arith, some, further, fits)) (omega (arith, some, further, fits, k.some)) (omega (arith, k.inside))) in
        let before : column_at start (i - 1) b ≡ x - 1 = omega (arith, low) in
        let after : column_at start (i + 1) b ≡ x + 1 = omega (arith, left) in
        let here = number i (omega (arith, high)) (omega (arith, left)) (omega (arith, right)) in
        let west = number (i - 1) (omega (arith, high)) (omega (arith, left, low)) (omega (arith, right, before)) in
        let north_west = number_above (i - 1) (omega (arith, high)) (omega (arith, left, low)) (omega (arith, right, before)) in
        let north = number_above i (omega (arith, high)) (omega (arith, left)) (omega (arith, right)) in
        let north_east = number_above (i + 1) (omega (arith, high)) (omega (arith, left)) (omega (arith, right, after)) in
        let at : column_within c.shape.columns x ≡ x = omega (arith, right) in
        let at_west : column_within c.shape.columns (x - 1) ≡ x - 1 = omega (arith, right) in
        of.rows_are i b low high fits
        ∙ rw (here, west, north_west, north, north_east, before, after, at, at_west, columns, k.form.column, ← k.made)
        (sym (central_told base.predictor d inv.cube.cube z y x (place_of z x (omega (arith, some, further, fits, k.some)) right) k.row.0 left))

    lower_is : 0 < x → x < d.shape.columns → place rows i b ≡ lower_central base.predictor d below (first + b) y x
    lower_is left right = elim (cases_lt (first + b) below) [
      | inl out ↦ lower_none out ∙ sym (test_no below (first + b) _ _ out)
      | inr some ↦ lower_some some left (omega (arith, right, columns)) ∙ sym (test_yes below (first + b) _ _ some)
    ]
      where
        test_no : (m n : ℕ) (a b : ℤ) → n < m → (if nat_le m n then a else b) ≡ b
        test_no m n a b h = grind (arith, nat_tests, h)

        test_yes : (m n : ℕ) (a b : ℤ) → m ≤ n → (if nat_le m n then a else b) ≡ a
        test_yes m n a b h = grind (arith, nat_tests, h)

  pub count_is : (b : ℕ) → b < 8 → first + b < length bands → component_count base.predictor (first + b) ≡ length (band_at bands (first + b)).weights
  count_is b fits exists = sym ((has_weights b fits exists).long ∙ ap₂ component_count (same_made (first + b) exists) (band b exists).band)

  kind_is : d.kind ≡ base.range.kind
  kind_is = inv.cube.kind ∙ sym head.follows.made.kind ∙ sym k.of-kind

  exponent_is : (x : ℕ) → x < c.shape.columns → f.exponent ≡ step_exponent base.predictor d.shape.columns d.kind.bits (y * d.shape.columns + x)
  exponent_is x fits = rw (← k.made, columns, ap (λ (n : SampleKind). n.bits) inv.alike.kind) at (k.form.exponent x fits)

  pub enough_at : (z : ℕ) → component_count base.predictor z ≤ 2 * q
  enough_at z = let some = rw (← k.made) at (k.form.enough z) in omega (arith, some, k.pairs)

  pub lanes_begun : AreLanes q f p s d first y origin last above lower
  lanes_begun = record {
    cube = inv.cube.cube;
    row = (k.row.0, rw inv.alike.shape at k.row.1);
    most = k.steps.1;
    few = k.few;
    bands = λ b fits. refl;
    predictor = λ b fits. refl;
    columns = λ b fits. ap (λ (z : Sizes). z.columns) (inv.cube.shape ∙ sym head.follows.made.shape) ∙ sym k.of-columns;
    kind = λ b fits. kind_is;
    enough = λ b fits. enough_at (first + b);
    register = λ b fits. rw (← k.made, inv.alike.kind) at (k.form.register (first + b));
    reduced = k.form.reduced ∙ ap (λ (m : Predictor). m.reduced) (sym k.made);
    column = k.form.column ∙ ap (λ (m : Predictor). m.column) (sym k.made);
    previous = k.form.previous ∙ ap (λ (m : Predictor). m.previous) (sym k.made);
    greatest = rw inv.alike.kind at k.form.greatest;
    steps = λ b j fits bound. record {
      omega_is = k.form.omega ∙ ap (λ (m : Predictor). m.omega) (sym k.made);
      bits_are = k.form.bits ∙ ap (λ (n : SampleKind). n.bits) (inv.alike.kind ∙ kind_is) ∙ sym base.range.bits_is;
      exponent_is = exponent_is (column_at origin j b) (omega (arith, bound, columns));
    };
    north = λ i b high fits exists left bound. rw columns at (above_number i b (omega (arith, high, k.steps)) fits (omega (arith, exists, bands_here)) left (omega (arith, bound, columns)));
    near = λ i b low high fits used left right. lower_is k.filled.near_is (omega arith) i b low (omega (arith, high, k.steps)) fits (omega (arith, used)) left right;
    beside = λ i b low high fits deep left right. lower_is (k.filled.beside_is deep) (omega arith) i b low (omega (arith, high, k.steps)) fits (omega (arith, deep)) left right;
    far = λ i b low high fits deep used left right. lower_is (k.filled.far_is deep) (omega arith) i b low (omega (arith, high, k.steps)) fits (omega (arith, used)) left right;
  }

  coded_here : (b x : ℕ) → b < 8 → first + b < length bands → first_column origin b ≤ x → x < c.shape.columns → number_at c (first + b) y x ≡ mapped_residual p d (first + b) (y * d.shape.columns + x)
  coded_here b x fits exists low bound =
      let there : IsPlace c.shape (first + b) y x = record { band = rw shape (within (first + b) exists); row = k.row.1; column = bound } in
      let holds = (band b exists).coded y x there (let at = k.stand b fits exists in omega (arith, at, low)) in
      ap (λ (v : ℤ). unsigned_abs (v -ℤ smin c.kind)) holds ∙ offset_back (smin c.kind) _
      ∙ ap (λ (n : ℕ). mapped_residual p d (first + b) (y * n + x)) columns
    where
      offset_back : (least : ℤ) (n : ℕ) → unsigned_abs ((least +ℤ pos n) -ℤ least) ≡ n
      offset_back least n = omega (arith, ints)

  -- each band's weights, in the rows that hold them
  weights_there : (b : ℕ) → b < 8 → first + b < length bands → (rows : List (List ℤ)) → HasWeights q b (band_at bands (first + b)) rows
      → AreWeightsAt p base.predictor d (first + b) (y * d.shape.columns + first_column origin b) (take (component_count base.predictor (first + b)) (weights_of q b rows))
  weights_there b fits exists rows has =
      let at = band b exists in
      let enough : length (band_at bands (first + b)).weights ≤ 2 * q = rw (← count_is b fits exists) (enough_at (first + b)) in record {
        predictor = predictor_is;
        weights = ap (λ (n : ℕ). take n (weights_of q b rows)) (count_is b fits exists) ∙ has.used enough ∙ at.follows.weights
            ∙ ap₂ (weight_vector p d) at.band (k.stand b fits exists ∙ ap (λ (n : ℕ). y * n + first_column origin b) columns);
      }

  -- before step 8, in the lanes that have begun
  pub start_begun : AreInStep q p s d first y origin last (min 8 (origin + 1)) 8 numbers own weights
  start_begun = record {
    offsets = λ i b low high mine exists left right.
        let there : first + b < length bands = omega (arith, exists, bands_here) in
        own_number i b (omega (arith, high)) (omega (arith, mine)) there left (omega (arith, right, columns))
        ∙ ap (λ (n : ℕ). pos n) (done_here b (column_at origin i b) (omega (arith, mine)) there (omega (arith, high)));
    residuals = λ i b low high fits exists left right.
        let there : first + b < length bands = omega (arith, exists, bands_here) in
        own_number i b (omega (arith, high, k.steps)) fits there (omega (arith, left)) (omega (arith, right, columns))
        ∙ ap (λ (n : ℕ). pos n) (coded_here b (column_at origin i b) fits there (omega (arith, low, left)) (omega (arith, right, columns)));
    centrals = λ i b low high mine exists left right.
        own_central i b low high (omega (arith, mine)) (omega (arith, exists, bands_here)) left (omega (arith, right, columns));
    weights_at = λ b mine exists bound.
        let there : first + b < length bands = omega (arith, exists, bands_here) in
        let fits : b < 8 = omega (arith, mine) in let column : column_at origin 8 b ≡ first_column origin b = omega (arith, mine) in
        rw column (weights_there b fits there weights (has_weights b fits there));
  }

  -- and in those that are to begin
  pub to_begin : origin ≡ 0 → AreToBegin q p s d first y bands numbers
  to_begin zero = record {
    many = sym bands_here;
    offset = λ b fits exists.
        let there : first + b < length bands = omega (arith, exists, bands_here) in
        let column : column_at origin (7 + b) b ≡ 0 = omega (arith, zero) in
        own_number (7 + b) b (omega (arith, fits)) fits there (omega arith) (omega (arith, column, k.inside))
        ∙ ap (λ (n : ℕ). pos n) (done_here b (column_at origin (7 + b) b) fits there (omega (arith, column)) ∙ ap (number_at d (first + b) y) column);
    weights_at = λ b fits exists rows has.
        let column : first_column origin b ≡ 1 = omega (arith, zero) in rw column at (weights_there b fits (omega (arith, exists, bands_here)) rows has);
  }
