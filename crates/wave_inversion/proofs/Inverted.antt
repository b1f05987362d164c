-- One run of a band more is inverted: what the cube holds then, and which image the band follows.
use Rattle.std.proofs.Common.{◌≡◌, ◌≢◌, ◌+◌, ◌-◌, ◌*◌, ◌<◌, ◌≤◌, ℕ, zero, suc, List, length, set, sym, ap, ap₂, subst, ◌∙◌, inl, inr, false, arith}
use Rattle.std.proofs.Common.{get_or-set_same, get_or-set_other, mul-le-mul_right}
use Rattle.std.specs.List.{slice_index}
use Rattle.std.proofs.lemmas.Bool.{cases_lt, cases_eq, cases_order}
use Rattle.std.proofs.lemmas.List.{length-set}
use Rattle.std.proofs.lemmas.Nat.{row_fits}
use Rattle.std.proofs.lemmas.Option.{slice_get-get_or}
use Rattle.std.proofs.Math.Arith.{digits_lt}
use Rattle.cube_core.specs.Shape.{Sizes}
use Rattle.cube_core.specs.Kind.{SampleKind, sample_of}
use Rattle.cube_core.specs.Image.{Image, IsCube, IsPlace, sample_at}
use Rattle.cube_core.specs.Runs.{IsRunSet}
use Rattle.cube_core.proofs.Images.{same_cube}
use Rattle.header_bits.specs.declared.params.Params.{Params}
use Rattle.sample_prediction.specs.Residual.{mapped_residual, run_residuals}
use Rattle.predict_core.specs.Following.{PredictorState, Follows, MovesBy}
use Rattle.predict_core.specs.Following.{no_band}
use Rattle.wave_inversion.specs.Inversion.{IsInverting, IsAtStart, IsCoded, IsBandInverted, HoldsResidual, band_at, AreAhead}
use Rattle.predict_core.specs.Offsets.{number_at}
use Rattle.predict_core.specs.Precedence.{AreAlike, Agree}
use Rattle.predict_core.specs.RunPlaces.{AreAlikeBeside}
use Rattle.wave_inversion.proofs.Coded.{number_is}
use Rattle.predict_core.proofs.Frame.{weights_same, agree_less}
use Rattle.predict_core.proofs.Kept.{wide_of}
use Rattle.predict_core.proofs.RunSteps.{run_at}
use Rattle.wave_inversion.proofs.SameSamples.{same_sample}

-- a band follows each image that is one with its own as far as the band has come
pub follows_same : {p : Params} {c d : Image} {b : PredictorState} → c.shape ≡ p.shape → b.band < c.shape.bands → 0 < c.shape.columns
    → b.t ≤ c.shape.rows * c.shape.columns → (p.column ≡ false → 2 ≤ c.shape.columns) → Agree c d b.band b.t b.t → Follows p b c → Follows p b d
follows_same shape band some inside wide agree follows =
    record { made = follows.made; weights = follows.weights ∙ weights_same _ _ _ _ band some wide _ inside agree }

-- a place within one row's length after another of the row is in that row
same_row : (columns y' x' y x : ℕ) → x' < columns → y' * columns + x' < y * columns + columns → y * columns + x ≤ y' * columns + x' → x < columns → y' ≡ y
same_row columns y' x' y x lt high low fits = elim (cases_order y' y) [
  | inl e ↦ e
  | inr s ↦ elim s [
    | inl a ↦ absurd (let f : suc y' * columns ≤ y * columns = mul-le-mul_right columns a in omega (arith, f))
    | inr a ↦ absurd (let f : suc y * columns ≤ y' * columns = mul-le-mul_right columns a in omega (arith, f))
  ]
]

pub agree_back : {c d : Image} {z t u : ℕ} → Agree c d z t u → Agree d c z t u
agree_back a =
    let columns = ap (λ (s : Sizes). s.columns) a.alike.shape in record {
      alike = record { shape = sym a.alike.shape; kind = sym a.alike.kind };
      own = λ y x q l. sym (a.own y x (rw a.alike.shape q) (rw columns l));
      under = λ z' y x q b l. sym (a.under z' y x (rw a.alike.shape q) b (rw columns l));
    }

module _ {p : Params} {c d e : Image} {bands : List PredictorState} {z y x n : ℕ} {new : PredictorState} {deltas : List ℕ} (inv : IsInverting p c d bands)
    (shape : c.shape ≡ p.shape) (after : IsCube e) (place : IsPlace c.shape z y x) (inside : x + n ≤ c.shape.columns)
    (at : (band_at bands z).t ≡ y * c.shape.columns + x) (ahead : AreAhead bands z (y * c.shape.columns + x + n))
    (moved : MovesBy n (band_at bands z) new) (beside : AreAlikeBeside c e z y x n) (long : length deltas ≡ n)
    (told : Follows p (band_at bands z) c → run_residuals p e z (band_at bands z).t n ≡ deltas)
    (follows : Follows p (band_at bands z) c → Follows p new e)
    (values : (i : ℕ) → i < n → HoldsResidual p c d z y (x + i) → slice_index deltas i ≡ mapped_residual p d z (y * c.shape.columns + (x + i))) where
  old : IsBandInverted p c d z (band_at bands z)
  old = inv.each z (rw shape at place.band)

  wide : p.column ≡ false → 2 ≤ c.shape.columns
  wide = wide_of p c inv.lawful shape

  start : Follows p (band_at bands z) c
  start =
      let within = digits_lt place.row place.column in
      let agree : Agree c d z (band_at bands z).t (band_at bands z).t = record {
        alike = inv.alike;
        own = old.done;
        under = λ z' y' x' q b l. (inv.each z' (rw shape at q.band)).done y' x' q (let low = ahead z' b in omega (arith, at, l, low));
      } in
      follows_same (sym inv.alike.shape ∙ shape) (subst (λ (k : ℕ). k < d.shape.bands) (sym old.band) (rw inv.alike.shape at place.band))
      (rw inv.alike.shape at (let some : 0 < c.shape.columns = (let q = place.column in omega arith) in some))
      (rw inv.alike.shape at (let t : (band_at bands z).t ≤ c.shape.rows * c.shape.columns = omega (arith, at, within) in t)) (rw inv.alike.shape at wide)
      (agree_back (subst (λ (k : ℕ). Agree c d k (band_at bands z).t (band_at bands z).t) (sym old.band) agree)) old.follows

  columns : c.shape.columns ≡ e.shape.columns
  columns = ap (λ (s : Sizes). s.columns) beside.alike.shape

  alike : AreAlike e d
  alike = record { shape = sym beside.alike.shape ∙ inv.alike.shape; kind = sym beside.alike.kind ∙ inv.alike.kind }

  -- beside the run the image is as it was
  kept : (z' y' x' : ℕ) → IsPlace c.shape z' y' x' → (z' ≡ z → y' * c.shape.columns + x' < y * c.shape.columns + x) → sample_at c z' y' x' ≡ sample_at e z' y' x'
  kept z' y' x' q before =
      beside.samples z' y' x' q (λ f g h. absurd (let row = ap (λ (m : ℕ). m * c.shape.columns) g in omega (arith, before f, row, h)))

  under : (z' y' x' : ℕ) → IsPlace c.shape z' y' x' → z' < z → y' * c.shape.columns + x' < y * c.shape.columns + x + n → sample_at e z' y' x' ≡ sample_at d z' y' x'
  under z' y' x' q low l =
      sym (kept z' y' x' q (λ f. absurd (omega (arith, low, f))))
      ∙ (inv.each z' (rw shape at q.band)).done y' x' q (let first = ahead z' low in omega (arith, first, l))

  -- the first i samples of the run are those of d
  abbrev AreFound : ℕ → Type 0
  AreFound i = (k : ℕ) → k < i → sample_at e z y (x + k) ≡ sample_at d z y (x + k)

  -- so all samples of the band before place i are
  own : (i : ℕ) → i ≤ n → AreFound i → (y' x' : ℕ) → IsPlace c.shape z y' x' → y' * c.shape.columns + x' < y * c.shape.columns + x + i
      → sample_at e z y' x' ≡ sample_at d z y' x'
  own i le before y' x' q l = elim (cases_lt (y' * c.shape.columns + x') (y * c.shape.columns + x)) [
    | inl low ↦ sym (kept z y' x' q (λ f. low)) ∙ old.done y' x' q (omega (arith, at, low))
    | inr high ↦
        (let row : y' ≡ y = same_row c.shape.columns y' x' y x q.column (omega (arith, inside, le, l)) high (omega (arith, place.column)) in
        let line = ap (λ (m : ℕ). m * c.shape.columns) row in
        let column : x' ≡ x + (x' - x) = omega (arith, line, high) in
        rw (row, column) (before (x' - x) (omega (arith, line, high, l))))
  ]

  agree_to : (i : ℕ) → i ≤ n → AreFound i → Agree e d z (y * e.shape.columns + x + i) (y * e.shape.columns + x + n)
  agree_to i le before = record {
    alike = alike;
    own = λ y' x' q l. own i le before y' x' (rw (← beside.alike.shape) at q) (rw (← columns) at l);
    under = λ z' y' x' q b l. under z' y' x' (rw (← beside.alike.shape) at q) b (rw (← columns) at l);
  }

  residual : (i : ℕ) → i < n → mapped_residual p e z (y * c.shape.columns + x + i) ≡ mapped_residual p d z (y * c.shape.columns + x + i)
  residual i lt =
      let here : IsPlace c.shape z y (x + i) = record { band = place.band; row = place.row; column = omega (arith, lt, inside) } in
      let told = ap (λ (ns : List ℕ). slice_index ns i) (told start) in
      let is : (band_at bands z).t + i ≡ y * c.shape.columns + x + i = omega (arith, at) in
      let sum : y * c.shape.columns + (x + i) ≡ y * c.shape.columns + x + i = omega arith in
      let number = values i lt (old.coded y (x + i) here (omega (arith, at))) in
      rw is at (sym (run_at p e z (band_at bands z).t n i lt)) ∙ told ∙ rw sum at number

  found : (i : ℕ) → i ≤ n → AreFound i
  found zero le k lt = absurd (omega (arith, lt))
  found (suc i) le k lt =
      let before = found i (omega (arith, le)) in
      elim (cases_lt k i) [
        | inl below ↦ before k below
        | inr last ↦
            (let is : k ≡ i = omega (arith, last, lt) in
            let here : IsPlace e.shape z y (x + i) =
            rw (← beside.alike.shape) (record { band = place.band; row = place.row; column = omega (arith, le, inside) }) in
            let sum : y * e.shape.columns + (x + i) ≡ y * e.shape.columns + x + i = omega arith in
            let agree = agree_less (y * e.shape.columns + (x + i)) (suc (y * e.shape.columns + (x + i))) (omega (arith, sum)) (omega (arith, sum, le))
            (agree_to i (omega (arith, le)) before) in
            let time : y * e.shape.columns + (x + i) ≡ y * c.shape.columns + x + i = sum ∙ ap (λ (m : ℕ). y * m + x + i) (sym columns) in
            rw is (same_sample p e d inv.lawful (sym beside.alike.shape ∙ shape) after inv.cube.cube z y (x + i) here agree
            (rw time (residual i (omega (arith, le))))))
      ]

  -- a residual that stays
  coded_kept : (z y' x' : ℕ) → IsPlace c.shape z y' x' → sample_at c z y' x' ≡ sample_at e z y' x' → HoldsResidual p c d z y' x' → HoldsResidual p e d z y' x'
  coded_kept z y' x' q same holds =
      sym same ∙ holds ∙ ap₂ (λ (k : SampleKind) (m : ℕ). sample_of k (mapped_residual p d z (y' * m + x'))) beside.alike.kind columns

  -- the band has come further, and follows the same image
  advanced : IsBandInverted p e d z new
  advanced = record {
    band = moved.band ∙ old.band;
    follows = (let bound = row_fits y c.shape.columns c.shape.rows c.shape.columns place.row (omega arith) in
        let agree = agree_to n (omega arith) (found n (omega arith)) in
        let t : new.t ≡ y * e.shape.columns + x + n = omega (arith, moved.t, at, ap (λ (m : ℕ). y * m) columns) in
        let same : new.band ≡ z = moved.band ∙ old.band in
        follows_same (sym beside.alike.shape ∙ shape) (rw (same, ← beside.alike.shape) place.band)
        (rw (← beside.alike.shape) (let q = place.column in omega arith))
        (rw (t, ← columns, ← beside.alike.shape) (omega (arith, bound, inside))) (rw (← beside.alike.shape) wide)
        (rw (same, t) (agree_less _ _ (omega arith) (omega arith) agree)) (follows start));
    done = λ y' x' q l. own n (omega arith) (found n (omega arith)) y' x' (rw (← beside.alike.shape) at q)
        (let m = rw (← columns) at l in omega (arith, m, moved.t, at));
    coded = λ y' x' q l. (let there = rw (← beside.alike.shape) at q in let m = rw (← columns) at l in
        coded_kept z y' x' there (beside.samples z y' x' there
        (λ f g h. let row = ap (λ (k : ℕ). k * c.shape.columns) g in omega (arith, row, m, moved.t, at)))
        (old.coded y' x' there (omega (arith, m, moved.t))));
  }

  pub run_inverted : IsInverting p e d (set bands z new)
  run_inverted = record {
    lawful = inv.lawful;
    cube = inv.cube;
    alike = alike;
    many = length-set bands z new ∙ inv.many;
    each = λ z' lt. elim (cases_eq z' z) [
      | inl here ↦ rw (here, get_or-set_same bands z new no_band (rw inv.many (rw shape at place.band))) advanced
      | inr apart ↦ rw (get_or-set_other bands z z' new no_band apart) (other z' apart (inv.each z' lt))
    ];
  }
    where
      other : (z' : ℕ) → z' ≢ z → {b : PredictorState} → IsBandInverted p c d z' b → IsBandInverted p e d z' b
      other z' apart was = record {
        band = was.band;
        follows = was.follows;
        done = λ y' x' q l. (let there = rw (← beside.alike.shape) at q in
            sym (kept z' y' x' there (λ f. absurd (apart f))) ∙ was.done y' x' there (rw (← columns) at l));
        coded = λ y' x' q l. (let there = rw (← beside.alike.shape) at q in
            coded_kept z' y' x' there (kept z' y' x' there (λ f. absurd (apart f))) (was.coded y' x' there (rw (← columns) at l)));
      }

-- ---- the first and the last place

module _ {p : Params} {c d : Image} {bands : List PredictorState} (start : IsAtStart p c bands) (coded : IsCoded p c d) where
  pub inverting_first : IsInverting p c d bands
  inverting_first = record {
    lawful = start.lawful;
    cube = coded.cube;
    alike = coded.alike;
    many = start.many;
    each = λ z lt.
        let at = slice_get-get_or bands z no_band (omega (arith, lt, start.many)) in
        let along = start.along d z lt (band_at bands z) at in
        let first = start.first z (band_at bands z) at in record {
          band = along.band;
          follows = along.follows;
          done = λ y x q l. absurd (omega (arith, l, first));
          coded = λ y x q l. coded.residual z y x q;
        };
  }

pub inverted_last : {p : Params} {c d : Image} {bands : List PredictorState} → IsCube c → IsInverting p c d bands
    → AreAhead bands p.shape.bands (c.shape.rows * c.shape.columns) → c ≡ d
inverted_last {p} {c} {d} {bands} cube inv whole =
    same_cube c d inv.alike.shape inv.alike.kind cube inv.cube.cube (λ q place.
    let band : q.z < p.shape.bands = rw (inv.alike.shape ∙ inv.cube.shape) at place.band in
    (inv.each q.z band).done q.y q.x place (let within = digits_lt place.row place.column in let all = whole q.z band in omega (arith, within, all)))

-- ---- a run whose samples are known

module _ {p : Params} {c d e : Image} {bands : List PredictorState} {z y x n : ℕ} {new : PredictorState} {offsets : List ℕ} (inv : IsInverting p c d bands)
    (shape : c.shape ≡ p.shape) (place : IsPlace c.shape z y x) (inside : x + n ≤ c.shape.columns) (at : (band_at bands z).t ≡ y * c.shape.columns + x)
    (moved : MovesBy n (band_at bands z) new) (set-run : IsRunSet c e z y x offsets) (long : length offsets ≡ n)
    (known : (i : ℕ) → i < n → slice_index offsets i ≡ number_at d z y (x + i)) (follows : Follows p new d) where
  was : IsBandInverted p c d z (band_at bands z)
  was = inv.each z (rw shape at place.band)

  same_columns : c.shape.columns ≡ e.shape.columns
  same_columns = ap (λ (s : Sizes). s.columns) (sym set-run.shape)

  beside_run : (z' y' x' : ℕ) → IsPlace c.shape z' y' x' → (z' ≡ z → y' * c.shape.columns + x' < y * c.shape.columns + x) → sample_at c z' y' x' ≡ sample_at e z' y' x'
  beside_run z' y' x' q before =
      set-run.others z' y' x' q (λ f g h. absurd (let row = ap (λ (m : ℕ). m * c.shape.columns) g in omega (arith, before f, row, h)))

  still_coded : (z' y' x' : ℕ) → sample_at c z' y' x' ≡ sample_at e z' y' x' → HoldsResidual p c d z' y' x' → HoldsResidual p e d z' y' x'
  still_coded z' y' x' same holds =
      sym same ∙ holds ∙ ap₂ (λ (k : SampleKind) (m : ℕ). sample_of k (mapped_residual p d z' (y' * m + x'))) (sym set-run.kind) same_columns

  known_run : (i : ℕ) → i < n → sample_at e z y (x + i) ≡ sample_at d z y (x + i)
  known_run i lt =
      let there : IsPlace d.shape z y (x + i) = rw (← inv.alike.shape) (record { band = place.band; row = place.row; column = omega (arith, lt, inside) }) in
      set-run.written i (omega (arith, lt, long)) ∙ ap₂ (λ (k : SampleKind) (m : ℕ). sample_of k m) inv.alike.kind (known i lt)
      ∙ sym (number_is d z y (x + i) inv.cube.cube there)

  now_done : (y' x' : ℕ) → IsPlace c.shape z y' x' → y' * c.shape.columns + x' < y * c.shape.columns + x + n → sample_at e z y' x' ≡ sample_at d z y' x'
  now_done y' x' q l = elim (cases_lt (y' * c.shape.columns + x') (y * c.shape.columns + x)) [
    | inl low ↦ sym (beside_run z y' x' q (λ f. low)) ∙ was.done y' x' q (omega (arith, at, low))
    | inr high ↦
        (let row : y' ≡ y = same_row c.shape.columns y' x' y x q.column (omega (arith, inside, l)) high (omega (arith, place.column)) in
        let line = ap (λ (m : ℕ). m * c.shape.columns) row in
        let column : x' ≡ x + (x' - x) = omega (arith, line, high) in
        rw (row, column) (known_run (x' - x) (omega (arith, line, high, l))))
  ]

  pub known_inverted : IsInverting p e d (set bands z new)
  known_inverted = record {
    lawful = inv.lawful;
    cube = inv.cube;
    alike = record { shape = set-run.shape ∙ inv.alike.shape; kind = set-run.kind ∙ inv.alike.kind };
    many = length-set bands z new ∙ inv.many;
    each = λ z' lt. elim (cases_eq z' z) [
      | inl here ↦ rw (here, get_or-set_same bands z new no_band (rw inv.many (rw shape at place.band))) (record {
        band = moved.band ∙ was.band;
        follows = follows;
        done = λ y' x' q l. now_done y' x' (rw set-run.shape at q) (let m = rw (← same_columns) at l in omega (arith, m, moved.t, at));
        coded = λ y' x' q l. (let there = rw set-run.shape at q in let m = rw (← same_columns) at l in
            still_coded z y' x' (set-run.others z y' x' there (λ f g h. let row = ap (λ (k : ℕ). k * c.shape.columns) g in
            omega (arith, row, m, moved.t, at, long))) (was.coded y' x' there (omega (arith, m, moved.t))));
      })
      | inr apart ↦ rw (get_or-set_other bands z z' new no_band apart) (other z' apart (inv.each z' lt))
    ];
  }
    where
      other : (z' : ℕ) → z' ≢ z → {b : PredictorState} → IsBandInverted p c d z' b → IsBandInverted p e d z' b
      other z' apart before = record {
        band = before.band;
        follows = before.follows;
        done = λ y' x' q l. (let there = rw set-run.shape at q in
            sym (beside_run z' y' x' there (λ f. absurd (apart f))) ∙ before.done y' x' there (rw (← same_columns) at l));
        coded = λ y' x' q l. (let there = rw set-run.shape at q in
            still_coded z' y' x' (beside_run z' y' x' there (λ f. absurd (apart f))) (before.coded y' x' there (rw (← same_columns) at l)));
      }
