use Rattle.std.proofs.Common.{◌≡◌, ◌∙◌, ◌+◌, ◌-◌, ◌*◌, ◌≤◌, ℕ, get_or, sym, ap, inl, inr, arith}
use Rattle.std.proofs.lemmas.Bool.{cases_lt, cases_eq}
use Rattle.cube_core.specs.Shape.{Sizes}
use Rattle.std.proofs.lemmas.Option.{slice_get-get_or, get_or_from_slice_get}
use Rattle.predict_core.specs.Following.{no_band}
use Rattle.wave_inversion.specs.Inversion.{band_at}
use Rattle.wave_inversion.proofs.inversion.end_wave.Goals as goal
use Rattle.wave_inversion.proofs.inversion.end_wave.Goals.{After-column_in-x}

pub invert_rest-requires-clause-ahead : goal.invert_rest-requires-clause-ahead
invert_rest-requires-clause-ahead c lower low =
    let kept = c.loop-b.invariant in
    let row = ap (λ (s : Sizes). (c.args.y + 1) * s.columns) kept.alike.shape in
    elim (cases_lt lower c.args.first) [
      | inl below ↦
          (let a = c.requires.ahead lower below in let same = ap (λ v. v.t) (kept.others lower (λ h. absurd (omega (arith, h, below)))) in
          omega (arith, a, same, row))
      | inr not ↦
          (let here : c.args.first + (lower - c.args.first) ≡ lower = omega (arith, not) in
          let m = rw here at (kept.moved (lower - c.args.first) (omega (arith, low, not))) in omega (arith, m, row))
    ]

module _ (c : After-column_in-x) where
  abbrev z : ℕ
  z = c.args.first + c.loop-b.b

  here : get_or c.loop-b.bands z c.index-bands-z.result ≡ band_at c.loop-b.bands z
  here = get_or_from_slice_get c.loop-b.bands z (band_at c.loop-b.bands z) c.index-bands-z.result
      (slice_get-get_or c.loop-b.bands z no_band (omega (arith, c.loop-b-test.true, c.lane_count-many.ensures, c.loop-b.invariant.many)))

  come : c.args.y * c.loop-b.cube.shape.columns + c.column_in-x.result ≡ (band_at c.loop-b.bands z).t
  come = rw here at c.column_in-x.ensures

  bound : (band_at c.loop-b.bands z).t ≤ c.args.y * c.loop-b.cube.shape.columns + c.loop-b.cube.shape.columns
  bound =
      let columns = ap (λ (s : Sizes). s.columns) c.loop-b.invariant.alike.shape in
      rw (c.loop-b.invariant.others z (λ low. omega arith), ← columns) (c.requires.stand c.loop-b.b (omega (arith, c.loop-b-test.true, c.lane_count-many.ensures)) (omega (arith, c.loop-b-test.true, c.lane_count-many.ensures))).1

pub column_in-x-requires : goal.column_in-x-requires
column_in-x-requires c =
    let z : ℕ = c.args.first + c.loop-b.b in let columns = ap (λ (s : Sizes). s.columns) c.loop-b.invariant.alike.shape in
    let same : band_at c.loop-b.bands z ≡ band_at c.args.bands.now z = c.loop-b.invariant.others z (λ low. omega arith) in
    let here : get_or c.loop-b.bands z c.index-bands-z.result ≡ band_at c.loop-b.bands z =
    get_or_from_slice_get c.loop-b.bands z (band_at c.loop-b.bands z) c.index-bands-z.result
    (slice_get-get_or c.loop-b.bands z no_band (omega (arith, c.loop-b-test.true, c.lane_count-many.ensures, c.loop-b.invariant.many))) in
    rw (here, same, ← columns) (c.requires.stand c.loop-b.b (omega (arith, c.loop-b-test.true, c.lane_count-many.ensures)) (omega (arith, c.loop-b-test.true, c.lane_count-many.ensures)))

pub invert_rest-requires-clause-inside : goal.invert_rest-requires-clause-inside
invert_rest-requires-clause-inside c =
    let d = (goal.at.invert_rest-requires-clause-inside c).After-column_in-x in let low = come d in let high = bound d in omega (arith, low, high)

pub invert_rest-requires-clause-start : goal.invert_rest-requires-clause-start
invert_rest-requires-clause-start c = sym (come (goal.at.invert_rest-requires-clause-start c).After-column_in-x)

pub loop-b-preserved : goal.loop-b-preserved
loop-b-preserved c =
    let kept = c.loop-b.invariant in let did = c.invert_rest.ensures in
    let row = ap (λ (s : Sizes). (c.args.y + 1) * s.columns) kept.alike.shape in record {
      inverted = λ p d inv. did.inverted p d (kept.inverted p d inv);
      alike = record { shape = kept.alike.shape ∙ did.alike.shape; kind = kept.alike.kind ∙ did.alike.kind };
      many = did.many ∙ kept.many;
      moved = λ b lt. elim (cases_eq b c.loop-b.b) [
        | inl here ↦ rw here (did.moved ∙ sym row)
        | inr apart ↦ ap (λ v. v.t) (did.others (c.args.first + b) (λ low. absurd (omega (arith, low, lt, apart)))) ∙ kept.moved b (omega (arith, lt, apart))
      ];
      others = λ z out. did.others z (λ low. (let o = out (omega (arith, low)) in omega (arith, o)))
          ∙ kept.others z (λ low. (let o = out low in omega (arith, o)));
    }

pub returns-clause-moved : goal.returns-clause-moved
returns-clause-moved c z low high =
    let done : c.loop-b.b ≡ c.lane_count-many.result = omega (arith, c.loop-b-test.false, c.loop-b.auto.b-end) in
    let here : c.args.first + (z - c.args.first) ≡ z = omega (arith, low) in
    rw here at (c.loop-b.invariant.moved (z - c.args.first) (omega (arith, low, high, done, c.lane_count-many.ensures)))
