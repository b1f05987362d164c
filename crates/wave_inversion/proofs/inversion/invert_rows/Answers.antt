use Rattle.std.proofs.Common.{◌≡◌, ◌∙◌, ◌+◌, ◌*◌, ◌<◌, length, get_or, sym, ap, inl, inr, arith}
use Rattle.std.proofs.lemmas.Bool.{cases_eq}
use Rattle.std.proofs.lemmas.Option.{slice_get-get_or, get_or_from_slice_get}
use Rattle.cube_core.specs.Shape.{Sizes}
use Rattle.predict_core.specs.Following.{no_band}
use Rattle.wave_inversion.specs.Inversion.{band_at}
use Rattle.wave_inversion.proofs.inversion.invert_rows.Goals.{After-width_of}
use Rattle.wave_inversion.proofs.inversion.invert_rows.Goals as goal

module _ (c : After-width_of) where
  within : c.args.first < length c.args.bands.now
  within = omega (arith, c.requires.order, c.if-last-first-ge-LEAST.true)

  here : get_or c.args.bands.now c.args.first c.index-bands-first.result ≡ band_at c.args.bands.now c.args.first
  here = get_or_from_slice_get c.args.bands.now c.args.first (band_at c.args.bands.now c.args.first) c.index-bands-first.result
      (slice_get-get_or c.args.bands.now c.args.first no_band within)

  shape : c.args.cube.now.shape ≡ (band_at c.args.bands.now c.args.first).shape
  shape = let i = c.requires.inverting.2 in i.alike.shape ∙ i.cube.shape ∙ sym (i.each c.args.first (rw i.many at within)).follows.made.shape

  kind : c.args.cube.now.kind ≡ (band_at c.args.bands.now c.args.first).kind
  kind = let i = c.requires.inverting.2 in i.alike.kind ∙ i.cube.kind ∙ sym (i.each c.args.first (rw i.many at within)).follows.made.kind

pub invert_wave-requires-clause-columns : goal.invert_wave-requires-clause-columns
invert_wave-requires-clause-columns c =
    let d = (goal.at.invert_wave-requires-clause-columns c).After-width_of in
    let told = rw (here d) at c.in-Some.ensures in
    let same = ap (λ (s : Sizes). s.columns) (shape d) in omega (arith, told.columns, same)

pub invert_wave-requires-clause-form : goal.invert_wave-requires-clause-form
invert_wave-requires-clause-form c =
    let d = (goal.at.invert_wave-requires-clause-form c).After-width_of in
    let told = rw (here d) at c.in-Some.ensures in told.form c.args.cube.now (shape d) (kind d)

pub loop-z-preserved : goal.loop-z-preserved
loop-z-preserved c =
    let kept = c.loop-z.invariant in let did = c.invert_rest.ensures in
    let row = ap (λ (s : Sizes). (c.args.y + 1) * s.columns) kept.alike.shape in record {
      inverted = λ p d inv. did.inverted p d (kept.inverted p d inv);
      alike = record { shape = kept.alike.shape ∙ did.alike.shape; kind = kept.alike.kind ∙ did.alike.kind };
      many = did.many ∙ kept.many;
      moved = λ z low high. elim (cases_eq z c.loop-z.z) [
        | inl here ↦ rw here (did.moved ∙ sym row)
        | inr apart ↦ ap (λ v. v.t) (did.others z (λ h. absurd (omega (arith, h, high, apart)))) ∙ kept.moved z low (omega (arith, high, apart))
      ];
      others = λ z out. did.others z (λ low. (let o = out (omega (arith, low)) in omega (arith, o)))
          ∙ kept.others z (λ low. (let o = out low in omega (arith, o)));
    }
