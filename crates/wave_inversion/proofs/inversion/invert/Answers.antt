use Rattle.std.proofs.Common.{◌*◌, ◌∙◌, refl, ap, arith, inl, inr}
use Rattle.std.proofs.lemmas.Bool.{cases_lt}
use Rattle.std.proofs.lemmas.Option.{slice_get-get_or}
use Rattle.cube_core.specs.Shape.{Sizes}
use Rattle.predict_core.specs.Following.{no_band}
use Rattle.wave_inversion.specs.Inversion.{band_at}
use Rattle.wave_inversion.proofs.Coded.{coded_cube}
use Rattle.wave_inversion.proofs.Inverted.{inverting_first, inverted_last}
use Rattle.wave_inversion.proofs.inversion.invert.Goals as goal

pub invert_group-requires-clause-inverting : goal.invert_group-requires-clause-inverting
invert_group-requires-clause-inverting c =
    let p = c.requires.start.0 in let start = c.requires.start.1 in
    let d = coded_cube p c.args.cube.now start.lawful start.shape start.kind c.prove_is_cube.ensures in
    (p, d.0, c.loop-first.invariant.inverted p d.0 (inverting_first start d.1))

pub returns : goal.returns
returns c = record {
  inverted = λ p start.
      let d = coded_cube p c.args.cube.now start.lawful start.shape start.kind c.prove_is_cube.ensures in
      let known = c.loop-first.invariant in
      let same = inverted_last c.prove_is_cube-2.ensures (known.inverted p d.0 (inverting_first start d.1))
      (λ lower lt. let size = ap (λ (s : Sizes). s.rows * s.columns) known.alike.shape in
      let done = known.done lower (omega (arith, lt, start.many, c.loop-first-test.false)) in omega (arith, size, done)) in
      rw same d.1;
}

pub loop-first-init : goal.loop-first-init
loop-first-init c = record {
  inverted = λ p d inverting. inverting;
  alike = record { shape = refl; kind = refl };
  many = refl;
  inside = omega arith;
  done = λ lower low. absurd (omega (arith, low));
  rest = λ z low high. c.requires.start.1.first z (band_at c.args.bands.now z) (slice_get-get_or c.args.bands.now z no_band high);
}

pub loop-first-preserved : goal.loop-first-preserved
loop-first-preserved c =
    let before = c.loop-first.invariant in let did = c.invert_group.ensures in record {
      inverted = λ p d inverting. did.inverted p d (before.inverted p d inverting);
      alike = record { shape = before.alike.shape ∙ did.alike.shape; kind = before.alike.kind ∙ did.alike.kind };
      many = did.many ∙ before.many;
      inside = omega (arith, c.min-last.ensures);
      done = λ lower low. elim (cases_lt lower c.loop-first.first) [
        | inl below ↦ rw (did.others lower (λ h. absurd (omega (arith, h, below)))) (before.done lower below)
        | inr here ↦ (let size = ap (λ (s : Sizes). s.rows * s.columns) before.alike.shape in let moved = did.moved lower here low in omega (arith, size, moved))
      ];
      rest = λ z low high. ap (λ b. b.t) (did.others z (λ h. low)) ∙ before.rest z (omega (arith, low, c.min-last.ensures)) high;
    }
