use Rattle.std.proofs.Common.{◌≡◌, ◌∙◌, inl, inr, arith, subst, sym, ap}
use Rattle.std.proofs.lemmas.Bool.{cases_Bool}
use Rattle.cube_core.specs.Shape.{Sizes}
use Rattle.wave_inversion.specs.WaveForms.{form_in}
use Rattle.wave_inversion.specs.WaveTiles.{IsFormOf}
use Rattle.wave_inversion.proofs.WaveEnds.{within_end, within_start}
use Rattle.wave_inversion.proofs.WaveForms.{form_same, same_predictor}
use Rattle.wave_inversion.proofs.inversion.invert_tiles.Goals as goal

pub invert_by-requires-clause-inverting : goal.invert_by-requires-clause-inverting
invert_by-requires-clause-inverting c =
    let i = c.requires.inverting in (i.0, i.1, c.loop-origin.invariant.inverted i.0 i.1 i.2)

pub invert_by-requires-clause-form : goal.invert_by-requires-clause-form
invert_by-requires-clause-form c =
    let i = c.requires.inverting in let now = c.loop-origin.invariant.inverted i.0 i.1 i.2 in
    subst (λ m. IsFormOf (form_in c.args.form) m c.loop-origin.cube c.args.y) (same_predictor i.2 now c.args.first (omega (arith, c.requires.some, i.2.many)))
    (form_same c.loop-origin.cube c.loop-origin.invariant.alike c.requires.form)

pub invert_by-inverted-requires-clause-inverting : goal.invert_by-inverted-requires-clause-inverting
invert_by-inverted-requires-clause-inverting c =
    let i = c.requires.inverting in (i.0, i.1, c.loop-origin.invariant.inverted i.0 i.1 i.2)

pub invert_by-inverted-requires-clause-form : goal.invert_by-inverted-requires-clause-form
invert_by-inverted-requires-clause-form c =
    let i = c.requires.inverting in let now = c.loop-origin.invariant.inverted i.0 i.1 i.2 in
    subst (λ m. IsFormOf (form_in c.args.form) m c.loop-origin.cube c.args.y) (same_predictor i.2 now c.args.first (omega (arith, c.requires.some, i.2.many)))
    (form_same c.loop-origin.cube c.loop-origin.invariant.alike c.requires.form)

pub returns-clause-stand : goal.returns-clause-stand
returns-clause-stand c b few exists =
    let did = c.invert_by-inverted.ensures in let known = c.loop-origin.invariant in
    let width : c.args.cube.now.shape.columns ≡ c.columns-columns.result = sym (c.columns-columns.ensures.value ∙ ap (λ (s : Sizes). s.columns) c.shape.ensures) in
    elim (cases_Bool c.invert_by-inverted.result) [
      | inl went ↦ within_end _ _ _ _ _ _ b (ap (λ (s : Sizes). s.columns) known.alike.shape) (did.moved went b few (omega (arith, exists, did.many)))
      | inr stayed ↦ rw (did.kept stayed) (within_start _ _ _ _ c.loop-origin.origin b width known.inside (known.stand b few (omega (arith, exists, did.many))))
    ]
