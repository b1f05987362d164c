use Rattle.std.proofs.Common.{◌≡◌, ◌∙◌, ◌+◌, ℕ, ℤ, pos, ◌+ℤ◌, sym, refl, ap, arith, get_or, ◌∷◌, []}
use Rattle.std.proofs.lemmas.Int.{ints}
use Rattle.std.proofs.lemmas.Option.{slice_get-get_or, get_or_from_slice_get}
use Rattle.predict_core.specs.Following.{no_band}
use Rattle.wave_inversion.specs.Inversion.{band_at}
use Rattle.wave_inversion.proofs.Inverted.{run_inverted}
use Rattle.predict_core.proofs.InverseRuns.{beside_next, beside_none}
use Rattle.predict_core.proofs.RunSteps.{moved_next, moved_none}
use Rattle.wave_inversion.proofs.inversion.invert_place.Goals as goal

same_number : (least : ℤ) (a b : ℕ) → least +ℤ pos a ≡ least +ℤ pos b → a ≡ b
same_number least a b e = omega (arith, ints, e)

pub returns-clause-inverted : goal.returns-clause-inverted
returns-clause-inverted c p d inv =
    let here : get_or c.args.bands.now c.args.z c.index-bands-z.result ≡ band_at c.args.bands.now c.args.z =
    get_or_from_slice_get c.args.bands.now c.args.z (band_at c.args.bands.now c.args.z) c.index-bands-z.result
    (slice_get-get_or c.args.bands.now c.args.z no_band c.requires.band) in
    let old = inv.each c.args.z (rw inv.many at c.requires.band) in
    let did = rw (here, old.band) at c.inverse_into.ensures in
    let place : c.args.x + 0 ≡ c.args.x = omega arith in
    let beside = rw (place, ← did.written) at (beside_next c.args.cube.now c.args.cube.now c.args.z c.args.y c.args.x 0 c.inverse_into.result
    (rw place c.requires.place) c.prove_is_cube.ensures.whole (beside_none c.args.cube.now c.args.z c.args.y c.args.x)) in
    run_inverted inv (inv.alike.shape ∙ inv.cube.shape) c.prove_is_cube-2.ensures c.requires.place (let q = c.requires.place.column in omega (arith, q)) c.requires.next
    c.requires.ahead (moved_next 0 _ _ _ (moved_none _) did.moved) beside refl (λ f. ap (λ n. n ∷ []) (did.residual p f)) (λ f. did.follows p f) (λ i lt held.
    let at = c.row.ensures.samples c.args.x (let q = c.requires.place.column in omega (arith, q, c.row.ensures.len)) in let first : i ≡ 0 = omega (arith, lt) in
    rw (first, place) (same_number _ _ _ (sym at.1 ∙ rw (first, place) at held)))
