use Rattle.std.proofs.Common.{◌≡◌, ◌∙◌, ◌+◌, ◌<◌, ℕ, ℤ, pos, ◌+ℤ◌, sym, refl, arith, length, take, length-take, get_or}
use Rattle.std.proofs.lemmas.Int.{ints}
use Rattle.std.proofs.lemmas.List.{get_or-take}
use Rattle.std.proofs.lemmas.Option.{slice_get-get_or, get_or_from_slice_get}
use Rattle.predict_core.specs.Following.{no_band}
use Rattle.wave_inversion.specs.Inversion.{band_at}
use Rattle.wave_inversion.proofs.Inverted.{run_inverted}
use Rattle.wave_inversion.proofs.inversion.invert_run.Goals as goal
use Rattle.wave_inversion.proofs.inversion.invert_run.Goals.{After-prove_is_cube-2}

same_number : (least : ℤ) (a b : ℕ) → least +ℤ pos a ≡ least +ℤ pos b → a ≡ b
same_number least a b e = omega (arith, ints, e)

pub returns-clause-inverted : goal.returns-clause-inverted
returns-clause-inverted c p d inv =
    let here : get_or c.args.bands.now c.args.z c.index-bands-z.result ≡ band_at c.args.bands.now c.args.z =
    get_or_from_slice_get c.args.bands.now c.args.z (band_at c.args.bands.now c.args.z) c.index-bands-z.result
    (slice_get-get_or c.args.bands.now c.args.z no_band c.requires.band) in
    let old = inv.each c.args.z (rw inv.many at c.requires.band) in
    let long : length (take c.args.count c.copy_offsets.new.offsets) ≡ c.args.count =
    omega (arith, length-take {A = ℕ}, c.copy_offsets.array_long, c.requires.few) in
    let did = rw (here, old.band) at c.inverse_run.ensures in
    run_inverted inv (inv.alike.shape ∙ inv.cube.shape) c.prove_is_cube-2.ensures c.requires.place (rw long c.requires.inside) c.requires.next
    (rw long c.requires.ahead) did.moved did.beside refl (λ f. did.residuals p f) (λ f. did.follows p f) (λ i lt held.
    let at = c.row.ensures.samples (c.args.x + i) (omega (arith, lt, long, c.requires.inside)) in
    let copied = c.copy_offsets.ensures.written i (omega (arith, lt, long)) in
    get_or-take c.args.count c.copy_offsets.new.offsets i 0 (let m : i < c.args.count = omega (arith, lt, long) in m) ∙ copied ∙ same_number _ _ _ (sym at.1 ∙ held))
