use Rattle.std.proofs.Common.{◌≡◌, ◌+◌, ◌<◌, ℕ, min, ◌-◌, length, sym, ap, ◌∙◌, subst, refl, inl, inr, arith}
use Rattle.std.proofs.lemmas.Bool.{cases_eq}
use Rattle.std.proofs.lemmas.Option.{slice_get_read, get_or_from_slice_get}
use Rattle.predict_core.specs.Following.{PredictorState}
use Rattle.predict_core.specs.BandLanes.{HasWeights}
use Rattle.predict_core.specs.Following.{no_band}
use Rattle.wave_inversion.specs.Inversion.{band_at}
use Rattle.predict_core.proofs.LaneVectors.{same_weights}
use Rattle.wave_inversion.proofs.long.weights.fill_weights.Goals as goal

pub loop-b-preserved : goal.loop-b-preserved
loop-b-preserved g c k l =
    let b : ℕ = c.loop-b.b in let z : ℕ = min (c.args.first + b) (length c.args.bands.now - 1) in
    let inside : z < length c.args.bands.now = omega (arith, c.requires.some) in
    let here : c.index-bands-z.result ≡ band_at c.args.bands.now z =
    sym (get_or_from_slice_get c.args.bands.now c.min-z.result c.index-bands-z.result no_band
    (slice_get_read c.args.bands.now (length c.args.bands.now) c.min-z.result c.index-bands-z.result refl (omega (arith, inside, c.min-z.ensures)) c.index-bands-z.is))
    ∙ ap (band_at c.args.bands.now) c.min-z.ensures in
    elim (cases_eq k b) [
      | inl same ↦ rw same (subst (λ (v : PredictorState). HasWeights g.row.Q b v c.put_band.new.rows) here c.put_band.ensures.held)
      | inr apart ↦ same_weights g.row.Q k _ c.loop-b.rows c.put_band.new.rows (c.put_band.ensures.others k apart) (c.loop-b.invariant k (omega (arith, l, apart)))
    ]
