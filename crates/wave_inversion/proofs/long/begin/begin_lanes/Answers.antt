use Rattle.std.proofs.Common.{◌≡◌, ◌∙◌, ◌+◌, ◌^◌, ◌<◌, ℕ, length, sym, subst, refl, inl, inr, arith}
use Rattle.std.proofs.lemmas.Bool.{cases_eq}
use Rattle.std.proofs.lemmas.Option.{slice_get_read, get_or_from_slice_get}
use Rattle.band_lanes.specs.Rows.{weights_of}
use Rattle.sample_prediction.specs.Bounds.{AllWithin}
use Rattle.predict_core.specs.Following.{PredictorState}
use Rattle.predict_core.specs.BandLanes.{HasWeights}
use Rattle.predict_core.specs.Following.{no_band}
use Rattle.wave_inversion.specs.Inversion.{band_at}
use Rattle.wave_inversion.specs.WaveLanes.{AreInStep}
use Rattle.wave_inversion.proofs.WaveBegun.{lane_begins}
use Rattle.wave_inversion.proofs.long.begin.begin_lanes.Goals as goal

pub loop-b-preserved : goal.loop-b-preserved
loop-b-preserved g c =
    let kept = c.loop-b.invariant in let did = c.invert_by.ensures in let put = c.put_back.ensures in
    let b : ℕ = c.loop-b.b in let z : ℕ = c.args.first + b in let fits : b < 8 = omega (arith, c.loop-b-test.true, c.lane_count-many.ensures) in
    let exists : z < length c.args.bands.now = omega (arith, c.loop-b-test.true, c.lane_count-many.ensures) in
    let here : c.index-bands-z.result ≡ band_at c.args.bands.now z =
    sym (get_or_from_slice_get c.args.bands.now z c.index-bands-z.result no_band
    (slice_get_read c.args.bands.now (length c.args.bands.now) z c.index-bands-z.result refl exists c.index-bands-z.is)) in
    let has : HasWeights g.row.Q b (band_at c.args.bands.now z) c.put_band.new.rows =
    subst (λ (v : PredictorState). HasWeights g.row.Q b v c.put_band.new.rows) here c.put_band.ensures.held in
    record {
      above = did.above ∙ kept.above;
      lower = did.lower ∙ kept.lower;
      numbers_in = λ i k l m. elim (cases_eq k b) [
        | inr apart ↦ rw (put.lanes i k apart) (did.numbers_in i k l m)
        | inl lane ↦ elim (cases_eq i (7 + b)) [
          | inr apart ↦ rw (put.rows i k apart) (did.numbers_in i k l m)
          | inl row ↦ rw (row, lane, put.here, c.diagonal-start.ensures b fits) (c.requires.numbers_in (7 + b) b (omega (arith, fits)) fits)
        ]
      ];
      own_in = did.own_in;
      weights_in = λ k l. elim (cases_eq k b) [
        | inl lane ↦ rw lane (subst (λ (n : ℕ). AllWithin (2 ^ (n + 2)) (weights_of g.row.Q b c.put_band.new.rows)) (sym (c.requires.omega b fits exists)) has.within)
        | inr apart ↦ rw (c.put_band.ensures.others k apart) (did.weights_in k l)
      ];
      inverted = λ p s d y last lanes more begin start.
          let now = kept.inverted p s d y last lanes more begin start in
          let next : 8 + b ≡ 7 + (b + 1) = omega arith in
          let after = did.inverted p s d c.args.first y 0 last b (rw (kept.above, kept.lower) lanes) (omega (arith, fits, more)) (omega (arith, fits), omega arith) now in
          subst (λ (k : ℕ). AreInStep g.row.Q p s d c.args.first y 0 last (b + 1) k c.put_back.new.numbers c.invert_by.new.room.own c.put_band.new.rows) next
          (lane_begins b (8 + b) fits refl begin has c.put_band.ensures.others (put.here ∙ c.diagonal-start.ensures b fits) put.rows put.lanes after);
    }

pub returns-clause-inverted : goal.returns-clause-inverted
returns-clause-inverted g c p s d y last lanes more begin start =
    let done : c.loop-b.b ≡ c.lane_count-many.result = omega (arith, c.loop-b-test.false, c.loop-b.auto, c.lane_count-many.ensures, c.requires.some) in
    rw (← c.lane_count-many.ensures) (
    subst (λ (b : ℕ). AreInStep g.row.Q p s d c.args.first y 0 last b (7 + b) c.loop-b.room.numbers c.loop-b.room.own c.loop-b.room.weights) done
    (c.loop-b.invariant.inverted p s d y last lanes more begin start))
