use Rattle.std.proofs.Common.{◌≡◌, refl, ◌+◌, ◌-◌, ◌<◌, ℕ, length, slice_get, Some, min, arith, inl, inr, sym, ◌∙◌, subst, true, rules}
use Rattle.std.proofs.lemmas.Bool.{cases_eq}
use Rattle.std.proofs.lemmas.Option.{get_or_from_slice_get, slice_get_read}
use Rattle.predict_core.specs.Following.{PredictorState}
use Rattle.predict_core.specs.BandLanes.{HasWeights}
use Rattle.predict_core.proofs.LaneVectors.{same_weights}
use Rattle.predict_core.proofs.lane_weights.fill_weights.Given as given
use Rattle.predict_core.proofs.lane_weights.fill_weights.Goals as goal
use Rattle.predict_core.proofs.lane_weights.fill_weights.Goals.{After-put_band}

module _ (g : given.Over) (c : After-put_band g) where
  at : slice_get c.args.bands.now (min c.loop-b.b (length c.args.bands.now - 1)) ≡ Some c.index-bands-min.result
  at = subst (λ k. slice_get c.args.bands.now k ≡ Some c.index-bands-min.result) c.min.ensures
      (slice_get_read c.args.bands.now (length c.args.bands.now) c.min.result c.index-bands-min.result refl
      (let e = c.min.ensures in let h = c.requires.some in omega (arith, e, h)) c.index-bands-min.is)

  next : c.put_band.result ≡ true → (k : ℕ) (s : PredictorState) → k < c.loop-b.b + 1
      → slice_get c.args.bands.now (min k (length c.args.bands.now - 1)) ≡ Some s → HasWeights g.row.Q k s c.put_band.new.rows
  next here k s l e = elim (cases_eq k c.loop-b.b) [
    | inl h ↦
        (let same : c.index-bands-min.result ≡ s =
        sym (get_or_from_slice_get c.args.bands.now (min c.loop-b.b (length c.args.bands.now - 1)) c.index-bands-min.result s at)
        ∙ get_or_from_slice_get c.args.bands.now (min c.loop-b.b (length c.args.bands.now - 1)) s s
        (subst (λ k. slice_get c.args.bands.now (min k (length c.args.bands.now - 1)) ≡ Some s) h e) in
        subst (λ j. HasWeights g.row.Q j s c.put_band.new.rows) (sym h)
        (subst (λ (v : PredictorState). HasWeights g.row.Q c.loop-b.b v c.put_band.new.rows) same (c.put_band.ensures.held here)))
    | inr n ↦ same_weights g.row.Q k s c.loop-b.rows c.put_band.new.rows (c.put_band.ensures.others k n)
        (c.loop-b.invariant k s (omega (arith, l, n)) e)
  ]

pub loop-b-preserved : goal.loop-b-preserved
loop-b-preserved g c k s l e = next g (goal.at.loop-b-preserved g c).After-put_band c.if-not-put_band.false k s l e

pub returns : goal.returns
returns g c h b s l e = let done : c.loop-b.b ≡ 8 = search rules in c.loop-b.invariant b s (omega (arith, l, done)) e
