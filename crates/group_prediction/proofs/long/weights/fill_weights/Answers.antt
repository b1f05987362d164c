use Rattle.std.proofs.Common.{◌≡◌, refl, ◌+◌, ◌-◌, ◌<◌, ℕ, length, slice_get, Some, min, arith, inl, inr, sym, ◌∙◌, subst, rules}
use Rattle.std.proofs.lemmas.Bool.{cases_eq}
use Rattle.std.proofs.lemmas.Option.{get_or_from_slice_get, slice_get_read}
use Rattle.predict_core.specs.Following.{PredictorState}
use Rattle.group_prediction.specs.GroupLanes.{HasLongWeights}
use Rattle.group_prediction.proofs.LongLanes.{same_long_weights}
use Rattle.group_prediction.proofs.long.weights.fill_weights.Given as given
use Rattle.group_prediction.proofs.long.weights.fill_weights.Goals as goal
use Rattle.group_prediction.proofs.long.weights.fill_weights.Goals.{After-put_band}

module _ (g : given.Over) (c : After-put_band g) where
  at : slice_get c.args.bands.now (min c.loop-b.b (length c.args.bands.now - 1)) ≡ Some c.index-bands-min.result
  at = subst (λ k. slice_get c.args.bands.now k ≡ Some c.index-bands-min.result) c.min.ensures
      (slice_get_read c.args.bands.now (length c.args.bands.now) c.min.result c.index-bands-min.result refl
      (let e = c.min.ensures in let h = c.requires.some in omega (arith, e, h)) c.index-bands-min.is)

  next : (k : ℕ) (s : PredictorState) → k < c.loop-b.b + 1
      → slice_get c.args.bands.now (min k (length c.args.bands.now - 1)) ≡ Some s → HasLongWeights g.row.Q k s c.put_band.new.rows
  next k s l e = elim (cases_eq k c.loop-b.b) [
    | inl h ↦
        (let same : c.index-bands-min.result ≡ s =
        sym (get_or_from_slice_get c.args.bands.now (min c.loop-b.b (length c.args.bands.now - 1)) c.index-bands-min.result s at)
        ∙ get_or_from_slice_get c.args.bands.now (min c.loop-b.b (length c.args.bands.now - 1)) s s
        (subst (λ k. slice_get c.args.bands.now (min k (length c.args.bands.now - 1)) ≡ Some s) h e) in
        subst (λ j. HasLongWeights g.row.Q j s c.put_band.new.rows) (sym h)
        (subst (λ (v : PredictorState). HasLongWeights g.row.Q c.loop-b.b v c.put_band.new.rows) same c.put_band.ensures.held))
    | inr n ↦ same_long_weights g.row.Q k s c.loop-b.rows c.put_band.new.rows (c.put_band.ensures.others k n)
        (c.loop-b.invariant k s (omega (arith, l, n)) e)
  ]

pub loop-b-preserved : goal.loop-b-preserved
loop-b-preserved g c k s l e = next g (goal.at.loop-b-preserved g c).After-put_band k s l e

pub returns : goal.returns
returns g c b s l e = let done : c.loop-b.b ≡ 4 = search rules in c.loop-b.invariant b s (omega (arith, l, done)) e
