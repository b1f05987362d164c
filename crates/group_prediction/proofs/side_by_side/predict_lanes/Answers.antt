use Rattle.std.proofs.Common.{◌≡◌, ◌+◌, ◌-◌, ◌*◌, ◌^◌, ◌<◌, ◌≤◌, ℕ, pos, [], length, get_or, slice_get, Some, min, refl, sym, ap, ◌∙◌, subst, arith, unsigned_abs}
use Rattle.std.proofs.lemmas.Option.{slice_get-get_or, slice_get_within, slice_get_read}
use Rattle.sample_prediction.specs.Bounds.{AllWithin}
use Rattle.sample_prediction.specs.Differences.{difference_vector}
use Rattle.band_lanes.specs.Rows.{numbers_of, weights_of, AreBelow}
use Rattle.lanes.specs.Lanes.{place}
use Rattle.predict_core.specs.Following.{PredictorState}
use Rattle.group_prediction.specs.GroupPieces.{IsRunNext}
use Rattle.predict_core.specs.BandLanes.{HasWeights}
use Rattle.group_prediction.specs.GroupLines.{no_lines}
use Rattle.group_prediction.proofs.GroupFilled.{ready_at, run_of, lane_filled, component_below, followed_none, followed_alike, number_at}
use Rattle.predict_core.proofs.LaneVectors.{all_below}
use Rattle.group_prediction.proofs.side_by_side.predict_lanes.Given as given
use Rattle.group_prediction.proofs.side_by_side.predict_lanes.Goals as goal
use Rattle.group_prediction.proofs.side_by_side.predict_lanes.Goals.{After-fill_own_rows, After-follow_band, After-turn_back}

-- the band of lane b
module _ (g : given.Over) (c : After-fill_own_rows g) (none : PredictorState) (b : ℕ) (fits : b < 8) where
  abbrev there : PredictorState
  there = get_or c.args.bands.now (min b (length c.args.bands.now - 1)) none

  there_is : slice_get c.args.bands.now (min b (length c.args.bands.now - 1)) ≡ Some there
  there_is = let some = c.requires.few.0 in
      slice_get-get_or c.args.bands.now (min b (length c.args.bands.now - 1)) none (omega (arith, some))

  told : (there.predictor ≡ c.requires.ready.predictor) × IsRunNext there c.args.run.now
  told = ready_at _ _ _ c.requires.ready (min b (length c.args.bands.now - 1)) there there_is

  component : (i k : ℕ) → i < c.args.run.now.count → 0 < c.args.run.now.y + (c.args.run.now.x + i) → k < 2 * g.row.Q
      → place (get_or c.fill_lanes.new.out b no_lines).components k i
      ≡ get_or (difference_vector there.predictor c.args.run.now.image there.band c.args.run.now.y (c.args.run.now.x + i)) k (pos 0)
  component i k l m n = (c.fill_lanes.ensures b there fits there_is).components i k l m n

  small : (i k : ℕ) → i < c.args.run.now.count → 0 < c.args.run.now.y + (c.args.run.now.x + i) → k < 2 * g.row.Q
      → unsigned_abs (place (get_or c.fill_lanes.new.out b no_lines).components k i) < 2 ^ (c.args.run.now.image.kind.bits + 2)
  small i k l m n =
      let inside = told.1.inside in
      rw (component i k l m n)
      (component_below there.predictor c.args.run.now.image c.prove_is_row.ensures.cube there.band c.args.run.now.y (c.args.run.now.x + i) k m
      (rw told.0 c.requires.ready.wide) (record { band = told.1.place.band; row = told.1.place.row; column = omega (arith, inside, l) }))

-- all lanes
module _ (g : given.Over) (c : After-fill_own_rows g) (none : PredictorState) where
  within : (i : ℕ) → i < c.args.run.now.count → i < 64
  within i l =
      let few = (told g c none 0 (omega arith)).1.few in omega (arith, l, few)

  below : (i : ℕ) → c.args.run.now.first ≤ i → i < c.args.run.now.count → AreBelow (2 ^ (c.args.run.now.image.kind.bits + 2)) g.row.Q c.fill_pairs.new.pairs i
  below i l m =
      let later = c.requires.ready.first.later in
      all_below (2 ^ (c.args.run.now.image.kind.bits + 2)) g.row.Q i c.fill_pairs.new.pairs
      (λ j b n o. subst (λ v. unsigned_abs v < 2 ^ (c.args.run.now.image.kind.bits + 2)) (sym (c.fill_pairs.ensures.even j i b n (within i m) o))
      (small g c none b o i (2 * j) m (omega (arith, later, l)) (omega (arith, n))))
      (λ j b n o. subst (λ v. unsigned_abs v < 2 ^ (c.args.run.now.image.kind.bits + 2)) (sym (c.fill_pairs.ensures.odd j i b n (within i m) o))
      (small g c none b o i (2 * j + 1) m (omega (arith, later, l)) (omega (arith, n))))

  weights_in : (b : ℕ) → b < 8 → AllWithin (2 ^ (c.requires.ready.predictor.omega + 2)) (weights_of g.row.Q b c.fill_weights.new.rows)
  weights_in b l =
      rw (← (told g c none b l).0) (c.fill_weights.ensures c.if-not-fill_weights.false b (there g c none b l) l (there_is g c none b l)).within

pub fill_lanes-requires : goal.fill_lanes-requires
fill_lanes-requires g c =
    let ready = ready_at _ _ _ c.requires.ready in let few = c.requires.pairs in record {
      some_bands = c.requires.few;
      next = λ i b e. (ready i b e).1;
      alike = λ i j a b e f. (ready j b f).0 ∙ sym (ready i a e).0;
      bits = c.requires.ready.narrow.bits_in;
      some = c.requires.ready.some;
      first = c.requires.ready.first;
      lines = omega (arith, few);
    }

pub follow_band-requires : goal.follow_band-requires
follow_band-requires g c =
    let d = (goal.at.follow_band-requires g c).After-fill_own_rows in let v = c.index-bands-0.result in
    let some = c.requires.few.0 in let few = c.requires.pairs in
    let at : slice_get c.args.bands.now 0 ≡ Some v =
    slice_get_read c.args.bands.now (length c.args.bands.now) 0 v refl (omega (arith, some)) c.index-bands-0.is in
    let told = ready_at _ _ _ c.requires.ready 0 v at in let next = told.1 in
    let bits : c.args.run.now.image.kind.bits ≡ v.kind.bits = ap (λ k. k.bits) next.kind in
    record {
      few = few;
      run = run_of v c.args.run.now next c.requires.ready.some c.requires.ready.first;
      next = next;
      narrow = rw (told.0, ← next.kind) c.requires.ready.narrow;
      shallow = λ e. rw (← bits) (c.requires.shallow e);
      below = rw (← bits) (below g d v);
      weights_in = rw told.0 (weights_in g d v);
    }

pub returns : goal.returns
returns g c h k b e =
    let v = c.index-bands-0.result in let some = c.requires.few.0 in let most = c.requires.few.1 in let few = c.requires.pairs in
    let inside = slice_get_within c.args.bands.now k b e in
    let fits : k < 8 = omega (arith, most, inside) in
    let first : slice_get c.args.bands.now 0 ≡ Some v =
    slice_get_read c.args.bands.now (length c.args.bands.now) 0 v refl (omega (arith, some)) c.index-bands-0.is in
    let there : slice_get c.args.bands.now (min k (length c.args.bands.now - 1)) ≡ Some b =
    subst (λ n. slice_get c.args.bands.now n ≡ Some b) (omega (arith, inside)) e in
    let told = ready_at _ _ _ c.requires.ready k b e in let zero = ready_at _ _ _ c.requires.ready 0 v first in
    let same : b.predictor ≡ v.predictor = told.0 ∙ sym zero.0 in
    let lines = c.fill_lanes.ensures k b fits there in
    let weights : HasWeights g.row.Q k b c.fill_weights.new.rows = c.fill_weights.ensures c.if-not-fill_weights.false k b fits there in
    let count = told.1.few in
    let long = c.fill_pairs.ensures.long in
    record {
      long = weights.long;
      sums = lines.sums;
      within = rw same (c.follow_band.ensures.weights_in k fits);
      begun = weights_of g.row.Q k c.fill_weights.new.rows;
      begun_is = weights.used (rw (weights.long, told.0) (c.requires.ready.enough b.band));
      followed = λ s is.
          followed_alike s c.args.run.now.image c.args.run.now.y c.args.run.now.x c.args.run.now.first c.args.run.now.count (weights_of g.row.Q k c.fill_weights.new.rows)
          (weights_of g.row.Q k c.follow_band.new.weights) (numbers_of k c.follow_band.new.parts) (get_or c.turn_back.new.lines k [])
          (λ i l. c.turn_back.ensures i k (omega (arith, count, l)) fits ∙ sym (number_at k i c.follow_band.new.parts))
          (c.follow_band.ensures.followed k s c.args.run.now.image fits
          (lane_filled g.row.Q k s b c.args.run.now c.fill_own_rows.new.rows c.fill_pairs.new.pairs
          (get_or c.fill_lanes.new.out k no_lines) fits c.prove_is_row.ensures.cube few is told.1 (rw told.0 c.requires.ready.narrow)
          (rw told.0 (c.requires.ready.enough b.band)) (omega (arith, long)) lines (λ i l. c.fill_own_rows.ensures i k l fits)
          (λ j i l m. c.fill_pairs.ensures.even j i k l m fits) (λ j i l m. c.fill_pairs.ensures.odd j i k l m fits))
          (is.predictor ∙ same) (is.kind ∙ sym told.1.kind ∙ zero.1.kind) (is.columns ∙ ap (λ w. w.columns) zero.1.shape)
          (followed_none s c.args.run.now.image c.args.run.now.y c.args.run.now.x c.args.run.now.first (weights_of g.row.Q k c.fill_weights.new.rows) _));
    }
