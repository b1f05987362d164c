use Rattle.std.proofs.Common.{◌≡◌, ◌+◌, ◌-◌, ◌*◌, ◌^◌, ◌<◌, ◌≤◌, ℕ, [], length, get_or, slice_get, Some, min, refl, sym, ap, ◌∙◌, subst, arith, unsigned_abs}
use Rattle.std.proofs.lemmas.Option.{slice_get-get_or, slice_get_within, slice_get_read}
use Rattle.sample_prediction.specs.Bounds.{AllWithin}
use Rattle.band_lanes.specs.Rows.{numbers_of}
use Rattle.band_lanes.specs.Fours.{column_of}
use Rattle.predict_core.specs.Following.{PredictorState}
use Rattle.group_prediction.specs.GroupPieces.{IsRunNext}
use Rattle.group_prediction.specs.GroupLanes.{HasLongWeights}
use Rattle.group_prediction.specs.GroupLines.{no_long_lines}
use Rattle.band_lanes.specs.Fours.{row_components}
use Rattle.group_prediction.proofs.GroupFilled.{followed_none, followed_alike, number_at}
use Rattle.group_prediction.proofs.LongLanes.{long_ready_at, long_lane_filled, filled_components_in}
use Rattle.group_prediction.proofs.long.side_by_side.predict_lanes.Given as given
use Rattle.group_prediction.proofs.long.side_by_side.predict_lanes.Goals as goal
use Rattle.group_prediction.proofs.long.side_by_side.predict_lanes.Goals.{After-fill_own}

-- the band of lane b
module _ (g : given.Over) (c : After-fill_own g) (none : PredictorState) (b : ℕ) (fits : b < 4) where
  abbrev there : PredictorState
  there = get_or c.args.bands.now (min b (length c.args.bands.now - 1)) none

  there_is : slice_get c.args.bands.now (min b (length c.args.bands.now - 1)) ≡ Some there
  there_is = let some = c.requires.few.0 in
      slice_get-get_or c.args.bands.now (min b (length c.args.bands.now - 1)) none (omega (arith, some))

  told : (there.predictor ≡ c.requires.ready.predictor) × IsRunNext there c.args.run.now
  told = long_ready_at _ _ _ c.requires.ready (min b (length c.args.bands.now - 1)) there there_is

  small : (i : ℕ) → c.args.run.now.first ≤ i → i < c.args.run.now.count → AllWithin (2 ^ (c.args.run.now.image.kind.bits + 2)) (row_components (2 * g.row.Q) b c.fill_rows.new.rows i)
  small i l m =
      let later = c.requires.ready.first.later in let few = c.requires.pairs in let next = told.1.few in let long = c.fill_rows.ensures.long in
      filled_components_in g.row.Q b there c.args.run.now i c.fill_rows.new.rows (get_or c.args.lines.now (c.args.from + b) no_long_lines)
      c.prove_is_row.ensures.cube few told.1 (rw told.0 c.requires.ready.wide) (rw told.0 (c.requires.ready.enough there.band)) (omega (arith, long))
      (c.requires.lines b there fits there_is) m (omega (arith, later, l)) (λ k n. c.fill_rows.ensures.rows k i b n (omega (arith, m, next)) fits)

pub follow_band-requires-clause-small : goal.follow_band-requires-clause-small
follow_band-requires-clause-small g c i b l m fits =
    let d = (goal.at.follow_band-requires-clause-small g c).After-fill_own in let v = c.index-bands-0.result in let some = c.requires.few.0 in
    let at : slice_get c.args.bands.now 0 ≡ Some v =
    slice_get_read c.args.bands.now (length c.args.bands.now) 0 v refl (omega (arith, some)) c.index-bands-0.is in
    let bits : c.args.run.now.image.kind.bits ≡ v.kind.bits = ap (λ k. k.bits) (long_ready_at _ _ _ c.requires.ready 0 v at).1.kind in
    subst (λ n. AllWithin (2 ^ (n + 2)) (row_components (2 * g.row.Q) b c.fill_rows.new.rows i)) bits (small g d v b fits i l m)

pub follow_band-requires-clause-weights_in : goal.follow_band-requires-clause-weights_in
follow_band-requires-clause-weights_in g c b fits =
    let d = (goal.at.follow_band-requires-clause-weights_in g c).After-fill_own in let v = c.index-bands-0.result in let some = c.requires.few.0 in
    let at : slice_get c.args.bands.now 0 ≡ Some v =
    slice_get_read c.args.bands.now (length c.args.bands.now) 0 v refl (omega (arith, some)) c.index-bands-0.is in
    let same = (told g d v b fits).0 ∙ sym (long_ready_at _ _ _ c.requires.ready 0 v at).0 in
    subst (λ p. AllWithin (2 ^ (p.omega + 2)) (column_of (2 * g.row.Q) b c.fill_weights.new.rows)) same
    (c.fill_weights.ensures b (there g d v b fits) fits (there_is g d v b fits)).within

pub returns : goal.returns
returns g c k b e =
    let v = c.index-bands-0.result in let some = c.requires.few.0 in let most = c.requires.few.1 in let few = c.requires.pairs in
    let inside = slice_get_within c.args.bands.now k b e in
    let fits : k < 4 = omega (arith, most, inside) in
    let first : slice_get c.args.bands.now 0 ≡ Some v =
    slice_get_read c.args.bands.now (length c.args.bands.now) 0 v refl (omega (arith, some)) c.index-bands-0.is in
    let there : slice_get c.args.bands.now (min k (length c.args.bands.now - 1)) ≡ Some b =
    subst (λ n. slice_get c.args.bands.now n ≡ Some b) (omega (arith, inside)) e in
    let told = long_ready_at _ _ _ c.requires.ready k b e in let zero = long_ready_at _ _ _ c.requires.ready 0 v first in
    let same : b.predictor ≡ v.predictor = told.0 ∙ sym zero.0 in
    let lines = c.requires.lines k b fits there in
    let weights : HasLongWeights g.row.Q k b c.fill_weights.new.rows = c.fill_weights.ensures k b fits there in
    let count = told.1.few in
    let turned = c.turn_four_back.ensures in
    record {
      long = weights.long;
      sums_are = lines.sums;
      within = rw same (c.follow_band.ensures.weights_in k fits);
      small = λ i l m. subst (λ n. unsigned_abs n ≤ 18 * 2 ^ 20) (sym (turned i k (omega (arith, count, m)) fits)) (c.follow_band.ensures.small i k l m fits);
      begun = column_of (2 * g.row.Q) k c.fill_weights.new.rows;
      begun_is = weights.used (rw (weights.long, told.0) (c.requires.ready.enough b.band));
      followed = λ s is.
          followed_alike s c.args.run.now.image c.args.run.now.y c.args.run.now.x c.args.run.now.first c.args.run.now.count (column_of (2 * g.row.Q) k c.fill_weights.new.rows)
          (column_of (2 * g.row.Q) k c.follow_band.new.weights) (numbers_of k c.follow_band.new.parts) (get_or c.turn_four_back.new.lines k [])
          (λ i l. turned i k (omega (arith, count, l)) fits ∙ sym (number_at k i c.follow_band.new.parts))
          (c.follow_band.ensures.followed k s c.args.run.now.image fits
          (long_lane_filled g.row.Q k s b c.args.run.now c.fill_own.new.own c.fill_rows.new.rows
          (get_or c.args.lines.now (c.args.from + k) no_long_lines) c.prove_is_row.ensures.cube few is told.1 (rw told.0 c.requires.ready.register)
          (rw told.0 (c.requires.ready.enough b.band)) c.fill_rows.ensures.long lines (λ i l. c.fill_own.ensures i k l fits)
          (λ j i l m. c.fill_rows.ensures.rows j i k l m fits))
          (is.predictor ∙ same) (is.kind ∙ sym told.1.kind ∙ zero.1.kind) (is.columns ∙ ap (λ w. w.columns) zero.1.shape)
          (followed_none s c.args.run.now.image c.args.run.now.y c.args.run.now.x c.args.run.now.first (column_of (2 * g.row.Q) k c.fill_weights.new.rows) _));
    }
