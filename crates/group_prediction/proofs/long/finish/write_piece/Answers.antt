use Rattle.std.proofs.Common.{◌≡◌, ◌≢◌, sym, ◌≤◌, ◌<◌, ◌+◌, ◌*◌, pos, ℕ, ℤ, List, take, length, slice_index_or, slice_index, slice_set, arith, ◌∙◌, get_or-take}
use Rattle.std.proofs.Common.{length-set}
use Rattle.std.proofs.lemmas.List.{length-take-le}
use Rattle.header_bits.specs.declared.params.Params.{Params}
use Rattle.sample_prediction.specs.Chain.{AreWeightsAt, scaled_by_difference}
use Rattle.sample_prediction.specs.LocalSum.{local_sum}
use Rattle.sample_prediction.specs.Residual.{mapped_residual}
use Rattle.predict_core.specs.RunChains.{IsFollowed}
use Rattle.predict_core.proofs.RunChains.{at_first}
use Rattle.predict_core.proofs.WholeRuns.{run_is, mapped_at, with_first, set_taken}
use Rattle.group_prediction.proofs.long.finish.write_piece.Goals as goal
use Rattle.group_prediction.proofs.long.finish.write_piece.Goals.{After-map_piece}

-- the residuals of the places that have weights
later_is : (c : After-map_piece) (p : Params) (begun ws : List ℤ)
    → AreWeightsAt p c.args.settings.now.predictor c.args.run.now.image c.args.settings.now.band
    (c.args.run.now.y * c.args.run.now.image.shape.columns + c.args.run.now.x) (take c.args.settings.now.count begun)
    → IsFollowed c.args.settings.now c.args.run.now.image c.args.run.now.y c.args.run.now.x c.args.run.now.first begun c.args.run.now.count ws c.args.parts.now
    → (i : ℕ) → i < c.args.run.now.count → c.args.run.now.first ≤ i
    → slice_index (take c.args.run.now.count c.map_piece.new.piece) i
    ≡ mapped_residual p c.args.run.now.image c.args.settings.now.band (c.args.run.now.y * c.args.run.now.image.shape.columns + c.args.run.now.x + i)
later_is c p begun ws f followed i l m =
    let s = c.args.settings.now in let later = c.requires.run.first.later in let inside = c.requires.run.inside in
    let there = at_first p s.predictor c.args.run.now.image s.band c.args.run.now.y c.args.run.now.x c.args.run.now.first (take s.count begun) c.requires.run.first f in
    get_or-take c.args.run.now.count c.map_piece.new.piece i 0 l
    ∙ mapped_at p c.args.run.now.image s.band c.args.run.now.y c.args.run.now.x i (slice_index c.map_piece.new.piece i) (scaled_by_difference c.args.run.now.image.kind
    (slice_index_or c.args.parts.now i (pos 0)) (local_sum s.predictor c.args.run.now.image s.band c.args.run.now.y (c.args.run.now.x + i)))
    (omega (arith, l, inside)) (followed.predicted p there i m l)
    (c.map_piece.ensures.values i l (omega (arith, later, m)))

long_enough : (c : After-map_piece) → length (take c.args.run.now.count c.map_piece.new.piece) ≡ c.args.run.now.count
long_enough c = let few = c.requires.run.few in let l : length c.map_piece.new.piece ≡ 64 = c.map_piece.ensures.long in length-take-le c.args.run.now.count c.map_piece.new.piece (omega (arith, few, l))

pub returns-then-first-eq1-clause-residuals : goal.returns-then-first-eq1-clause-residuals
returns-then-first-eq1-clause-residuals c p old ws f followed =
    let d = (goal.at.returns-then-first-eq1-clause-residuals c).After-map_piece in let s = c.args.settings.now in let some = c.requires.run.some in
    let is_first : c.args.run.now.first ≡ 1 = sym c.first.ensures ∙ c.if-first-eq1.true in
    let long = long_enough d in
    let begins : c.args.run.now.y + c.args.run.now.x ≡ 0 = c.requires.run.first.start is_first in
    set_taken c.args.run.now.count c.map_piece.new.piece c.first_residual.result
    ∙ run_is p c.args.run.now.image s.band (c.args.run.now.y * c.args.run.now.image.shape.columns + c.args.run.now.x) c.args.run.now.count
    (slice_set (take c.args.run.now.count c.map_piece.new.piece) 0 c.first_residual.result)
    (length-set (take c.args.run.now.count c.map_piece.new.piece) 0 c.first_residual.result ∙ long)
    (with_first p s.predictor c.args.run.now.image s.band c.args.run.now.y c.args.run.now.x c.first_residual.result (take c.args.run.now.count c.map_piece.new.piece) f.predictor begins
    c.requires.run.place.column (omega (arith, long, some)) (rw (c.rows.ensures.image, c.y.ensures, c.x.ensures) at c.first_residual.ensures.value)
    (λ i l m. later_is d p old ws f followed i (omega (arith, l, long)) (omega (arith, m, is_first))))

pub returns-else-first-eq1-clause-residuals : goal.returns-else-first-eq1-clause-residuals
returns-else-first-eq1-clause-residuals c p old ws f followed =
    let d = (goal.at.returns-else-first-eq1-clause-residuals c).After-map_piece in let s = c.args.settings.now in
    let long = long_enough d in let other : c.args.run.now.first ≢ 1 = (λ e. c.if-first-eq1.false (c.first.ensures ∙ e)) in let most = c.requires.run.first.most in
    run_is p c.args.run.now.image s.band (c.args.run.now.y * c.args.run.now.image.shape.columns + c.args.run.now.x) c.args.run.now.count (take c.args.run.now.count c.map_piece.new.piece) long
    (λ i l. later_is d p old ws f followed i (omega (arith, l, long)) (omega (arith, other, most)))
