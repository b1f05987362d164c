use Rattle.std.proofs.Common.{◌≡◌, ℕ, ◌+◌, ◌^◌, ◌<◌, ℤ, pos, ◌-ℤ◌, ◌≤ℤ◌, get_or, w32, to_z, of_z, arith, sym, ap, pow_pos, ◌∙◌, inl, inr}
use Rattle.std.proofs.lemmas.Bool.{cases_lt}
use Rattle.std.proofs.lemmas.Int.{ints}
use Rattle.cube_core.specs.Kind.{SampleKind, smin, smid, smax}
use Rattle.sample_prediction.specs.LocalSum.{local_sum}
use Rattle.sample_prediction.specs.Residual.{mapped_between}
use Rattle.predict_core.specs.Rooms.{offset_number}
use Rattle.predict_core.proofs.Numbers.{offset_mapped}
use Rattle.sample_prediction.proofs.Spans.{span, below_span}
use Rattle.predict_core.proofs.mapping.map_run.Goals as goal
use Rattle.predict_core.proofs.mapping.map_run.Goals.{After-copy_offsets}

in_power : (width : ℤ) (h power : ℕ) → width ≡ pos power -ℤ pos 1 → pos h ≤ℤ width → h < power
in_power width h power e l = omega (arith, ints, e, l)

-- from the least offset to the greatest
module _ (c : After-copy_offsets) where
  width : to_z w32 (of_z w32 (to_z w32 (of_z w32 c.args.settings.now.range.smax) -ℤ to_z w32 (of_z w32 c.args.settings.now.range.smin)))
      ≡ smax c.args.run.now.image.kind -ℤ smin c.args.run.now.image.kind
  width =
      let r = c.args.settings.now.range in let low = r.low in let high = r.high in
      let least : r.smin ≡ smin c.args.run.now.image.kind = r.smin_is ∙ ap (λ (k : SampleKind). smin k) (sym c.requires.kind) in
      let most : r.smax ≡ smax c.args.run.now.image.kind = r.smax_is ∙ ap (λ (k : SampleKind). smax k) (sym c.requires.kind) in
      rw (← least, ← most) (omega (arith, ints, low.0, low.1, high.0, high.1))

  powers : smax c.args.run.now.image.kind -ℤ smin c.args.run.now.image.kind ≡ pos (2 ^ c.args.run.now.image.kind.bits) -ℤ pos 1
  powers = span c.args.run.now.image.kind c.prove_is_row.ensures.cube.bits

pub map_places-requires-clause-offsets_in : goal.map_places-requires-clause-offsets_in
map_places-requires-clause-offsets_in c i l =
    let d = (goal.at.map_places-requires-clause-offsets_in c).After-copy_offsets in rw (width d) (elim (cases_lt i c.count.result) [
      | inl h ↦
          (let x = c.x.ensures in let count = c.count.ensures in let run = c.requires.run.inside in
          rw (c.copy_offsets.ensures.written i h) (below_span c.args.run.now.image.kind _ (c.row-row.ensures.samples (c.x.result + i) (omega (arith, h, x, count, run))).0))
      | inr h ↦ rw (c.copy_offsets.ensures.rest i h) (below_span c.args.run.now.image.kind 0 (pow_pos c.args.run.now.image.kind.bits))
    ])

pub returns-clause-bound : goal.returns-clause-bound
returns-clause-bound c i l =
    let d = (goal.at.returns-clause-bound c).After-copy_offsets in let few = c.requires.run.few in
    in_power _ _ _ (powers d) (rw (width d) at c.map_places.ensures.bound i (omega (arith, l, few)))

pub returns-clause-values : goal.returns-clause-values
unfolding offset_number
returns-clause-values c i l h =
    let d = (goal.at.returns-clause-values c).After-copy_offsets in let s = c.args.settings.now in
    let k : SampleKind = c.args.run.now.image.kind in let few = c.requires.run.few in let inside = c.requires.run.inside in let count = c.count.ensures in
    let part : ℤ = get_or c.args.parts.now i (pos 0) in let sum : ℤ = get_or c.args.sums.now i (pos 0) in
    let number = rw (width d) at (c.map_places.ensures.values i (omega (arith, l, few)) (c.requires.parts_in i l h) (c.requires.sum_least i l h)
    (c.requires.sum_most i l h)) in
    let sample = (c.row-row.ensures.samples (c.args.run.now.x + i) (omega (arith, l, inside))).1 in
    rw (rw c.x.ensures at c.copy_offsets.ensures.written i (omega (arith, l, count))) at number
    ∙ offset_mapped (smin k) (smid k) (smax k) part sum (local_sum s.predictor _ s.band _ (c.args.run.now.x + i)) (get_or c.row-row.result.now (c.args.run.now.x + i) 0)
    (c.requires.sum i l h)
    ∙ ap (mapped_between (smin k) (smax k) _) (sym sample)
