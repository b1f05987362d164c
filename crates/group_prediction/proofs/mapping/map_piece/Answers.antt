use Rattle.std.proofs.Common.{◌≡◌, ℕ, ◌+◌, ◌^◌, ◌<◌, ◌≤◌, ℤ, pos, ◌-ℤ◌, ◌≤ℤ◌, get_or, w16, w32, to_z, of_z, SFits, to_z-of_z, arith, sym, ap, pow_pos, pow_mono, ◌∙◌, inl, inr}
use Rattle.std.proofs.lemmas.Bool.{cases_lt}
use Rattle.std.proofs.lemmas.Int.{ints, fits_signed_from_abs}
use Rattle.cube_core.specs.Kind.{SampleKind, smin, smid, smax}
use Rattle.sample_prediction.specs.LocalSum.{local_sum}
use Rattle.sample_prediction.specs.Residual.{mapped_between}
use Rattle.predict_core.specs.Rooms.{offset_number}
use Rattle.predict_core.proofs.Numbers.{offset_mapped}
use Rattle.sample_prediction.proofs.Spans.{span, below_span}
use Rattle.group_prediction.proofs.mapping.map_piece.Goals as goal
use Rattle.group_prediction.proofs.mapping.map_piece.Goals.{After-copy_offsets}

in_power : (width : ℤ) (h power : ℕ) → width ≡ pos power -ℤ pos 1 → pos h ≤ℤ width → h < power
in_power width h power e l = omega (arith, ints, e, l)

narrow : (width : ℤ) (power : ℕ) → width ≡ pos power -ℤ pos 1 → 4 ≤ power → power ≤ 8192 → (pos 1 ≤ℤ width) × (width ≤ℤ pos 8191)
narrow width power e l m = (omega (arith, ints, e, l), omega (arith, ints, e, m))

small : (width : ℤ) → pos 1 ≤ℤ width → width ≤ℤ pos 8191 → SFits w16 width
small width l m = fits_signed_from_abs w16 width (omega (arith, ints, l, m))

-- from the least offset to the greatest
module _ (c : After-copy_offsets) where
  abbrev k : SampleKind
  k = c.args.run.now.image.kind

  abbrev span_of : ℤ
  span_of = to_z w32 (of_z w32 (to_z w32 (of_z w32 c.args.settings.now.range.smax) -ℤ to_z w32 (of_z w32 c.args.settings.now.range.smin)))

  wide : span_of ≡ smax k -ℤ smin k
  wide =
      let r = c.args.settings.now.range in let low = r.low in let high = r.high in
      let least : r.smin ≡ smin k = r.smin_is ∙ ap (λ (k : SampleKind). smin k) (sym c.requires.kind) in
      let most : r.smax ≡ smax k = r.smax_is ∙ ap (λ (k : SampleKind). smax k) (sym c.requires.kind) in
      rw (← least, ← most) (omega (arith, ints, low.0, low.1, high.0, high.1))

  powers : smax k -ℤ smin k ≡ pos (2 ^ k.bits) -ℤ pos 1
  powers = span k c.prove_is_row.ensures.cube.bits

  bounds : (pos 1 ≤ℤ (smax k -ℤ smin k)) × ((smax k -ℤ smin k) ≤ℤ pos 8191)
  bounds =
      let is = c.prove_is_row.ensures.cube.bits in
      let least : 2 ^ 2 ≤ 2 ^ k.bits = pow_mono is.0 in let most : 2 ^ k.bits ≤ 2 ^ 13 = pow_mono c.requires.bits in
      narrow (smax k -ℤ smin k) (2 ^ k.bits) powers least most

  fits : SFits w16 span_of
  fits = rw wide (small (smax k -ℤ smin k) bounds.0 bounds.1)

  width : to_z w16 (of_z w16 span_of) ≡ smax k -ℤ smin k
  width = to_z-of_z fits ∙ wide

pub overflow_cast-greatest : goal.overflow_cast-greatest
overflow_cast-greatest c = fits (goal.at.overflow_cast-greatest c).After-copy_offsets

pub map_places-requires-clause-greatest_in : goal.map_places-requires-clause-greatest_in
map_places-requires-clause-greatest_in c =
    let d = (goal.at.map_places-requires-clause-greatest_in c).After-copy_offsets in rw (width d) (bounds d)

pub map_places-requires-clause-offsets_in : goal.map_places-requires-clause-offsets_in
map_places-requires-clause-offsets_in c i l =
    let d = (goal.at.map_places-requires-clause-offsets_in c).After-copy_offsets in rw (width d) (elim (cases_lt i c.count.result) [
      | inl h ↦
          (let x = c.x.ensures in let count = c.count.ensures in let run = c.requires.run.inside in
          rw (c.copy_offsets.ensures.written i h) (below_span c.args.run.now.image.kind _ (c.row-row.ensures.samples (c.x.result + i) (omega (arith, h, x, count, run))).0))
      | inr h ↦ rw (c.copy_offsets.ensures.rest i h) (below_span c.args.run.now.image.kind 0 (pow_pos c.args.run.now.image.kind.bits))
    ])

pub returns-clause-bound : goal.returns-clause-bound
returns-clause-bound c i within =
    let d = (goal.at.returns-clause-bound c).After-copy_offsets in let few = c.requires.run.few in
    in_power _ _ _ (powers d) (rw (width d) at c.map_places.ensures.bound i (omega arith))

pub returns-clause-values : goal.returns-clause-values
unfolding offset_number
returns-clause-values c i within h =
    let d = (goal.at.returns-clause-values c).After-copy_offsets in let s = c.args.settings.now in
    let k : SampleKind = c.args.run.now.image.kind in let few = c.requires.run.few in
    let part : ℤ = get_or c.args.parts.now i (pos 0) in let sum : ℤ = get_or c.args.sums.now i (pos 0) in
    let number = rw (width d) at (c.map_places.ensures.values i (omega arith)) in
    let sample = (c.row-row.ensures.samples (c.args.run.now.x + i) (omega (arith, within, c.requires.run.inside))).1 in
    rw (rw c.x.ensures at c.copy_offsets.ensures.written i (let n = c.count.ensures in omega (arith, within, n))) at number
    ∙ offset_mapped (smin k) (smid k) (smax k) part sum (local_sum s.predictor _ s.band _ (c.args.run.now.x + i)) (get_or c.row-row.result.now (c.args.run.now.x + i) 0)
    (c.requires.sums i within h)
    ∙ ap (mapped_between (smin k) (smax k) _) (sym sample)
