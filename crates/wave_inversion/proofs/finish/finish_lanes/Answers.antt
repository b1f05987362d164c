use Rattle.std.proofs.Common.{◌≡◌, ◌∙◌, ◌+◌, ◌<◌, ℕ, [], ap, arith, length, take, slice_index_or, inl, inr}
use Rattle.std.proofs.lemmas.Bool.{cases_eq}
use Rattle.cube_core.specs.Shape.{Sizes}
use Rattle.predict_core.specs.Following.{PredictorState}
use Rattle.wave_inversion.specs.Inversion.{band_at}
use Rattle.wave_inversion.proofs.finish.finish_lanes.Goals as goal

pub loop-b-preserved : goal.loop-b-preserved
loop-b-preserved g c =
    let kept = c.loop-b.invariant in let did = c.finish_lane.ensures in
    let b : ℕ = c.loop-b.b in let z : ℕ = c.args.first + b in
    let fits : b < 8 = omega (arith, c.loop-b-test.true, c.lane_count-many.ensures) in
    let exists : z < length c.args.bands.now = omega (arith, c.loop-b-test.true, c.lane_count-many.ensures) in
    let same : band_at c.loop-b.bands z ≡ band_at c.args.bands.now z = kept.others z (λ low. omega arith) in
    let columns = ap (λ (s : Sizes). s.columns) kept.alike.shape in
    record {
      inverted = λ p d inv.
          did.inverted p d (kept.inverted p d inv) (λ i low high right. c.requires.found.offsets_at p d inv b i fits exists low high (rw columns right))
          (ap (λ (v : PredictorState). take (length v.weights) (slice_index_or c.args.found.now.weights b [])) same
          ∙ rw columns at (c.requires.found.weights_at p d inv b fits exists));
      alike = record { shape = kept.alike.shape ∙ did.alike.shape; kind = kept.alike.kind ∙ did.alike.kind };
      many = did.many ∙ kept.many;
      moved = λ k lt. elim (cases_eq k b) [
        | inl here ↦ rw here (rw (same, ← columns) at did.moved)
        | inr apart ↦ rw (did.others (c.args.first + k) (λ low. absurd (omega (arith, low, lt, apart)))) (kept.moved k (omega (arith, lt, apart)))
      ];
      others = λ z' out. did.others z' (λ low. (let o = out (omega (arith, low)) in omega (arith, o)))
          ∙ kept.others z' (λ low. (let o = out low in omega (arith, o)));
    }
