-- The scaled prediction from the predicted difference, whatever the register wraps.
use Rattle.std.proofs.Common.{◌≡◌, ◌^◌, ℤ, pos, ◌+ℤ◌, ◌-ℤ◌, ◌*ℤ◌, ◌≤ℤ◌, List, arith, refl}
use Rattle.std.proofs.lemmas.Int.{ints, clamps}
use Rattle.cube_core.specs.Kind.{SampleKind, smin, smid, smax}
use Rattle.sample_prediction.specs.Arithmetic.{floor_div, clip, wrapped}
use Rattle.sample_prediction.specs.Chain.{scaled_by_difference}
use Rattle.sample_prediction.specs.Mapping.{IsScaled}
use Rattle.sample_prediction.specs.declared.predictor.Predictor.{Predictor}
use Rattle.sample_prediction.specs.Prediction.{inner_product, scaled_by}
use Rattle.sample_prediction.proofs.Floors.{floor_low, floor_high, upper_part}

centered : (low high middle sum scaled part half : ℤ) → part ≡ pos 2 *ℤ scaled -ℤ pos 2 -ℤ sum
    → (pos 2 *ℤ half) ≤ℤ (part +ℤ (sum -ℤ pos 4 *ℤ middle)) → ((part +ℤ (sum -ℤ pos 4 *ℤ middle)) +ℤ pos 1) ≤ℤ (pos 2 *ℤ half +ℤ pos 2)
    → (pos 2 *ℤ low) ≤ℤ scaled → scaled ≤ℤ (pos 2 *ℤ high +ℤ pos 1)
    → scaled ≡ clip (half +ℤ pos 2 *ℤ middle +ℤ pos 1) (pos 2 *ℤ low) (pos 2 *ℤ high +ℤ pos 1)
centered low high middle sum scaled part half e under over least most = omega (arith, ints, clamps, e, under, over, least, most)

-- the difference that leads to a scaled prediction does so
pub of_scaled : (k : SampleKind) (sum scaled part : ℤ) → IsScaled k scaled → part ≡ pos 2 *ℤ scaled -ℤ pos 2 -ℤ sum → scaled ≡ scaled_by_difference k part sum
of_scaled k sum scaled part h e =
    centered (smin k) (smax k) (smid k) sum scaled part (floor_div (part +ℤ (sum -ℤ pos 4 *ℤ smid k)) 2) e
    (floor_low (part +ℤ (sum -ℤ pos 4 *ℤ smid k)) 2 (omega arith)) (floor_high (part +ℤ (sum -ℤ pos 4 *ℤ smid k)) 2 (omega arith)) h.0 h.1

-- where nothing wraps, the rounded sum of the products leads to it
pub of_product : (p : Predictor) (k : SampleKind) (sum part : ℤ) (ws us : List ℤ)
    → wrapped p.register (inner_product ws us +ℤ pos (2 ^ p.omega) *ℤ (sum -ℤ pos 4 *ℤ smid k))
    ≡ inner_product ws us +ℤ pos (2 ^ p.omega) *ℤ (sum -ℤ pos 4 *ℤ smid k)
    → part ≡ floor_div (inner_product ws us) (2 ^ p.omega) → scaled_by p k sum ws us ≡ scaled_by_difference k part sum
unfolding scaled_by
of_product p k sum part ws us kept e = rw (kept, upper_part p.omega (inner_product ws us) (sum -ℤ pos 4 *ℤ smid k), e) refl
