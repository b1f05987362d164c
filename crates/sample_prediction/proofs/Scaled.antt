-- The scaled prediction from its parts.
use Rattle.std.proofs.Common.{◌≡◌, ◌+◌, ◌-◌, ◌/◌, ◌^◌, ◌≤◌, ℕ, ℤ, pos, negsuc, ◌+ℤ◌, ◌-ℤ◌, ◌*ℤ◌, unsigned_abs, List, arith, refl, ◌∙◌, SFits, w64, subst}
use Rattle.std.proofs.Math.Nat.{div-le_self}
use Rattle.std.proofs.lemmas.Nat.{shr-shr, shr_le}
use Rattle.cube_core.specs.Kind.{SampleKind, smid, smin, smax}
use Rattle.sample_prediction.specs.declared.predictor.Predictor.{Predictor}
use Rattle.sample_prediction.specs.Arithmetic.{wrapped, floor_div, clip}
use Rattle.sample_prediction.specs.Prediction.{inner_product, scaled_by}
use Rattle.sample_prediction.specs.Weights.{growth, step_exponent}

pub scaled_is : (p : Predictor) (k : SampleKind) (sum : ℤ) (ws us : List ℤ) (product register upper middle low high r : ℤ)
    → product ≡ inner_product ws us → middle ≡ smid k → register ≡ wrapped p.register (product +ℤ pos (2 ^ p.omega) *ℤ (sum -ℤ pos 4 *ℤ middle))
    → upper ≡ floor_div register (2 ^ (p.omega + 1)) → low ≡ smin k → high ≡ smax k
    → r ≡ clip (upper +ℤ pos 2 *ℤ middle +ℤ pos 1) (pos 2 *ℤ low) (pos 2 *ℤ high +ℤ pos 1) → r ≡ scaled_by p k sum ws us
unfolding scaled_by
scaled_is p k sum ws us product register upper middle low high r a b d e f g h = h ∙ rw (e, d, a, b, f, g) refl

half_of : (a k : ℕ) → 1 ≤ k → a / 2 ^ k ≤ a / 2
half_of a k h =
    let e : 1 + (k - 1) ≡ k = omega arith in subst (λ j. a / 2 ^ j ≤ a / 2) e (subst (λ q. q ≤ a / 2) (shr-shr a 1 (k - 1)) (shr_le (a / 2) (k - 1)))

pub halved_bound : (v : ℤ) (by : ℕ) → SFits w64 v → 1 ≤ by → unsigned_abs (floor_div v (2 ^ by)) ≤ 2 ^ 62
halved_bound (pos a) by f h = omega (arith, half_of a by h, f.sfits)
halved_bound (negsuc a) by f h = omega (arith, half_of a by h, f.sfits)

pub growth_is : (p : Predictor) (columns t : ℕ) (intervals r : ℤ) → intervals ≡ floor_div (pos t -ℤ pos columns) (2 ^ p.interval_log)
    → r ≡ clip (p.vmin +ℤ intervals) p.vmin p.vmax → r ≡ growth p columns t
unfolding growth
growth_is p columns t intervals r a b = b ∙ rw a refl

pub exponent_is : (p : Predictor) (columns bits t : ℕ) (grown r : ℤ) → grown ≡ growth p columns t → r ≡ grown +ℤ pos bits -ℤ pos p.omega
    → r ≡ step_exponent p columns bits t
unfolding step_exponent
exponent_is p columns bits t grown r a e = e ∙ rw a refl

pub halved_shrinks : (v : ℤ) (d : ℕ) → unsigned_abs (floor_div v d) ≤ unsigned_abs v
halved_shrinks (pos a) d = div-le_self a d
halved_shrinks (negsuc a) d = omega (arith, div-le_self a d)
