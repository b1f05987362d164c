-- The weights that a band starts from, written one after another.
use Rattle.std.proofs.Common.{◌≡◌, ◌+◌, ◌-◌, ◌*◌, ◌^◌, ◌<◌, ◌≤◌, ℕ, zero, suc, ℤ, pos, unsigned_abs, SFits, w32, true, false, List, ◌++◌, length, take}
use Rattle.std.proofs.Common.{inl, inr, drop, set, replicate, arith, refl, ◌∙◌, sym, ap, add-one, append_assoc, append-nil, pow_mono, to_z, ◌%◌, if◌then◌else◌}
use Rattle.std.proofs.Math.Seq.{take-suc-set}
use Rattle.std.proofs.Math.Pow.{pow-add}
use Rattle.std.proofs.lemmas.List.{take-replicate, take-append-drop}
use Rattle.std.proofs.lemmas.Bool.{cases_Bool}
use Rattle.std.proofs.lemmas.Int.{to_z_pos, fits_signed_from_abs}
use Rattle.header_bits.specs.declared.params.Params.{Params}
use Rattle.header_bits.specs.declared.params.WeightStart.TheVariants.{Usual}
use Rattle.cube_core.specs.Image.{Image}
use Rattle.sample_prediction.specs.declared.predictor.Predictor.{Predictor}
use Rattle.sample_prediction.specs.Predictor.{predictor_of, previous_bands, component_count}
use Rattle.sample_prediction.specs.Arithmetic.{floor_div}
use Rattle.sample_prediction.specs.Weights.{eighths, default_weights, weights_by, start_weights}
use Rattle.sample_prediction.specs.Prediction.{weight_vector}
use Rattle.sample_prediction.proofs.Directions.{reduced_count, full_count, heads_taken}
use Rattle.sample_prediction.proofs.Scaled.{halved_shrinks}
use Rattle.sample_prediction.proofs.Wrapping.{remainder_is}

pub eighths_length : (w : ℤ) (n : ℕ) → length (eighths w n) ≡ n
unfolding eighths
eighths_length w zero = refl
eighths_length w (suc n) = ap suc (eighths_length (floor_div w 8) n)

-- one weight moves from what is left to what is written
pub eighths_next : (w v : ℤ) (i n : ℕ) (ws all : List ℤ) → i < length ws → 0 < n → v ≡ floor_div w 8 → take i ws ++ eighths w n ≡ all
    → take (i + 1) (set ws i w) ++ eighths v (n - 1) ≡ all
unfolding eighths
eighths_next w v i zero ws all l h e a = absurd (omega arith)
eighths_next w v i (suc n) ws all l h e a = let s : suc n - 1 ≡ n = omega arith in rw (add-one, take-suc-set ws i w l, s, e, append_assoc) a

pub eighths_last : (w : ℤ) (i n m : ℕ) (ws all rest : List ℤ) → n ≡ 0 → take i ws ++ eighths w n ≡ all → drop i ws ≡ rest → ws ≡ all ++ rest
unfolding eighths
eighths_last w i n m ws all rest h a d = let b : take i ws ≡ all = sym (append-nil (take i ws)) ∙ (rw h at a) in sym (take-append-drop i ws) ∙ rw (b, d) refl

pub shrinks_small : (w : ℤ) → unsigned_abs w ≤ 2 ^ 20 → SFits w32 (floor_div w 8) × (unsigned_abs (floor_div w 8) ≤ 2 ^ 20)
shrinks_small w h = (fits_signed_from_abs w32 (floor_div w 8) (omega (arith, halved_shrinks w 8)), omega (arith, halved_shrinks w 8))

module _ (made : Predictor) (z : ℕ) (weights : List ℤ) where
  reduced_usual : made.reduced ≡ true → default_weights made z ≡ eighths (pos (7 * 2 ^ (made.omega - 3))) (previous_bands made z)
  unfolding default_weights
  reduced_usual h = rw h refl

  full_usual : made.reduced ≡ false → default_weights made z ≡ replicate 3 (pos 0) ++ eighths (pos (7 * 2 ^ (made.omega - 3))) (previous_bands made z)
  unfolding default_weights
  full_usual h = rw h refl

  pub reduced_start : made.reduced ≡ true → (k : ℕ)
      → weights ≡ replicate 0 (pos 0) ++ eighths (pos (7 * 2 ^ (made.omega - 3))) (previous_bands made z) ++ replicate k (pos 0)
      → take (component_count made z) weights ≡ default_weights made z
  reduced_start h k e =
      let n = eighths_length (pos (7 * 2 ^ (made.omega - 3))) (previous_bands made z) in
      let t : take (previous_bands made z) weights ≡ eighths (pos (7 * 2 ^ (made.omega - 3))) (previous_bands made z) =
      rw e (heads_taken (eighths (pos (7 * 2 ^ (made.omega - 3))) (previous_bands made z)) (replicate k (pos 0)) (previous_bands made z) n) in
      ap (λ j. take j weights) (reduced_count made z h) ∙ t ∙ sym (reduced_usual h)

  pub full_start : made.reduced ≡ false → (k : ℕ)
      → weights ≡ replicate 3 (pos 0) ++ eighths (pos (7 * 2 ^ (made.omega - 3))) (previous_bands made z) ++ replicate k (pos 0)
      → take (component_count made z) weights ≡ default_weights made z
  full_start h k e =
      let n = eighths_length (pos (7 * 2 ^ (made.omega - 3))) (previous_bands made z) in
      let l : length (replicate 3 (pos 0) ++ eighths (pos (7 * 2 ^ (made.omega - 3))) (previous_bands made z)) ≡ 3 + previous_bands made z =
      omega (arith, n) in
      let t : take (3 + previous_bands made z) weights ≡ replicate 3 (pos 0) ++ eighths (pos (7 * 2 ^ (made.omega - 3))) (previous_bands made z) =
      rw e (heads_taken (replicate 3 (pos 0) ++ eighths (pos (7 * 2 ^ (made.omega - 3))) (previous_bands made z)) (replicate k (pos 0))
      (3 + previous_bands made z) l) in
      ap (λ j. take j weights) (full_count made z h) ∙ t ∙ sym (full_usual h)

  pub start_is : (first k : ℕ) → first ≡ (if made.reduced then 0 else 3)
      → weights ≡ replicate first (pos 0) ++ eighths (pos (7 * 2 ^ (made.omega - 3))) (previous_bands made z) ++ replicate k (pos 0)
      → take (first + previous_bands made z) weights ≡ default_weights made z
  start_is first k f e =
      elim (cases_Bool made.reduced) [
        | inl h ↦ (let none : first ≡ 0 = grind (arith, f) in
            ap (λ j. take j weights) (omega (arith, none, reduced_count made z h)) ∙ reduced_start h k (rw none at e))
        | inr h ↦ (let three : first ≡ 3 = grind (arith, f) in
            ap (λ j. take j weights) (omega (arith, three, full_count made z h)) ∙ full_start h k (rw three at e))
      ]

pub count_is : (made : Predictor) (z first : ℕ) → first ≡ (if made.reduced then 0 else 3) → first + previous_bands made z ≡ component_count made z
count_is made z first f =
    elim (cases_Bool made.reduced) [
      | inl h ↦ (let n : first ≡ 0 = grind (arith, f) in omega (arith, n, reduced_count made z h))
      | inr h ↦ (let n : first ≡ 3 = grind (arith, f) in omega (arith, n, full_count made z h))
    ]

-- the first weight, as the code computes it
pub seven_fits : (k : ℕ) → k ≤ 16 → 7 * 2 ^ k ≤ 458752
seven_fits k h = let p : 2 ^ k ≤ 2 ^ 16 = pow_mono h in omega (arith, p)

first_weight : (k : ℕ) → k ≤ 16 → to_z w32 ((7 * 2 ^ k) % 2 ^ 32) ≡ pos (7 * 2 ^ k)
first_weight k h =
    let s = seven_fits k h in
    rw (remainder_is (7 * 2 ^ k) (2 ^ 32) 0 (7 * 2 ^ k) (omega (arith, s)) (omega arith)) (to_z_pos w32 (7 * 2 ^ k) (omega (arith, s)))

module _ (fraction first count : ℕ) (least : 4 ≤ fraction) (most : fraction ≤ 19) (room : first + count ≤ 18) where
  pub begun_first : take (first + 0) (replicate 18 (pos 0)) ++ eighths (to_z w32 ((7 * 2 ^ (fraction - 3)) % 2 ^ 32)) (count - 0)
      ≡ replicate first (pos 0) ++ eighths (pos (7 * 2 ^ (fraction - 3))) count
  begun_first =
      let a : first + 0 ≡ first = omega arith in let b : count - 0 ≡ count = omega arith in rw (a, b, first_weight (fraction - 3) (omega arith))
      (ap (λ xs. xs ++ eighths (pos (7 * 2 ^ (fraction - 3))) count) (take-replicate first 18 (pos 0) (omega arith)))

  pub small_first : unsigned_abs (to_z w32 ((7 * 2 ^ (fraction - 3)) % 2 ^ 32)) ≤ 1048576
  small_first = let s = seven_fits (fraction - 3) (omega arith) in rw (first_weight (fraction - 3) (omega arith)) (omega (arith, s))

pub begun_within : (fraction : ℕ) → 4 ≤ fraction → fraction ≤ 19 → unsigned_abs (to_z w32 ((7 * 2 ^ (fraction - 3)) % 2 ^ 32)) ≤ 2 ^ (fraction + 2)
begun_within fraction least most =
    let e : (fraction - 3) + 5 ≡ fraction + 2 = omega arith in
    let power : 2 ^ (fraction + 2) ≡ 2 ^ (fraction - 3) * 2 ^ 5 = ap (λ k. 2 ^ k) (sym e) ∙ pow-add 2 (fraction - 3) 5 in
    rw (first_weight (fraction - 3) (omega arith)) (omega (arith, power))

-- the weights that a band starts from are those at its first place
pub start_told : (p : Params) (c : Image) (z : ℕ) (weights : List ℤ) (n : ℕ) → take n weights ≡ start_weights p z → take n weights ≡ weight_vector p c z 0
unfolding weight_vector
start_told p c z weights n e = e

-- the usual weights are those that the parameters tell
pub default_told : (p : Params) (z : ℕ) → p.start ≡ Usual → (first near : ℕ) (weights : List ℤ) → first ≡ (if p.reduced then 0 else 3)
    → near ≡ previous_bands (predictor_of p) z
    → weights ≡ replicate first (pos 0) ++ eighths (pos (7 * 2 ^ (p.omega - 3))) near ++ replicate (18 - first - near) (pos 0)
    → take (first + near) weights ≡ start_weights p z
unfolding weights_by
default_told p z usual first near weights f n e =
    rw (n, usual) (start_is (predictor_of p) z weights first (18 - first - previous_bands (predictor_of p) z) f (rw n at e))
