-- Differences written one after another into a fixed room whose rest is 0.
use Rattle.std.proofs.Common.{◌≡◌, ◌+◌, ◌-◌, ◌<◌, ℕ, zero, suc, ℤ, pos, List, [], ◌∷◌, ◌++◌, length, take, drop, set, replicate, arith, refl, ◌∙◌, sym, add-one}
use Rattle.std.proofs.Common.{append_assoc, append-nil, length-append}
use Rattle.std.proofs.Math.Seq.{set-append_seam}
use Rattle.std.proofs.lemmas.List.{take-append-drop}
use Rattle.cube_core.specs.Image.{Image}
use Rattle.sample_prediction.specs.declared.predictor.Predictor.{Predictor}
use Rattle.sample_prediction.specs.Differences.{central_difference, spectral_differences}

pub spectral_length : (p : Predictor) (c : Image) (z y x n : ℕ) → length (spectral_differences p c z y x n) ≡ n
unfolding spectral_differences
spectral_length p c z y x zero = refl
spectral_length p c z y x (suc n) =
    let e = spectral_length p c z y x n in length-append (spectral_differences p c z y x n) (central_difference p c (z - suc n) y x ∷ []) ∙ omega (arith, e)

pub spectral_next : (p : Predictor) (c : Image) (z y x n : ℕ)
    → spectral_differences p c z y x (n + 1) ≡ spectral_differences p c z y x n ++ central_difference p c (z - 1 - n) y x ∷ []
unfolding spectral_differences
spectral_next p c z y x n = let s : z - 1 - n ≡ z - suc n = omega arith in rw (add-one, s) refl

-- the first place of the rest is written
written : (heads middle : List ℤ) (m i : ℕ) (v : ℤ) → i ≡ length (heads ++ middle) → 0 < m
    → set (heads ++ middle ++ replicate m (pos 0)) i v ≡ heads ++ (middle ++ v ∷ []) ++ replicate (m - 1) (pos 0)
written heads middle zero i v e h = absurd (omega arith)
written heads middle (suc m) i v e h =
    let s : suc m - 1 ≡ m = omega arith in rw (e, s) (set-append_seam (heads ++ middle) (pos 0) (replicate m (pos 0)) v ∙ joined)
  where
    joined : (heads ++ middle) ++ (v ∷ replicate m (pos 0)) ≡ heads ++ (middle ++ v ∷ []) ++ replicate m (pos 0)
    joined = simp append_assoc

pub filled_next : (p : Predictor) (c : Image) (z y x first i : ℕ) (heads out : List ℤ) (v : ℤ) → first ≡ length heads → first + i < 18
    → v ≡ central_difference p c (z - 1 - i) y x
    → out ≡ heads ++ spectral_differences p c z y x i ++ replicate (18 - first - i) (pos 0)
    → set out (first + i) v ≡ heads ++ spectral_differences p c z y x (i + 1) ++ replicate (18 - first - (i + 1)) (pos 0)
filled_next p c z y x first i heads out v a b d e =
    let n : first + i ≡ length (heads ++ spectral_differences p c z y x i) =
    omega (arith, length-append heads (spectral_differences p c z y x i), spectral_length p c z y x i) in
    let m : 18 - first - i - 1 ≡ 18 - first - (i + 1) = omega arith in
    rw (spectral_next p c z y x i, ← d, e, ← m) (written heads (spectral_differences p c z y x i) (18 - first - i) (first + i) v n (omega arith))

pub filled_none : (p : Predictor) (c : Image) (z y x first : ℕ) (out : List ℤ) → drop first out ≡ replicate (18 - first) (pos 0)
    → out ≡ take first out ++ spectral_differences p c z y x 0 ++ replicate (18 - first - 0) (pos 0)
unfolding spectral_differences
filled_none p c z y x first out h = let e : 18 - first - 0 ≡ 18 - first = omega arith in rw (e, append-nil, ← h) (sym (take-append-drop first out))
