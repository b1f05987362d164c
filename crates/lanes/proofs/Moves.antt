-- Lanes of two vectors side by side, moved.
use Rattle.std.proofs.Common.{◌+◌, ◌-◌, ◌<◌, ◌≤◌, ◌≡◌, refl, arith, List, ℕ, ℤ, ◌∷◌, ◌++◌, [], get_or, map, length, ◌∙◌, to_z, of_z, SFits}
use mir.Syntax.{Width}
use Rattle.lanes.specs.Lanes.{lane}
use Rattle.lanes.proofs.Steps.{eight, picked, picked_beyond}

-- eight places side by side, `by` before the second vector
abbrev pub AreFrom : ℕ → List ℕ → Type 0
AreFrom by places = (k : ℕ) → k < 8 → get_or places k 0 ≡ 8 - by + k

pub from_1 : AreFrom 1 (7 ∷ 8 ∷ 9 ∷ 10 ∷ 11 ∷ 12 ∷ 13 ∷ 14 ∷ [])
from_1 = eight (λ j. get_or (7 ∷ 8 ∷ 9 ∷ 10 ∷ 11 ∷ 12 ∷ 13 ∷ 14 ∷ []) j 0 ≡ 8 - 1 + j) refl refl refl refl refl refl refl refl

pub from_2 : AreFrom 2 (6 ∷ 7 ∷ 8 ∷ 9 ∷ 10 ∷ 11 ∷ 12 ∷ 13 ∷ [])
from_2 = eight (λ j. get_or (6 ∷ 7 ∷ 8 ∷ 9 ∷ 10 ∷ 11 ∷ 12 ∷ 13 ∷ []) j 0 ≡ 8 - 2 + j) refl refl refl refl refl refl refl refl

pub from_3 : AreFrom 3 (5 ∷ 6 ∷ 7 ∷ 8 ∷ 9 ∷ 10 ∷ 11 ∷ 12 ∷ [])
from_3 = eight (λ j. get_or (5 ∷ 6 ∷ 7 ∷ 8 ∷ 9 ∷ 10 ∷ 11 ∷ 12 ∷ []) j 0 ≡ 8 - 3 + j) refl refl refl refl refl refl refl refl

pub from_4 : AreFrom 4 (4 ∷ 5 ∷ 6 ∷ 7 ∷ 8 ∷ 9 ∷ 10 ∷ 11 ∷ [])
from_4 = eight (λ j. get_or (4 ∷ 5 ∷ 6 ∷ 7 ∷ 8 ∷ 9 ∷ 10 ∷ 11 ∷ []) j 0 ≡ 8 - 4 + j) refl refl refl refl refl refl refl refl

pub from_5 : AreFrom 5 (3 ∷ 4 ∷ 5 ∷ 6 ∷ 7 ∷ 8 ∷ 9 ∷ 10 ∷ [])
from_5 = eight (λ j. get_or (3 ∷ 4 ∷ 5 ∷ 6 ∷ 7 ∷ 8 ∷ 9 ∷ 10 ∷ []) j 0 ≡ 8 - 5 + j) refl refl refl refl refl refl refl refl

pub from_6 : AreFrom 6 (2 ∷ 3 ∷ 4 ∷ 5 ∷ 6 ∷ 7 ∷ 8 ∷ 9 ∷ [])
from_6 = eight (λ j. get_or (2 ∷ 3 ∷ 4 ∷ 5 ∷ 6 ∷ 7 ∷ 8 ∷ 9 ∷ []) j 0 ≡ 8 - 6 + j) refl refl refl refl refl refl refl refl

pub from_7 : AreFrom 7 (1 ∷ 2 ∷ 3 ∷ 4 ∷ 5 ∷ 6 ∷ 7 ∷ 8 ∷ [])
from_7 = eight (λ j. get_or (1 ∷ 2 ∷ 3 ∷ 4 ∷ 5 ∷ 6 ∷ 7 ∷ 8 ∷ []) j 0 ≡ 8 - 7 + j) refl refl refl refl refl refl refl refl

-- the last lanes of the first vector, and the first ones of the second
module _ (w : Width) (a b : List ℤ) (places : List ℕ) (by k : ℕ) (from : AreFrom by places) (most : by ≤ 7) (long : length places ≡ 8) where
  abbrev pub moved_lanes : List ℤ
  moved_lanes = map (λ j. to_z w (get_or (map (of_z w) a ++ map (of_z w) b) j 0)) places

  pub moved_low : length a ≡ 8 → ((k : ℕ) → SFits w (lane a k)) → k < by → lane moved_lanes k ≡ lane a (8 + k - by)
  moved_low l fits h = picked w a b places 8 k (8 + k - by) l fits (omega (arith, long, h, most)) (from k (omega (arith, h, most)) ∙ (omega (arith, h, most))) (omega (arith, h))

  pub moved_high : length a ≡ 8 → length b ≡ 8 → ((k : ℕ) → SFits w (lane b k)) → by ≤ k → k < 8 → lane moved_lanes k ≡ lane b (k - by)
  moved_high l m fits low h = picked_beyond w a b places 8 k (k - by) l m fits (omega (arith, long, h)) (from k h ∙ (omega (arith, low, most))) (omega (arith, h))
