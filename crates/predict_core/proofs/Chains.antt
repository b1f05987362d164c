-- One place of a run's chain, in a room whose rest is 0.
use Rattle.std.proofs.Common.{◌≡◌, ℕ, ◌+◌, ◌-◌, ◌*◌, ◌≤◌, ℤ, pos, ◌-ℤ◌, ◌*ℤ◌, int_lt, int_le, List, length, take, ◌++◌, replicate, refl, sym, ap, ◌∙◌, arith}
use Rattle.cube_core.specs.Kind.{IsSample}
use Rattle.cube_core.specs.Image.{Image, IsCube, IsPlace}
use Rattle.sample_prediction.specs.Chain.{scaled_by_difference}
use Rattle.sample_prediction.specs.declared.predictor.Predictor.{Predictor}
use Rattle.sample_prediction.specs.Predictor.{component_count}
use Rattle.sample_prediction.specs.LocalSum.{local_sum}
use Rattle.sample_prediction.specs.Differences.{central_difference, difference_vector}
use Rattle.sample_prediction.specs.Weights.{step_exponent, updated_weights}
use Rattle.sample_prediction.specs.Prediction.{inner_product, scaled_by, scaled_there, next_weights}
use Rattle.predict_core.proofs.Links.{sign_by_difference, next_by_difference}
use Rattle.sample_prediction.proofs.Padding.{vector_length}
use Rattle.sample_prediction.proofs.Prefixes.{product_in_use, update_in_use}

-- a scaled prediction depends on the sum of the products alone
scaled_of_product : (q : Predictor) (c : Image) (sum : ℤ) (ws us vs xs : List ℤ) → inner_product ws us ≡ inner_product vs xs
    → scaled_by q c.kind sum ws us ≡ scaled_by q c.kind sum vs xs
unfolding scaled_by
scaled_of_product q c sum ws us vs xs e = rw e refl

-- n weights of a room are in use, of m that are reckoned with, by which the scaled prediction comes from a difference
module _ (q : Predictor) (c : Image) (z y x n m : ℕ) (room differences : List ℤ) (cube : IsCube c) (place : IsPlace c.shape z y x)
    (count : n ≡ component_count q z) (enough : n ≤ m) (fits : m ≤ 18) (same : differences ≡ difference_vector q c z y x ++ replicate (18 - n) (pos 0))
    (part : ℤ) (scaled : scaled_by q c.kind (local_sum q c z y x) (take m room) (take m differences)
    ≡ scaled_by_difference c.kind part (local_sum q c z y x)) where
  long : length (difference_vector q c z y x) ≡ n
  long = vector_length q c z y x ∙ sym count

  product : inner_product (take m room) (take m differences) ≡ inner_product (take n room) (difference_vector q c z y x)
  product = product_in_use room (difference_vector q c z y x) n m (18 - n) (inner_product (take m room) (take m differences)) long enough (omega arith)
      (ap (λ us. inner_product (take m room) (take m us)) same)

  pub scaled_from_room : scaled_there q c z y x (take n room) ≡ scaled_by_difference c.kind part (local_sum q c z y x)
  unfolding scaled_there
  scaled_from_room =
      sym (scaled_of_product q c (local_sum q c z y x) (take m room) (take m differences) (take n room) (difference_vector q c z y x) product) ∙ scaled

  moved : (new : List ℤ) (own exponent : ℤ) → take m new ≡ updated_weights q.omega exponent (int_le own part) (take m room) (take m differences)
      → take n new ≡ updated_weights q.omega exponent (int_le own part) (take n room) (difference_vector q c z y x)
  moved new own exponent h =
      update_in_use q.omega exponent (int_le own part) room (difference_vector q c z y x) new n m (18 - n) long enough (omega arith)
      (h ∙ ap (λ us. updated_weights q.omega exponent (int_le own part) (take m room) (take m us)) same)

  pub next_from_room : (new : List ℤ) (own exponent : ℤ) → own ≡ central_difference q c z y x
      → exponent ≡ step_exponent q c.shape.columns c.kind.bits (y * c.shape.columns + x)
      → take m new ≡ updated_weights q.omega exponent (int_le own part) (take m room) (take m differences)
      → take n new ≡ next_weights q c z (y * c.shape.columns + x) (take n room)
  next_from_room new own exponent a b h =
      next_by_difference q c z y x (take n room) cube place (take n new) own part a scaled_from_room
      (moved new own exponent h ∙ ap (λ t. updated_weights q.omega t (int_le own part) (take n room) (difference_vector q c z y x)) b)

  -- the same of a sample that is found by its residual
  pub moved_from_room : (new : List ℤ) (sample own exponent : ℤ) → IsSample c.kind sample → own ≡ pos 4 *ℤ sample -ℤ local_sum q c z y x
      → exponent ≡ step_exponent q c.shape.columns c.kind.bits (y * c.shape.columns + x)
      → take m new ≡ updated_weights q.omega exponent (int_le own part) (take m room) (take m differences)
      → take n new ≡ updated_weights q.omega (step_exponent q c.shape.columns c.kind.bits
      (y * c.shape.columns + x)) (int_lt (pos 2 *ℤ sample -ℤ scaled_there q c z y x (take n room)) (pos 0)) (take n room) (difference_vector q c z y x)
  moved_from_room new sample own exponent h a b u =
      let sign = sign_by_difference c.kind (local_sum q c z y x) sample part (scaled_there q c z y x (take n room)) h scaled_from_room in
      moved new own exponent u ∙ rw (a, b, sign) refl
