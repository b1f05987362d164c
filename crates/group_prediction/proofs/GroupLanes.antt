-- One place of a band's chain in its lane.
use Rattle.std.proofs.Common.{◌≡◌, ℕ, ◌+◌, ◌*◌, ◌^◌, ◌<◌, ◌≤◌, ℤ, int_le, unsigned_abs, List, length, take, set, arith, inr}
use Rattle.std.proofs.lemmas.List.{map-set}
use Rattle.cube_core.specs.Image.{Image, IsPlace}
use Rattle.header_bits.specs.declared.params.Params.{Params}
use Rattle.lanes.specs.Lanes.{lane, held}
use Rattle.band_lanes.specs.declared.pairs.Pairs.{Pairs}
use Rattle.band_lanes.specs.Rows.{numbers_of, components_of}
use Rattle.predict_core.specs.declared.settings.Settings.{Settings}
use Rattle.group_prediction.specs.GroupLanes.{IsLane}
use Rattle.predict_core.specs.RunChains.{IsFollowed, AreStepsThere}
use Rattle.sample_prediction.specs.Arithmetic.{floor_div}
use Rattle.sample_prediction.specs.Bounds.{AllWithin}
use Rattle.sample_prediction.specs.Chain.{AreWeightsAt, scaled_by_difference}
use Rattle.sample_prediction.specs.Differences.{central_difference}
use Rattle.sample_prediction.specs.LocalSum.{local_sum}
use Rattle.sample_prediction.specs.Prediction.{inner_product, scaled_there, scaled_prediction, next_weights}
use Rattle.sample_prediction.specs.Weights.{step_exponent, updated_weights}
use Rattle.predict_core.proofs.LanePlaces.{place_scaled, place_next}
use Rattle.predict_core.proofs.Runs.{written_place, weights_next, part_is}

-- ---- updated weights

module _ (q b : ℕ) (s : Settings) (c : Image) (y x count i : ℕ) (own : List (List ℤ)) (pairs : List Pairs) (there : IsLane q b s c y x count own pairs)
    (inside : i < count) (later : 0 < y + (x + i)) (ws : List ℤ) (long : length ws ≡ 2 * q) (within : AllWithin (2 ^ (s.predictor.omega + 2)) ws) (part : ℤ)
    (part_held : part ≡ held (floor_div (inner_product ws (components_of q b pairs i)) (2 ^ s.predictor.omega))) where
  place : IsPlace c.shape s.band y (x + i)
  place = record { band = there.place.band; row = there.place.row; column = (let h = there.inside in omega (arith, inside, h)) }

  -- the scaled prediction comes from the part
  lane_scaled : scaled_there s.predictor c s.band y (x + i) (take s.count ws) ≡ scaled_by_difference c.kind part (local_sum s.predictor c s.band y (x + i))
  lane_scaled =
      place_scaled q s c y (x + i) there.cube place later there.columns there.enough there.register (components_of q b pairs i) (there.vector i inside later)
      ws long within part (inr (there.bits, part_held))

  -- and so do the next weights
  lane_next : (new : List ℤ) (omega : ℕ) (exponent at : ℤ) → omega ≡ s.predictor.omega
      → exponent ≡ step_exponent s.predictor c.shape.columns c.kind.bits (y * c.shape.columns + (x + i))
      → at ≡ central_difference s.predictor c s.band y (x + i)
      → new ≡ updated_weights omega exponent (int_le at part) ws (components_of q b pairs i)
      → take s.count new ≡ next_weights s.predictor c s.band (y * c.shape.columns + (x + i)) (take s.count ws)
  lane_next =
      place_next q s c y (x + i) there.cube place later there.columns there.enough there.register (components_of q b pairs i) (there.vector i inside later)
      ws long within part (inr (there.bits, part_held))

  -- one place more
  pub lane_followed : (new parts : List ℤ) (omega bits start : ℕ) (begun : List ℤ) (exponent at : ℤ) → i < length parts
      → AreStepsThere s c omega bits exponent y (x + i) → at ≡ central_difference s.predictor c s.band y (x + i)
      → unsigned_abs part ≤ 18 * 2 ^ 20 → new ≡ updated_weights omega exponent (int_le at part) ws (components_of q b pairs i)
      → IsFollowed s c y x start begun i ws parts → IsFollowed s c y x start begun (i + 1) new (set parts i part)
  lane_followed new parts fraction bits start begun exponent at fits steps own_is size e h = record {
    weights = λ p f. weights_next p s.predictor c s.band y x i (take s.count ws) later place.column (weights_there p f) (take s.count new)
        (lane_next new fraction exponent at steps.omega_is steps.exponent_is own_is e);
    predicted = λ p f. written_place (λ k v. scaled_prediction p c s.band (y * c.shape.columns + (x + k))
        ≡ scaled_by_difference c.kind v (local_sum s.predictor c s.band y (x + k))) start i parts part fits
        (part_is_at p f) (h.predicted p f);
    small = written_place (λ k v. unsigned_abs v ≤ 18 * 2 ^ 20) start i parts part fits size h.small;
  }
    where
      weights_there : (p : Params) → AreWeightsAt p s.predictor c s.band (y * c.shape.columns + (x + start)) (take s.count begun)
          → AreWeightsAt p s.predictor c s.band (y * c.shape.columns + (x + i)) (take s.count ws)
      weights_there p f = record { predictor = f.predictor; weights = h.weights p f }

      part_is_at : (p : Params) → AreWeightsAt p s.predictor c s.band (y * c.shape.columns + (x + start)) (take s.count begun)
          → scaled_prediction p c s.band (y * c.shape.columns + (x + i)) ≡ scaled_by_difference c.kind part (local_sum s.predictor c s.band y (x + i))
      part_is_at p f = part_is p s.predictor c s.band y x i (take s.count ws) later place.column (weights_there p f) part lane_scaled

-- the numbers of a band in rows of which one is written
pub numbers_written : (b : ℕ) (rows : List (List ℤ)) (i : ℕ) (row : List ℤ) → numbers_of b (set rows i row) ≡ set (numbers_of b rows) i (lane row b)
numbers_written b rows i row = map-set (λ r. lane r b) rows i row

-- what a lane holds of a piece it holds of its first places
pub lane_first : (q b : ℕ) (s : Settings) (c : Image) (y x count k : ℕ) (own : List (List ℤ)) (pairs : List Pairs) → k ≤ count
    → IsLane q b s c y x count own pairs → IsLane q b s c y x k own pairs
lane_first q b s c y x count k own pairs h l = record {
  cube = l.cube;
  place = l.place;
  columns = l.columns;
  kind = l.kind;
  inside = (let e = l.inside in omega (arith, e, h));
  few = l.few;
  enough = l.enough;
  register = l.register;
  omega_in = l.omega_in;
  bits = l.bits;
  central = λ i m. l.central i (omega (arith, m, h));
  vector = λ i m. l.vector i (omega (arith, m, h));
}
