-- Runs whose samples are known: a run begun, and its first places.
use Rattle.std.proofs.Common.{◌≡◌, ℕ, ◌+◌, ◌*◌, ◌^◌, ◌<◌, ◌≤◌, Bool, false, ℤ, List, take, slice_index_or, ap, ◌∙◌, subst, arith, inl, inr}
use Rattle.std.proofs.lemmas.Bool.{cases_eq}
use Rattle.header_bits.specs.declared.params.Params.{Params}
use Rattle.cube_core.specs.Image.{Image}
use Rattle.sample_prediction.specs.declared.predictor.Predictor.{Predictor}
use Rattle.predict_core.specs.declared.differences.room.Quad.{Quad}
use Rattle.predict_core.specs.declared.settings.Settings.{Settings}
use Rattle.sample_prediction.specs.Bounds.{AllWithin}
use Rattle.sample_prediction.specs.Chain.{AreWeightsAt}
use Rattle.sample_prediction.specs.Prediction.{weight_vector}
use Rattle.sample_prediction.specs.Residual.{run_residuals}
use Rattle.predict_core.specs.ImageRuns.{ImageRun, IsFirstLater}
use Rattle.predict_core.specs.RunChains.{CanFollow, CanPredict, IsFollowed, HasPredicted}
use Rattle.predict_core.specs.Rooms.{IsRoom, quads_of}
use Rattle.predict_core.proofs.WholeRuns.{started}

-- what is told of a run is told of its first places
pub first_of_run : (q n : ℕ) (wraps : Bool) (s : Settings) (c : Image) (y x count k : ℕ) (sums own : List ℤ) (quads : List Quad) → k ≤ count
    → CanFollow q n wraps s c y x count sums own quads → CanFollow q n wraps s c y x k sums own quads
first_of_run q n wraps s c y x count k sums own quads h run = record {
  few = run.few;
  enough = run.enough;
  needed = run.needed;
  register = run.register;
  place = run.place;
  columns = run.columns;
  kind = run.kind;
  within = omega (arith, run.within);
  inside = omega (arith, run.inside);
  room = record {
    sum = λ i l. run.room.sum i (omega arith);
    central = λ i l. run.room.central i (omega arith);
    vector = λ i l. run.room.vector i (omega arith);
    sum_least = λ i l. run.room.sum_least i (omega arith);
    sum_most = λ i l. run.room.sum_most i (omega arith);
    central_in = λ i l. run.room.central_in i (omega arith);
    vector_in = λ i l. run.room.vector_in i (omega arith);
  };
}

-- the weights at a run's first place are those at its first one that isn't the first of its band
pub at_first : (p : Params) (made : Predictor) (c : Image) (z y x first : ℕ) (ws : List ℤ) → IsFirstLater y x first
    → AreWeightsAt p made c z (y * c.shape.columns + x) ws → AreWeightsAt p made c z (y * c.shape.columns + (x + first)) ws
at_first p made c z y x first ws h f =
    elim (cases_eq first 1) [
      | inl e ↦ rw e (started p made c z y x ws (h.start e) f)
      | inr d ↦ subst (λ k. AreWeightsAt p made c z k ws) (same y c.shape.columns (omega (arith, d, h.most))) f
    ]
  where
    same : (y columns : ℕ) → first ≡ 0 → y * columns + x ≡ y * columns + (x + first)
    same y columns e = omega (arith, e)

-- a run is predicted where its chain was followed to its end and its residuals are written
pub predicted : (s : Settings) (c : Image) (y x first n : ℕ) (old ws new parts : List ℤ) (rs : List ℕ) → IsFirstLater y x first
    → IsFollowed s c y x first old n ws parts → AllWithin (2 ^ (s.predictor.omega + 2)) ws
    → ((i : ℕ) → i < n → slice_index_or rs i 0 < 2 ^ c.kind.bits)
    → ((p : Params) (begun ws : List ℤ) → AreWeightsAt p s.predictor c s.band (y * c.shape.columns + x) (take s.count begun)
    → IsFollowed s c y x first begun n ws parts → take n rs ≡ run_residuals p c s.band (y * c.shape.columns + x) n)
    → new ≡ ws → HasPredicted s c y x n old new rs
predicted s c y x first n old ws new parts rs at followed within bound written same = rw same (record {
  bound = bound;
  residuals = λ p f. written p old ws f followed;
  weights = λ p f. followed.weights p (at_first p s.predictor c s.band y x first (take s.count old) at f)
      ∙ ap (weight_vector p c s.band) (place y c.shape.columns);
  within = within;
})
  where
    place : (y columns : ℕ) → y * columns + (x + n) ≡ y * columns + x + n
    place y columns = omega arith

-- what a chain needs, of what is known before a run
pub can_follow : (q n : ℕ) (wraps : Bool) (s : Settings) (r : ImageRun) (ws sums own : List ℤ) (quads : List Quad) → n ≤ 18 → s.count ≤ n
    → q ≡ quads_of s.count → (wraps ≡ false → 46 ≤ s.predictor.register) → CanPredict s r ws
    → IsRoom s.predictor r.image s.band r.y r.x r.count s.count sums own quads → CanFollow q n wraps s r.image r.y r.x r.count sums own quads
can_follow q n wraps s r ws sums own quads few enough needed register can room = record {
  few = few;
  enough = enough;
  needed = needed;
  register = register;
  place = can.run.place;
  columns = can.columns;
  kind = can.kind;
  within = can.run.few;
  inside = can.run.inside;
  room = room;
}
