-- What a band has after a piece that it went in a lane.
use Rattle.std.proofs.Common.{◌≡◌, ℕ, ◌+◌, ◌*◌, ◌^◌, ◌<◌, ◌≤◌, ℤ, List, take, get_or, sym, ap, ap₂, ◌∙◌, subst, arith}
use Rattle.std.proofs.lemmas.List.{take-take}
use Rattle.header_bits.specs.declared.params.Params.{Params}
use Rattle.cube_core.specs.Image.{Image}
use Rattle.predict_core.specs.Following.{PredictorState, Follows, MovesBy, HoldsPiece}
use Rattle.predict_core.specs.declared.settings.Settings.{Settings}
use Rattle.sample_prediction.specs.Bounds.{AllWithin}
use Rattle.sample_prediction.specs.Chain.{AreWeightsAt}
use Rattle.sample_prediction.specs.Prediction.{weight_vector}
use Rattle.sample_prediction.specs.Residual.{run_residuals}
use Rattle.predict_core.specs.ImageRuns.{IsFirstLater}
use Rattle.predict_core.specs.RunChains.{IsFollowed, HasPredicted}
use Rattle.predict_core.proofs.RunChains.{at_first}

pub group_predicted : (s : Settings) (c : Image) (y x first n m : ℕ) (old begun ws new parts : List ℤ) (rs : List ℕ) → IsFirstLater y x first
    → take s.count begun ≡ take s.count old → IsFollowed s c y x first begun n ws parts → take m new ≡ ws → s.count ≤ m
    → AllWithin (2 ^ (s.predictor.omega + 2)) new
    → ((i : ℕ) → i < n → get_or rs i 0 < 2 ^ c.kind.bits)
    → ((p : Params) (begun ws : List ℤ) → AreWeightsAt p s.predictor c s.band (y * c.shape.columns + x) (take s.count begun)
    → IsFollowed s c y x first begun n ws parts → take n rs ≡ run_residuals p c s.band (y * c.shape.columns + x) n)
    → HasPredicted s c y x n old new rs
group_predicted s c y x first n m old begun ws new parts rs at same followed taken enough within bound written = record {
  bound = bound;
  residuals = λ p f. written p begun ws (there p f) followed;
  weights = λ p f. sym (take-take s.count m new enough) ∙ ap (take s.count) taken
      ∙ followed.weights p (at_first p s.predictor c s.band y x first (take s.count begun) at (there p f))
      ∙ ap (weight_vector p c s.band) (place y c.shape.columns);
  within = within;
}
  where
    there : (p : Params) → AreWeightsAt p s.predictor c s.band (y * c.shape.columns + x) (take s.count old)
        → AreWeightsAt p s.predictor c s.band (y * c.shape.columns + x) (take s.count begun)
    there p f = subst (AreWeightsAt p s.predictor c s.band (y * c.shape.columns + x)) (sym same) f

    place : (y columns : ℕ) → y * columns + (x + n) ≡ y * columns + x + n
    place y columns = omega arith

pub piece_held : (s : Settings) (c : Image) (y x n : ℕ) (old new : List ℤ) (was is : PredictorState) → was.t ≡ y * c.shape.columns + x
    → s.predictor ≡ was.predictor → s.band ≡ was.band → take s.count old ≡ was.weights → HasPredicted s c y x n old new is.piece → MovesBy n was is
    → take s.count new ≡ is.weights → HoldsPiece c n was is
piece_held s c y x n old new was is next predictor band before h moved after = record {
  moved = moved;
  bound = h.bound;
  residuals = λ p f. h.residuals p (there p f) ∙ ap₂ (λ b t. run_residuals p c b t n) band (sym next);
  follows = λ p f. record {
    made = record {
      predictor = moved.predictor ∙ f.made.predictor;
      shape = moved.shape ∙ f.made.shape;
      kind = moved.kind ∙ f.made.kind;
    };
    weights = sym after ∙ h.weights p (there p f) ∙ ap₂ (weight_vector p c) (band ∙ sym moved.band) (ap (λ t. t + n) (sym next) ∙ sym moved.t);
  };
}
  where
    there : (p : Params) → Follows p was c → AreWeightsAt p s.predictor c s.band (y * c.shape.columns + x) (take s.count old)
    there p f = record { predictor = predictor ∙ f.made.predictor; weights = before ∙ f.weights ∙ ap₂ (weight_vector p c) (sym band) next }
