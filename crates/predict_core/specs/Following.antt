-- The predictor of one band, and the images that it follows.
use Rattle.std.specs.Prelude.{ℕ, ◌≡◌, ◌+◌, ◌*◌, ◌^◌, ◌<◌, ◌≤◌, ℤ, List, take, slice_index_or, pos, false, []}
use Rattle.header_bits.specs.declared.params.Params.{Params}
use Rattle.cube_core.specs.Shape.{Sizes}
use Rattle.cube_core.specs.Kind.{SampleKind}
use Rattle.cube_core.specs.Image.{Image, IsPlace}
use Rattle.sample_prediction.specs.declared.predictor.Predictor.{Predictor}
use Rattle.sample_prediction.specs.Predictor.{predictor_of}
use Rattle.sample_prediction.specs.Prediction.{weight_vector}
use Rattle.sample_prediction.specs.Residual.{run_residuals}

-- the state of a band's predictor: its parameters, the raster index t of its next place, the weights W(t), and the mapped residuals of the last piece
pub record PredictorState : Type 0 where
  pub predictor : Predictor
  pub shape : Sizes
  pub kind : SampleKind
  pub band : ℕ
  pub t : ℕ
  pub weights : List ℤ
  pub piece : List ℕ

-- the predictor has these parameters
pub record IsMadeFor (p : Params) (b : PredictorState) : Type 0 where
  pub predictor : b.predictor ≡ predictor_of p
  pub shape : b.shape ≡ p.shape
  pub kind : b.kind ≡ p.kind

-- the predictor's weights are W(t) of the image at its next place
pub record Follows (p : Params) (b : PredictorState) (c : Image) : Type 0 where
  pub made : IsMadeFor p b
  pub weights : b.weights ≡ weight_vector p c b.band b.t

-- the same predictor, one place further on
pub record MovesOn (old new : PredictorState) : Type 0 where
  pub predictor : new.predictor ≡ old.predictor
  pub shape : new.shape ≡ old.shape
  pub kind : new.kind ≡ old.kind
  pub band : new.band ≡ old.band
  pub t : new.t ≡ old.t + 1

-- the same predictor, n places further on
pub record MovesBy (n : ℕ) (old new : PredictorState) : Type 0 where
  pub predictor : new.predictor ≡ old.predictor
  pub shape : new.shape ≡ old.shape
  pub kind : new.kind ≡ old.kind
  pub band : new.band ≡ old.band
  pub t : new.t ≡ old.t + n

-- the predictor's next n places, at most 64, are those from row y, column x on, all in that row; the image has the predictor's shape and kind
pub record IsPieceNext (b : PredictorState) (c : Image) (y x n : ℕ) : Type 0 where
  pub shape : c.shape ≡ b.shape
  pub kind : c.kind ≡ b.kind
  pub place : IsPlace c.shape b.band y x
  pub few : n ≤ 64
  pub inside : x + n ≤ c.shape.columns
  pub next : b.t ≡ y * c.shape.columns + x

-- a band's predictor has advanced over n places, and holds their mapped residuals
pub record HoldsPiece (c : Image) (n : ℕ) (old new : PredictorState) : Type 0 where
  pub moved : MovesBy n old new
  pub bound : (i : ℕ) → i < n → slice_index_or new.piece i 0 < 2 ^ c.kind.bits
  pub residuals : (p : Params) → Follows p old c → take n new.piece ≡ run_residuals p c old.band old.t n
  pub follows : (p : Params) → Follows p old c → Follows p new c

-- no band
abbrev pub no_band : PredictorState
no_band = record {
  predictor = record { previous = 0; reduced = false; column = false; register = 0; omega = 0; interval_log = 0; vmin = pos 0; vmax = pos 0 };
  shape = record { columns = 0; rows = 0; bands = 0 };
  kind = record { bits = 0; signed = false };
  band = 0;
  t = 0;
  weights = [];
  piece = [];
}
