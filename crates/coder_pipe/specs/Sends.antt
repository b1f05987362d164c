-- What a predictor sends along its lane: a prefix of its part of the residuals.
pub use Rattle.file_encoding.specs.Walks.{IsSeen, IsAt, AreAt, bands_of, AreFresh}
use Rattle.std.specs.Prelude.{◌≡◌, ℕ, ◌+◌, ◌^◌, ◌<◌, Bool, List, ◌++◌, length, IsTrue, IsFalse}
use Rattle.cube_core.specs.Image.{Image}
use Rattle.lane_workers.specs.Runs.{RunSending}
use Rattle.sample_prediction.specs.Residual.{residuals}
use Rattle.file_encoding.specs.Own.{owners, part}
use Rattle.coder_pipe.specs.Plans.{PlanState}

-- a sender takes more residuals, and can count those of a list
pub record MaySend {G : Type 0} (s : RunSending G) (list : List ℕ) : Type 0 where
  pub ready : IsTrue s.ready
  pub few : length s.taken + length list < 2 ^ 64

-- a sender has taken the whole of a list after what it had taken before, or it was stopped inside the list
pub record Sends {G : Type 0} (old new : RunSending G) (all : Bool) (list : List ℕ) : Type 0 where
  pub lane : new.lane ≡ old.lane
  pub predictor : new.predictor ≡ old.predictor
  pub gate : new.gate ≡ old.gate
  pub rest : List ℕ
  pub taken : old.taken ++ list ≡ new.taken ++ rest
  pub whole : IsTrue all → (length rest ≡ 0) × IsTrue new.ready
  pub stopped : IsFalse all → IsTrue new.stopped

-- the feed of a predictor: the cube that it predicts, the plan, and its number
pub record CubeFeedState : Type 0 where
  pub cube : Image
  pub plan : PlanState
  pub predictor : ℕ

-- the predictor's part of the cube's residuals
abbrev pub part_of : CubeFeedState → List ℕ
part_of f = part f.predictor (owners f.plan.deal f.plan.params) (residuals f.plan.params f.cube)
