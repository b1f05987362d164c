-- The pipeline: what its feeds promise, what it returns, and why it may end early.
use Rattle.std.specs.Prelude.{◌≡◌, ℕ, ◌<◌, ◌^◌, Bool, List, [], map, length, slice_index_or, IsTrue}
use Rattle.std.specs.List.{All}
use Rattle.band_rings.specs.Lane.{Lane}
use Rattle.cube_core.specs.declared.fault.Fault.{Fault}
use Rattle.cube_core.specs.declared.fault.Fault.TheVariants.{WantOfMemory, SpawnRefused, Stopped}
use Rattle.cube_core.specs.Image.{Image}
use Rattle.sample_prediction.specs.Residual.{residuals}
use Rattle.file_format.specs.File.{file_of_residuals, file_of}
use Rattle.file_format.specs.Files.{IsFile}
use Rattle.coder_pipe.specs.Plans.{PlanState}
use Rattle.file_encoding.specs.Own.{owners, part}
use Rattle.coder_pipe.specs.Weave.{parts, share, weave}

-- a lane that carried a list: all of it was sent and received, and nothing is left
abbrev pub carried : List ℕ → Lane
carried items = record { sent = items; received = items; rest = [] }

module _ {F : Type 0} where
  -- one feed for each predictor of a plan: it states the predictor's number, and a list as long as the predictor's part, of residuals below 2^D
  pub record AreFeeds (predictor : F → ℕ) (items : F → List ℕ) (plan : PlanState) (feeds : List F) : Type 0 where
    pub many : length feeds ≡ plan.predictors
    pub named : (q : ℕ) (f : F) → q < plan.predictors → predictor (slice_index_or feeds q f) ≡ q
    pub whole : (q : ℕ) (f : F) → q < plan.predictors → length (items (slice_index_or feeds q f)) ≡ share q (owners plan.deal plan.params)
    pub range : (q : ℕ) (f : F) → q < plan.predictors → All (λ n. n < 2 ^ plan.params.kind.bits) (items (slice_index_or feeds q f))

  -- each lane carried its feed's list, and the file is that of these lists, interleaved along the encoding order
  pub record IsPiped (items : F → List ℕ) (plan : PlanState) (feeds : List F) (file : List ℕ) (lanes : List Lane) : Type 0 where
    pub carries : lanes ≡ map (λ f. carried (items f)) feeds
    pub woven : file ≡ file_of_residuals (weave (owners plan.deal plan.params) (map items feeds)) plan.params

  -- the gate may stop predictor q at residual n of its feed, and the feed has that residual
  abbrev pub MayStop : {G : Type 0} → (G → ℕ → ℕ → Bool) → G → (F → List ℕ) → List F → ℕ → ℕ → Type 0
  MayStop may_stop gate items feeds q n =
      (q < length feeds) × IsTrue (may_stop gate q n) × ((f : F) → n < length (items (slice_index_or feeds q f)))

-- the faults with which a pipeline may end; `At` says where a predictor may have been stopped
abbrev pub EndsEarly : Fault → (ℕ → ℕ → Type 0) → Type 0
EndsEarly SpawnRefused At = Unit {0}
EndsEarly WantOfMemory At = Unit {0}
EndsEarly (Stopped q n) At = At q n
EndsEarly other At = ⊥

-- what the pipeline returns for a cube: each lane carried its predictor's part of the residuals, none twice, none left, and the bytes are the definition's
-- file, which is a file of this cube and these parameters and of no others
pub record IsFileOf (plan : PlanState) (c : Image) (file : List ℕ) (lanes : List Lane) : Type 0 where
  pub carries : lanes ≡ map carried (parts plan.predictors plan.deal plan.params c)
  pub made : file ≡ file_of c plan.params
  pub back : IsFile file plan.params c

-- the gate may stop predictor q at residual n of its part, and the part has that residual
abbrev pub MayStopPart : {G : Type 0} → (G → ℕ → ℕ → Bool) → G → PlanState → Image → ℕ → ℕ → Type 0
MayStopPart may_stop gate plan c q n =
    (q < plan.predictors) × IsTrue (may_stop gate q n) × (n < length (part q (owners plan.deal plan.params) (residuals plan.params c)))
