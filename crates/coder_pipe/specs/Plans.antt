-- Plans: which predictor each band is dealt to, and how many residuals a lane has room for.
use Rattle.std.specs.Prelude.{◌≡◌, ◌↔◌, ℕ, suc, ◌==◌, nat_lt, not, min, List, [], ◌∷◌, length}
use Rattle.cube_core.specs.declared.fault.Fault.TheVariants.{BadDeal}
use Rattle.cube_core.specs.declared.fault.Field.TheVariants as field
use Rattle.cube_core.specs.Steps.{Test, ◌>>◌, refuse_if}
use Rattle.cube_core.specs.Shape.{InRange}
use Rattle.header_bits.specs.declared.params.Params.{Params}
use Rattle.header_bits.specs.Lawful.{IsLawful, in_range_or}
use Rattle.header_bits.specs.Parts.{fine}
use Rattle.coder_pipe.specs.Weave.{IsDeal}

-- a plan: the parameters that it is for, the number of predictors, the predictor of each band, and the slots of a lane
pub record PlanState : Type 0 where
  pub params : Params
  pub predictors : ℕ
  pub deal : List ℕ
  pub slots : ℕ

-- 1 to 64 predictors, 1 to 65,536 slots, and each band is dealt to a predictor
pub record MayPlan (predictors slots bands : ℕ) (deal : List ℕ) : Type 0 where
  pub few : InRange 1 64 predictors
  pub room : InRange 1 65536 slots
  pub dealt : IsDeal predictors bands deal

-- a plan for lawful parameters
pub record IsPlan (d : PlanState) : Type 0 where
  pub lawful : IsLawful d.params
  pub may : MayPlan d.predictors d.slots d.params.shape.bands d.deal

-- ---- the first refusal

-- a band as `BadDeal` reports it: at most 2^32 - 1
abbrev pub told_band : ℕ → ℕ
told_band z = min z 4294967295

-- the first band from band z on that is dealt to no predictor
unfoldable pub owner_fault : ℕ → ℕ → List ℕ → Test
owner_fault predictors z [] = fine
owner_fault predictors z (q ∷ deal) = refuse_if (not (nat_lt q predictors)) (BadDeal (told_band z)) >> owner_fault predictors (suc z) deal

-- the first band that has no entry, or the first entry that has no band
abbrev pub length_fault : ℕ → List ℕ → Test
length_fault bands deal = refuse_if (not (length deal == bands)) (BadDeal (min (length deal) bands))

-- the number of predictors is checked first, then that of slots, then the predictor of each band, then the length of the deal
unfoldable pub plan_fault : ℕ → ℕ → ℕ → List ℕ → Test
plan_fault predictors slots bands deal = in_range_or field.Predictors 1 64 predictors >> in_range_or field.Slots 1 65536 slots >> owner_fault predictors 0
    deal >> length_fault bands deal

-- a plan has no fault exactly if it may be made
abbrev pub PlanFaultIsExact : Type 0
PlanFaultIsExact = (predictors slots bands : ℕ) (deal : List ℕ) → (plan_fault predictors slots bands deal ≡ fine) ↔ MayPlan predictors slots bands deal
