-- Where the numbers of predictors and of slots are in range, there is a plan.
use Rattle.std.proofs.Common.{◌≡◌, ◌⊎◌, inl, inr, ◌<◌, ◌%◌, true, ℕ, List, Result, Ok, Err, OnOk, IfErr, map, refl, ◌∙◌}
use Rattle.std.proofs.lemmas.Bool.{le-leb}
use Rattle.std.proofs.lemmas.List.{length-map}
use Rattle.std.proofs.lemmas.List.Elements.{All-map}
use Rattle.std.proofs.lemmas.Nat.{mod_below}
use Rattle.cube_core.specs.declared.fault.Fault.{Fault}
use Rattle.cube_core.specs.declared.fault.Fault.TheVariants.{WantOfMemory}
use Rattle.cube_core.specs.Order.{upto}
use Rattle.cube_core.proofs.Lists.{length-from}
use Rattle.coder_pipe.specs.Plans.{MayPlan, plan_fault}
use Rattle.coder_pipe.specs.Weave.{IsDeal}
use Rattle.coder_pipe.proofs.Planning.{plan_fault_is_exact}
use Rattle.command_words.specs.declared.settings.CompressSettings.{CompressSettings}
use Rattle.ccsds_command.specs.Piped.{HasNoPlan, MayBePlanned, are_in_range, deal_of}

told_in_range : (s : CompressSettings) → MayBePlanned s → are_in_range s ≡ true
told_in_range s may =
    rw (le-leb 1 s.predictors may.0.0, le-leb s.predictors 64 may.0.1, le-leb 1 s.slots may.1.0, le-leb s.slots 65536 may.1.1) refl

by_remainder : (s : CompressSettings) → MayBePlanned s → deal_of s ≡ map (λ z. z % s.predictors) (upto s.params.shape.bands)
by_remainder s may = rw (told_in_range s may) refl

by_turns : (predictors bands : ℕ) → 0 < predictors → IsDeal predictors bands (map (λ z. z % predictors) (upto bands))
by_turns predictors bands some = record {
  whole = length-map (upto bands) (λ z. z % predictors) ∙ length-from 0 bands;
  owned = All-map (λ q. q < predictors) (λ z. z % predictors) (upto bands) (λ k d lt. mod_below _ predictors some);
}

pub may_plan : (s : CompressSettings) → MayBePlanned s → MayPlan s.predictors s.slots s.params.shape.bands (deal_of s)
may_plan s may = record {
  few = may.0;
  room = may.1;
  dealt = rw (by_remainder s may) (by_turns s.predictors s.params.shape.bands may.0.0);
}

-- a plan that may be made has no fault
pub no_fault : (predictors slots bands : ℕ) (deal : List ℕ) (fault : Fault) → MayPlan predictors slots bands deal
    → plan_fault predictors slots bands deal ≡ Err fault → ⊥
no_fault predictors slots bands deal fault may e = absurd (let f = (plan_fault_is_exact predictors slots bands deal).1 may in cc)

pub planned : (s : CompressSettings) (fault : Fault) → MayBePlanned s → HasNoPlan s fault → ⊥
planned s fault may e = no_fault s.predictors s.slots s.params.shape.bands (deal_of s) fault (may_plan s may) e

-- where there can be no plan, making one is refused for its first fault
pub told_first : {T : Type 0} (r : Result T Fault) (s : CompressSettings) (deal : List ℕ) (fault : Fault) → deal ≡ deal_of s
    → OnOk r (MayPlan s.predictors s.slots s.params.shape.bands deal)
    → IfErr r (λ e. ((e ≡ WantOfMemory) × MayPlan s.predictors s.slots s.params.shape.bands deal)
    ⊎ (plan_fault s.predictors s.slots s.params.shape.bands deal ≡ Err e))
    → HasNoPlan s fault → r ≡ Err fault
told_first (Ok t) s deal fault same may told none = absurd (no_fault _ _ _ deal fault may (rw same none))
told_first (Err e) s deal fault same may (inl memory) none = absurd (no_fault _ _ _ deal fault memory.1 (rw same none))
told_first (Err e) s deal fault same may (inr told) none = let at : plan_fault s.predictors s.slots s.params.shape.bands deal ≡ Err fault = rw same none in cc
