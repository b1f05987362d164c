-- When there is nothing to refuse of a plan.
use Rattle.std.proofs.Common.{◌≡◌, ◌+◌, ◌<◌, ◌≤◌, Err, ℕ, suc, ltb, not, List, [], ◌∷◌, length, drop, get_or, refl, ap, drop-cons, add-one}
use Rattle.std.proofs.Math.ListN.{drop_of_length-le}
use Rattle.std.specs.List.{AllByRecursion}
use Rattle.std.proofs.lemmas.List.Elements.{All-from_recursion, recursion_from_All}
use Rattle.std.proofs.lemmas.Bool.{ltb-true, lt-ltb, le-ltb, eqb-true, eq-eqb}
use Rattle.cube_core.specs.declared.fault.Field.TheVariants as field
use Rattle.cube_core.specs.declared.fault.Fault.TheVariants.{BadDeal}
use Rattle.cube_core.specs.Steps.{refuse_if}
use Rattle.header_bits.specs.Lawful.{in_range_or}
use Rattle.header_bits.specs.Parts.{fine}
use Rattle.header_bits.proofs.Tests.{then_ok, ◌then_fine◌, refuse_ok, refuse_fine, not_false, in_range_ok, in_range_fine}
use Rattle.coder_pipe.specs.Weave.{IsDeal}
use Rattle.coder_pipe.specs.Plans.{told_band, owner_fault, length_fault, plan_fault, PlanFaultIsExact}

-- one band after another
pub owner_there : (predictors z : ℕ) (deal : List ℕ) → z < length deal → get_or deal z 0 < predictors
    → owner_fault predictors z (drop z deal) ≡ owner_fault predictors (z + 1) (drop (z + 1) deal)
unfolding owner_fault
owner_there predictors z deal lt there = rw (add-one, drop-cons deal z 0 lt, lt-ltb _ _ there) refl

pub owner_lacks : (predictors z : ℕ) (deal : List ℕ) → z < length deal → predictors ≤ get_or deal z 0
    → owner_fault predictors z (drop z deal) ≡ Err (BadDeal (told_band z))
unfolding owner_fault
owner_lacks predictors z deal lt lacks = rw (drop-cons deal z 0 lt, le-ltb _ _ lacks) refl

pub owner_none : (predictors z : ℕ) (deal : List ℕ) → length deal ≤ z → owner_fault predictors z (drop z deal) ≡ fine
unfolding owner_fault
owner_none predictors z deal le = rw (drop_of_length-le deal le) refl

owners_ok : (predictors z : ℕ) (deal : List ℕ) → owner_fault predictors z deal ≡ fine → AllByRecursion (λ q. q < predictors) deal
unfolding owner_fault
owners_ok predictors z [] e = tt
owners_ok predictors z (q ∷ deal) e =
    let p = then_ok (refuse_if (not (ltb q predictors)) (BadDeal (told_band z))) (owner_fault predictors (suc z) deal) e in
    (ltb-true q predictors (not_false _ (refuse_ok _ _ p.0)), owners_ok predictors (suc z) deal p.1)

owners_fine : (predictors z : ℕ) (deal : List ℕ) → AllByRecursion (λ q. q < predictors) deal → owner_fault predictors z deal ≡ fine
unfolding owner_fault
owners_fine predictors z [] h = refl
owners_fine predictors z (q ∷ deal) h = refuse_fine _ _ (ap not (lt-ltb q predictors h.0)) then_fine owners_fine predictors (suc z) deal h.1

pub plan_fault_is_exact : PlanFaultIsExact
unfolding plan_fault
plan_fault_is_exact predictors slots bands deal = (
  λ e.
      let a = then_ok (in_range_or field.Predictors 1 64 predictors) _ e in
      let b = then_ok (in_range_or field.Slots 1 65536 slots) _ a.1 in
      let d = then_ok (owner_fault predictors 0 deal) (length_fault bands deal) b.1 in
      let owned = All-from_recursion (λ q. q < predictors) deal (owners_ok predictors 0 deal d.0) in
      let dealt : IsDeal predictors bands deal = record { whole = eqb-true (length deal) bands (not_false _ (refuse_ok _ _ d.1)); owned = owned } in
      record { few = in_range_ok _ _ _ _ a.0; room = in_range_ok _ _ _ _ b.0; dealt = dealt },
  λ h.
      let owners = owners_fine predictors 0 deal (recursion_from_All (λ q. q < predictors) deal h.dealt.owned) in
      let whole = refuse_fine _ _ (ap not (eq-eqb (length deal) bands h.dealt.whole)) in
      in_range_fine _ _ _ _ h.few then_fine in_range_fine _ _ _ _ h.room then_fine owners then_fine whole,
)
