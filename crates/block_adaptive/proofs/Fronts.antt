-- What a call of the reader of data sets means in the words of the lawful data sets.
use Rattle.std.proofs.Common.{◌≡◌, ℕ, ◌*◌, ◌/◌, ◌%◌, ◌≤◌, Bool, List, ◌++◌, Result, Ok, Err, sym, arith, subst}
use Rattle.std.specs.Prelude.{IfOk, IfErr}
use Rattle.cube_core.specs.declared.fault.Fault.{Fault}
use Rattle.block_adaptive.specs.declared.options.CodeSet.{CodeSet}
use Rattle.block_adaptive.specs.DataSets.{CodedDataSet, spelled, IsCodedDataSet}
use Rattle.header_bits.specs.Reading.{Reads}
use Rattle.block_adaptive.specs.Reading.{Site, data_set_at}
use Rattle.block_adaptive.proofs.Again.{data_set_again}
use Rattle.block_adaptive.proofs.Taken.{data_set_is_taken}

halved : (size : ℕ) → size % 2 ≡ 0 → 2 * (size / 2) ≡ size
halved size h = omega arith

pub found_is : (site : Site) {X : Type 0} (view : X → CodedDataSet) (s : CodeSet) (size left : ℕ) (result : Result X Fault) (old new : List Bool) → size % 2 ≡ 0
    → 1 ≤ left → Reads view result new (data_set_at site s size left old)
    → IfOk result (λ found. (old ≡ spelled s (view found) ++ new) × IsCodedDataSet s size left (view found))
found_is site view s size left (Ok x) old new even pos h =
    let e = halved _ even in
    subst (λ (n : ℕ). (old ≡ spelled s (view x) ++ new) × IsCodedDataSet s n left (view x)) e
    (data_set_is_taken _ _ _ _ (view x) _ _ pos (subst (λ (n : ℕ). data_set_at site s n left old ≡ Ok (view x, new)) (sym e) h))
found_is site view s size left (Err d) old new even pos h = tt

no_both : {A : Type 0} (d : Fault) (x : A) (read : Result A Fault) → read ≡ Err d → read ≡ Ok x → ⊥
no_both d x read a b = cc

pub none_is : (site : Site) {X : Type 0} (view : X → CodedDataSet) (s : CodeSet) (size left : ℕ) (result : Result X Fault) (old new : List Bool) → size % 2 ≡ 0
    → Reads view result new (data_set_at site s size left old) → IfErr result (λ _. (t : CodedDataSet) (rest : List Bool) → IsCodedDataSet s size left t
    → old ≡ spelled s t ++ rest → ⊥)
none_is site view s size left (Ok x) old new even h = tt
none_is site view s size left (Err d) old new even h = grind (arith, data_set_again, halved)
