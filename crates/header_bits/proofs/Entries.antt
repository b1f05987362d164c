-- The entries of a table, checked one after another.
use Rattle.std.proofs.Common.{◌≡◌, ℕ, ◌+◌, ◌-◌, ◌^◌, ◌<◌, ◌≤◌, Bool, true, false, not, ◌&&◌, int_le, List, [], ◌∷◌, length, drop, get_or, ℤ, pos, neg_ℤ, ◌-ℤ◌}
use Rattle.std.proofs.Common.{Err, refl, sym, ap, ◌∙◌, arith}
use Rattle.std.proofs.lemmas.Int.{ints}
use Rattle.cube_core.specs.declared.fault.Fault.TheVariants.{FieldRange}
use Rattle.cube_core.specs.declared.fault.Field.TheVariants as field
use Rattle.std.proofs.lemmas.Bool.{lt-ltb, le-ltb}
use Rattle.std.proofs.lemmas.List.{drop_more, drop_all}
use Rattle.cube_core.specs.declared.fault.Fault.{Fault}
use Rattle.cube_core.specs.Steps.{Test, ◌>>◌, refuse_if}
use Rattle.header_bits.specs.TableParts.{some_above}
use Rattle.header_bits.specs.Lawful.{weight_fault, entries_fault}
use Rattle.header_bits.specs.Parts.{fine}

-- ---- constants

pub above_first : (most v : ℕ) (vs : List ℕ) → most < v → some_above most (v ∷ vs) ≡ true
unfolding some_above
above_first most v vs lt = rw (lt-ltb most v lt) refl

pub above_later : (most v : ℕ) (vs : List ℕ) → v ≤ most → some_above most (v ∷ vs) ≡ some_above most vs
unfolding some_above
above_later most v vs le = rw (le-ltb most v le) refl

pub above_nothing : (most : ℕ) → some_above most [] ≡ false
unfolding some_above
above_nothing most = refl

pub above_found : (most i : ℕ) (vs : List ℕ) → i < length vs → most < get_or vs i 0 → some_above most (drop i vs) ≡ true
above_found most i vs lt over = ap (some_above most) (drop_more vs i 0 lt) ∙ above_first most (get_or vs i 0) (drop (i + 1) vs) over

pub above_next : (most i : ℕ) (vs : List ℕ) → i < length vs → get_or vs i 0 ≤ most → some_above most (drop (i + 1) vs) ≡ some_above most (drop i vs)
above_next most i vs lt le = sym (ap (some_above most) (drop_more vs i 0 lt) ∙ above_later most (get_or vs i 0) (drop (i + 1) vs) le)

pub above_none_left : (most i : ℕ) (vs : List ℕ) → length vs ≤ i → some_above most (drop i vs) ≡ false
unfolding some_above
above_none_left most i vs le = ap (some_above most) (drop_all i vs le)

-- ---- weights

entry_next : (bits i : ℕ) (vs : List ℤ) → i < length vs
    → entries_fault bits (drop i vs) ≡ (weight_fault bits (get_or vs i (pos 0)) >> entries_fault bits (drop (i + 1) vs))
unfolding entries_fault
entry_next bits i vs lt = ap (entries_fault bits) (drop_more vs i (pos 0) lt)

pub entry_refused : (bits i : ℕ) (vs : List ℤ) (all : Test) (e : Fault) → i < length vs → entries_fault bits (drop i vs) ≡ all
    → weight_fault bits (get_or vs i (pos 0)) ≡ Err e → all ≡ Err e
entry_refused bits i vs all e lt so_far bad = sym so_far ∙ entry_next bits i vs lt ∙ ap (λ (t : Test). t >> entries_fault bits (drop (i + 1) vs)) bad

pub entry_passed : (bits i : ℕ) (vs : List ℤ) (all : Test) → i < length vs → entries_fault bits (drop i vs) ≡ all
    → weight_fault bits (get_or vs i (pos 0)) ≡ fine → entries_fault bits (drop (i + 1) vs) ≡ all
entry_passed bits i vs all lt so_far good = sym (sym so_far ∙ entry_next bits i vs lt ∙ ap (λ (t : Test). t >> entries_fault bits (drop (i + 1) vs)) good)

pub entries_none_left : (bits i : ℕ) (vs : List ℤ) → length vs ≤ i → entries_fault bits (drop i vs) ≡ fine
unfolding entries_fault
entries_none_left bits i vs le = ap (entries_fault bits) (drop_all i vs le)

-- ---- one weight

minus : (bound : ℤ) (n : ℕ) → bound ≡ pos n → pos 0 -ℤ bound ≡ neg_ℤ (pos n)
minus bound n e = omega (arith, ints, e)

-- a weight that is checked by both bounds
checked_by_both : (bits : ℕ) (weight value bound : ℤ) (within : Bool) (r : Test) → bound ≡ pos (2 ^ (bits - 1)) → value ≡ weight
    → within ≡ (int_le (pos 0 -ℤ bound) weight && int_le weight (bound -ℤ pos 1)) → r ≡ refuse_if (not within) (FieldRange field.WeightEntry value)
    → r ≡ weight_fault bits weight
checked_by_both bits weight value bound within r e f is h =
    h ∙ rw (is, f, minus bound (2 ^ (bits - 1)) e, e) refl

-- the least one holds, so that the greatest decides
pub checked_above : (bits : ℕ) (weight value bound : ℤ) (within : Bool) (r : Test) → bound ≡ pos (2 ^ (bits - 1)) → value ≡ weight
    → int_le (pos 0 -ℤ bound) weight ≡ true → within ≡ int_le weight (bound -ℤ pos 1) → r ≡ refuse_if (not within) (FieldRange field.WeightEntry value)
    → r ≡ weight_fault bits weight
checked_above bits weight value bound within r e f low is h = checked_by_both bits weight value bound within r e f (rw low is) h

-- a weight below the least one
pub checked_below : (bits : ℕ) (weight value bound : ℤ) (within : Bool) (r : Test) → bound ≡ pos (2 ^ (bits - 1)) → value ≡ weight
    → int_le (pos 0 -ℤ bound) weight ≡ false → within ≡ false → r ≡ refuse_if (not within) (FieldRange field.WeightEntry value) → r ≡ weight_fault bits weight
checked_below bits weight value bound within r e f low is h = checked_by_both bits weight value bound within r e f (rw low is) h
