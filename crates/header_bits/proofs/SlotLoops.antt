-- One slot more of a row that is read or written.
use Rattle.std.proofs.Common.{◌≡◌, ℕ, zero, suc, ◌+◌, ◌-◌, ◌^◌, ◌<◌, ◌≤◌, List, [], ◌∷◌, ◌++◌, Bool, length, get_or, take, drop, set, sym, ap, subst, ◌∙◌}
use Rattle.std.proofs.Common.{append_assoc, arith, inl, inr}
use Rattle.std.proofs.lemmas.List.{drop_more, drop_all, drop-drop, take_all, take_more_set, length-drop, length-set, append-nil}
use Rattle.std.proofs.lemmas.Bool.{cases_eq, eq-eqb, ne_eqb}
use Rattle.std.proofs.Math.Nat.{pow-le-pow_right}
use Rattle.header_bits.specs.Bits.{bits_of}
use Rattle.header_bits.proofs.Numbers.{taken_is}
use Rattle.header_bits.specs.declared.layout.Slot.{Slot}
use Rattle.header_bits.specs.declared.layout.Slot.TheVariants.{Reserved, Plain, Modulo}
use Rattle.header_bits.specs.Layout.{width, value_of, code_of, IsValue, IsNarrow, AreNarrow, AreValues, total, spelled, values}

pub narrow_value : (s : Slot) (code : ℕ) → IsNarrow s → code < 2 ^ width s → value_of s code < 2 ^ 32
narrow_value (Reserved n) code w lt = let top : 2 ^ n ≤ 2 ^ 16 = pow-le-pow_right (omega arith) w in omega arith
narrow_value (Plain n least) code w lt = let top : 2 ^ n ≤ 2 ^ 16 = pow-le-pow_right (omega arith) w.0 in omega (arith, w.1)
narrow_value (Modulo n) code w lt = let top : 2 ^ n ≤ 2 ^ 16 = pow-le-pow_right (omega arith) w in elim (cases_eq code 0) [
  | inl e ↦ rw (eq-eqb code 0 e) (omega arith)
  | inr ne ↦ rw (ne_eqb code 0 ne) (omega arith)
]

-- the next slot
pub next_slot : (slots : List Slot) (i : ℕ) → i < length slots → drop i slots ≡ get_or slots i (Reserved 0) ∷ drop (i + 1) slots
next_slot slots i lt = drop_more slots i (Reserved 0) lt

pub slot_narrow : (slots : List Slot) (i : ℕ) → i < length slots → AreNarrow slots → IsNarrow (get_or slots i (Reserved 0))
slot_narrow [] i lt h = absurd (omega arith)
slot_narrow (t ∷ slots) zero lt h = h.0
slot_narrow (t ∷ slots) (suc i) lt h = slot_narrow slots i (omega arith) h.1

-- what reading has found so far
pub record HasRead (slots : List Slot) (old : List Bool) (i : ℕ) (out : List ℕ) (left : List Bool) : Type 0 where
  pub same : length out ≡ length slots
  pub whole : total (drop i slots) ≤ length left
  pub found : take i out ++ values (drop i slots) left ≡ values slots old
  pub rest : drop (total (drop i slots)) left ≡ drop (total slots) old

-- the next slot's bits are there
pub width_left : (slots : List Slot) (i : ℕ) (left : List Bool) → i < length slots → total (drop i slots) ≤ length left
    → width (get_or slots i (Reserved 0)) ≤ length left
unfolding total
width_left slots i left lt h =
    let n : total (drop i slots) ≡ width (get_or slots i (Reserved 0)) + total (drop (i + 1) slots) = ap total (next_slot slots i lt) in
    omega (arith, n)

pub has_read_more : (slots : List Slot) (old : List Bool) (i : ℕ) (out : List ℕ) (left new : List Bool) (code value : ℕ) → i < length slots
    → HasRead slots old i out left
    → code < 2 ^ width (get_or slots i (Reserved 0)) → left ≡ bits_of (width (get_or slots i (Reserved 0))) code ++ new
    → value ≡ value_of (get_or slots i (Reserved 0)) code → HasRead slots old (i + 1) (set out i value) new
unfolding total values
has_read_more slots old i out left new code value lt h below taken v =
    let s : Slot = get_or slots i (Reserved 0) in
    let others : List Slot = drop (i + 1) slots in
    let next : drop i slots ≡ s ∷ others = next_slot slots i lt in
    let p = taken_is (width s) code left new below taken in
    let n : total (drop i slots) ≡ width s + total others = ap total next in
    let long : length new ≡ length left - width s = ap length p.1 ∙ length-drop (width s) left in
    let split : values (drop i slots) left ≡ value ∷ values others new =
    ap (λ ss. values ss left) next ∙ ap (λ k. value_of s k ∷ values others (drop (width s) left)) (sym p.0)
    ∙ ap (λ (x : List Bool). value_of s code ∷ values others x) (sym p.1) ∙ ap (λ k. k ∷ values others new) (sym v) in
    record {
      same = length-set out i value ∙ h.same;
      whole = omega (arith, n, long, h.whole);
      found = ap (λ (x : List ℕ). x ++ values others new) (take_more_set out i value (omega (arith, h.same)))
          ∙ append_assoc (take i out) (value ∷ []) (values others new)
          ∙ ap (λ (x : List ℕ). take i out ++ x) (sym split) ∙ h.found;
      rest = ap (drop (total others)) p.1 ∙ drop-drop (total others) (width s) left ∙ ap (λ k. drop k left) (sym n) ∙ h.rest;
    }

pub has_read_all : (slots : List Slot) (old : List Bool) (i : ℕ) (out : List ℕ) (left : List Bool) → length slots ≤ i → HasRead slots old i out left
    → (out ≡ values slots old) × (left ≡ drop (total slots) old)
unfolding total values
has_read_all slots old i out left le h =
    let none : drop i slots ≡ [] = drop_all i slots le in (
      sym (take_all i out (omega (arith, h.same))) ∙ sym (append-nil (take i out)) ∙ ap (λ ss. take i out ++ values ss left) (sym none) ∙ h.found,
      ap (λ ss. drop (total ss) left) (sym none) ∙ h.rest,
    )

-- the next value is one that its slot can hold
pub next_fits : (slots : List Slot) (vs : List ℕ) (i : ℕ) → i < length slots → i < length vs → AreValues (drop i slots) (drop i vs)
    → IsValue (get_or slots i (Reserved 0)) (get_or vs i 0) × AreValues (drop (i + 1) slots) (drop (i + 1) vs)
next_fits slots vs i lt lv h =
    subst (λ (x : List ℕ). AreValues (get_or slots i (Reserved 0) ∷ drop (i + 1) slots) x) (drop_more vs i 0 lv)
    (subst (λ ss. AreValues ss (drop i vs)) (next_slot slots i lt) h)

pub written_more : (slots : List Slot) (vs : List ℕ) (i : ℕ) (old bits new : List Bool) → i < length slots → i < length vs
    → bits ++ spelled (drop i slots) (drop i vs) ≡ old
    → new ≡ bits ++ bits_of (width (get_or slots i (Reserved 0))) (code_of (get_or slots i (Reserved 0)) (get_or vs i 0))
    → new ++ spelled (drop (i + 1) slots) (drop (i + 1) vs) ≡ old
unfolding spelled
written_more slots vs i old bits new lt lv h e =
    let s : Slot = get_or slots i (Reserved 0) in
    let v : ℕ = get_or vs i 0 in
    let split : spelled (drop i slots) (drop i vs) ≡ bits_of (width s) (code_of s v) ++ spelled (drop (i + 1) slots) (drop (i + 1) vs) =
    ap (λ ss. spelled ss (drop i vs)) (next_slot slots i lt) ∙ ap (λ (x : List ℕ). spelled (s ∷ drop (i + 1) slots) x) (drop_more vs i 0 lv) in
    ap (λ (x : List Bool). x ++ spelled (drop (i + 1) slots) (drop (i + 1) vs)) e
    ∙ append_assoc bits (bits_of (width s) (code_of s v)) (spelled (drop (i + 1) slots) (drop (i + 1) vs))
    ∙ ap (λ (x : List Bool). bits ++ x) (sym split) ∙ h

pub written_all : (slots : List Slot) (vs : List ℕ) (i : ℕ) (old bits : List Bool) → length slots ≤ i
    → bits ++ spelled (drop i slots) (drop i vs) ≡ old → bits ≡ old
unfolding spelled
written_all slots vs i old bits le h =
    sym (append-nil bits) ∙ ap (λ ss. bits ++ spelled ss (drop i vs)) (sym (drop_all i slots le)) ∙ h

-- so many bits are still to be written
pub total_left : (slots : List Slot) (i : ℕ) → i < length slots → total (drop i slots) ≡ width (get_or slots i (Reserved 0)) + total (drop (i + 1) slots)
unfolding total
total_left slots i lt = ap total (next_slot slots i lt)

pub total_none : (slots : List Slot) (i : ℕ) → length slots ≤ i → total (drop i slots) ≡ 0
unfolding total
total_none slots i le = ap total (drop_all i slots le)

-- no slot is wide
pub narrow_width : (slots : List Slot) (i : ℕ) → i < length slots → AreNarrow slots → width (get_or slots i (Reserved 0)) ≤ 16
narrow_width slots i lt h = by_kind (get_or slots i (Reserved 0)) (slot_narrow slots i lt h)
  where
    by_kind : (s : Slot) → IsNarrow s → width s ≤ 16
    by_kind (Reserved n) h = h
    by_kind (Plain n least) h = h.0
    by_kind (Modulo n) h = h
