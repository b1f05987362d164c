-- One slot, and a row of them.
use Rattle.std.proofs.Common.{◌≡◌, ℕ, zero, suc, ◌+◌, ◌^◌, ◌<◌, ◌≤◌, Bool, List, [], ◌∷◌, ◌++◌, length, take, drop, refl, sym, ap, ◌∙◌, append_assoc, arith}
use Rattle.std.proofs.Common.{inl, inr}
use Rattle.std.proofs.Math.Nat.{mod-eq_of_lt, mod_self}
use Rattle.std.proofs.lemmas.Nat.{pow_pos}
use Rattle.std.proofs.lemmas.Bool.{cases_lt, cases_eq, eq-eqb, ne_eqb}
use Rattle.std.proofs.lemmas.List.{take_at, drop_at, length-append, length-drop, length-take-le}
use Rattle.header_bits.specs.Bits.{bits_of, number_of}
use Rattle.header_bits.proofs.Numbers.{length-bits_of, number_of-bits_of, number_below, bits_of-number_of}
use Rattle.header_bits.specs.declared.layout.Slot.{Slot}
use Rattle.header_bits.specs.declared.layout.Slot.TheVariants.{Reserved, Plain, Modulo}
use Rattle.header_bits.specs.Layout.{width, value_of, code_of, IsValue, AreValues, total, spelled, values}

pub code_of-below : (s : Slot) (v : ℕ) → IsValue s v → code_of s v < 2 ^ width s
code_of-below (Reserved n) v h = h
code_of-below (Plain n least) v h = omega (arith, h.0, h.1)
code_of-below (Modulo n) v h =
    elim (cases_lt v (2 ^ n)) [
      | inl lt ↦ rw (mod-eq_of_lt lt) lt
      | inr le ↦ let e : v ≡ 2 ^ n = omega (arith, h.1) in rw (e, mod_self (2 ^ n)) (pow_pos n)
    ]

-- the value that is written is the value that is read
pub value_again : (s : Slot) (v : ℕ) → IsValue s v → value_of s (code_of s v) ≡ v
value_again (Reserved n) v h = refl
value_again (Plain n least) v h = omega (arith, h.0)
value_again (Modulo n) v h =
    elim (cases_lt v (2 ^ n)) [
      | inl lt ↦ rw (mod-eq_of_lt lt, ne_eqb v 0 (λ e. omega (arith, h.0))) refl
      | inr le ↦ let e : v ≡ 2 ^ n = omega (arith, h.1) in rw (e, mod_self (2 ^ n)) refl
    ]

-- the code that is read is the code that would be written
pub code_again : (s : Slot) (c : ℕ) → c < 2 ^ width s → (code_of s (value_of s c) ≡ c) × IsValue s (value_of s c)
code_again (Reserved n) c h = (refl, h)
code_again (Plain n least) c h = (omega arith, (omega arith, omega arith))
code_again (Modulo n) c h =
    elim (cases_eq c 0) [
      | inl e ↦ rw (eq-eqb c 0 e) (mod_self (2 ^ n) ∙ sym e, (pow_pos n, omega arith))
      | inr ne ↦ rw (ne_eqb c 0 ne) (mod-eq_of_lt h, (omega (arith, ne), omega arith))
    ]

pub length-spelled : (ss : List Slot) (vs : List ℕ) → AreValues ss vs → length (spelled ss vs) ≡ total ss
unfolding spelled total
length-spelled [] [] h = refl
length-spelled [] (v ∷ vs) h = elim h [ ]
length-spelled (s ∷ ss) [] h = elim h [ ]
length-spelled (s ∷ ss) (v ∷ vs) h =
    length-append (bits_of (width s) (code_of s v)) (spelled ss vs) ∙ omega (arith, length-bits_of (width s) (code_of s v), length-spelled ss vs h.1)

-- what is spelt is read
pub values_again : (ss : List Slot) (vs : List ℕ) (rest : List Bool) → AreValues ss vs → values ss (spelled ss vs ++ rest) ≡ vs
unfolding spelled values
values_again [] [] rest h = refl
values_again [] (v ∷ vs) rest h = elim h [ ]
values_again (s ∷ ss) [] rest h = elim h [ ]
values_again (s ∷ ss) (v ∷ vs) rest h =
    let code : ℕ = code_of s v in
    let first : List Bool = bits_of (width s) code in
    let others : List Bool = spelled ss vs ++ rest in
    let parts : (first ++ spelled ss vs) ++ rest ≡ first ++ others = append_assoc first (spelled ss vs) rest in
    let number : number_of first ≡ code = number_of-bits_of (width s) code ∙ mod-eq_of_lt (code_of-below s v h.0) in
    rw (
      parts,
      take_at first others (width s) (length-bits_of (width s) code),
      drop_at first others (width s) (length-bits_of (width s) code),
      number,
      value_again s v h.0,
      values_again ss vs rest h.1,
    ) refl

abbrev nothing : List Bool
nothing = []

take_nil : (n : ℕ) → nothing ≡ take n nothing
take_nil zero = refl
take_nil (suc n) = refl

take_both : (m n : ℕ) (xs : List Bool) → take (m + n) xs ≡ take m xs ++ take n (drop m xs)
take_both zero n xs = ap (λ k. take k xs) (omega arith)
take_both (suc m) n [] = let e : suc m + n ≡ suc (m + n) = omega arith in rw e (take_nil n)
take_both (suc m) n (x ∷ xs) = let e : suc m + n ≡ suc (m + n) = omega arith in rw e (ap (λ (t : List Bool). x ∷ t) (take_both m n xs))

below_same : (c m n : ℕ) → c < 2 ^ m → m ≡ n → c < 2 ^ n
below_same c m n lt e = rw (← e) lt

-- what is read is spelt so
pub spelled_again : (ss : List Slot) (bits : List Bool) → total ss ≤ length bits
    → (spelled ss (values ss bits) ≡ take (total ss) bits) × AreValues ss (values ss bits)
unfolding spelled values total
spelled_again [] bits le = (refl, tt)
spelled_again (s ∷ ss) bits le =
    let front : List Bool = take (width s) bits in
    let back : List Bool = drop (width s) bits in
    let front_length : length front ≡ width s = length-take-le (width s) bits (omega arith) in
    let code : ℕ = number_of front in
    let below : code < 2 ^ width s = below_same code (length front) (width s) (number_below front) front_length in
    let again = code_again s code below in
    let more = spelled_again ss back (omega (arith, length-drop (width s) bits)) in
    let same : bits_of (width s) code ≡ front = ap (λ n. bits_of n code) (sym front_length) ∙ bits_of-number_of front in
    (rw (again.0, same, more.0) (sym (take_both (width s) (total ss) bits)), (again.1, more.1))
