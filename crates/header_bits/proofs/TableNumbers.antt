-- The numbers of a table, one after another.
use Rattle.std.proofs.Common.{◌≡◌, ℕ, zero, suc, ◌+◌, ◌-◌, ◌*◌, ◌^◌, ◌<◌, ◌≤◌, Bool, List, [], ◌∷◌, ◌++◌, length, take, drop, get_or, refl, sym, ap, ◌∙◌}
use Rattle.std.proofs.Common.{append_assoc, arith}
use Rattle.std.proofs.Math.Nat.{suc-mul}
use Rattle.std.proofs.lemmas.List.{take_at, drop-drop, length-append, length-replicate, append-nil}
use Rattle.header_bits.specs.Bits.{bits_of, number_of}
use Rattle.header_bits.specs.declared.layout.Slot.{Slot}
use Rattle.header_bits.specs.declared.layout.Slot.TheVariants.{Reserved, Plain}
use Rattle.header_bits.specs.Layout.{width, value_of, total, spelled, values}
use Rattle.header_bits.specs.TableParts.{fill_of, number_fields, table_fields, numbers_text}
use Rattle.header_bits.proofs.Numbers.{taken_is, length-bits_of}

-- ---- two rows of slots

total_append : (a b : List Slot) → total (a ++ b) ≡ total a + total b
unfolding total
total_append [] b = omega arith
total_append (s ∷ a) b = omega (arith, total_append a b)

values_append : (a b : List Slot) (bits : List Bool) → values (a ++ b) bits ≡ values a bits ++ values b (drop (total a) bits)
unfolding values total
values_append [] b bits = refl
values_append (s ∷ a) b bits =
    ap (λ (vs : List ℕ). value_of s (number_of (take (width s) bits)) ∷ vs)
    (values_append a b (drop (width s) bits) ∙ ap (λ (x : List Bool). values a (drop (width s) bits) ++ values b x) (drop-drop (total a) (width s) bits))

length-values : (ss : List Slot) (bits : List Bool) → length (values ss bits) ≡ length ss
unfolding values
length-values [] bits = refl
length-values (s ∷ ss) bits = ap suc (length-values ss (drop (width s) bits))

-- ---- the size of a table

pub total_numbers : (count bits : ℕ) → total (number_fields count bits) ≡ count * bits
unfolding total
total_numbers zero bits = omega arith
total_numbers (suc n) bits = omega (arith, total_numbers n bits, suc-mul n bits)

pub total_table : (count bits : ℕ) → total (table_fields count bits) ≡ count * bits + fill_of (count * bits)
unfolding total
total_table count bits = total_append (number_fields count bits) (Reserved (fill_of (count * bits)) ∷ []) ∙ omega (arith, total_numbers count bits)

-- ---- what stands in a table

values_table : (count bits : ℕ) (left : List Bool) → values (table_fields count bits) left
    ≡ values (number_fields count bits) left ++ number_of (take (fill_of (count * bits)) (drop (count * bits) left)) ∷ []
unfolding values
values_table count bits left =
    values_append (number_fields count bits) (Reserved (fill_of (count * bits)) ∷ []) left
    ∙ ap (λ n. values (number_fields count bits) left ++ number_of (take (fill_of (count * bits)) (drop n left)) ∷ []) (total_numbers count bits)

many_numbers : (count bits : ℕ) (left : List Bool) → length (values (number_fields count bits) left) ≡ count
many_numbers count bits left = length-values (number_fields count bits) left ∙ length-replicate count (Plain bits 0)

last_of : (vs : List ℕ) (v : ℕ) → get_or (vs ++ v ∷ []) (length vs) 0 ≡ v
last_of [] v = refl
last_of (w ∷ vs) v = last_of vs v

pub table_numbers : (count bits : ℕ) (left : List Bool) → take count (values (table_fields count bits) left) ≡ values (number_fields count bits) left
table_numbers count bits left =
    ap (take count) (values_table count bits left) ∙ take_at (values (number_fields count bits) left)
    (number_of (take (fill_of (count * bits)) (drop (count * bits) left)) ∷ []) count (many_numbers count bits left)

pub table_zeros : (count bits : ℕ) (left : List Bool)
    → get_or (values (table_fields count bits) left) count 0 ≡ number_of (take (fill_of (count * bits)) (drop (count * bits) left))
table_zeros count bits left =
    let numbers : List ℕ = values (number_fields count bits) left in
    let zeros : ℕ = number_of (take (fill_of (count * bits)) (drop (count * bits) left)) in
    ap (λ (vs : List ℕ). get_or vs count 0) (values_table count bits left)
    ∙ ap (λ n. get_or (numbers ++ zeros ∷ []) n 0) (sym (many_numbers count bits left)) ∙ last_of numbers zeros

-- ---- one number more

-- a number was taken, of those that are still to be read
number_next : (n m bits code : ℕ) (left new : List Bool) → n ≡ suc m → code < 2 ^ bits → left ≡ bits_of bits code ++ new
    → values (number_fields n bits) left ≡ code ∷ values (number_fields m bits) new
unfolding values
number_next n m bits code left new e below taken =
    let p = taken_is bits code left new below taken in
    let split : values (number_fields (suc m) bits) left ≡ (0 + number_of (take bits left)) ∷ values (number_fields m bits) (drop bits left) = refl in
    let same : 0 + number_of (take bits left) ≡ code = omega (arith, p.0) in
    ap (λ k. values (number_fields k bits) left) e ∙ split ∙ ap (λ k. k ∷ values (number_fields m bits) (drop bits left)) same
    ∙ ap (λ (x : List Bool). code ∷ values (number_fields m bits) x) (sym p.1)

number_enough : (n m bits : ℕ) (left : List Bool) → n ≡ suc m → n * bits ≤ length left → bits ≤ length left
number_enough n m bits left e le = (let split : n * bits ≡ m * bits + bits = ap (λ k. k * bits) e ∙ suc-mul m bits in omega (arith, split, le))

number_whole : (n m bits code : ℕ) (left new : List Bool) → n ≡ suc m → n * bits ≤ length left → left ≡ bits_of bits code ++ new → m * bits ≤ length new
number_whole n m bits code left new e le taken =
    let split : n * bits ≡ m * bits + bits = ap (λ k. k * bits) e ∙ suc-mul m bits in
    let long : length left ≡ bits + length new =
    ap length taken ∙ length-append (bits_of bits code) new ∙ ap (λ k. k + length new) (length-bits_of bits code) in
    omega (arith, split, le, long)

number_rest : (n m bits code : ℕ) (left new : List Bool) → n ≡ suc m → code < 2 ^ bits → left ≡ bits_of bits code ++ new
    → drop (m * bits) new ≡ drop (n * bits) left
number_rest n m bits code left new e below taken =
    let p = taken_is bits code left new below taken in
    let split : bits + m * bits ≡ n * bits = sym (ap (λ k. k * bits) e ∙ suc-mul m bits ∙ omega arith) in
    ap (drop (m * bits)) p.1 ∙ drop-drop (m * bits) bits left ∙ ap (λ k. drop k left) split

-- a number was taken, the i-th of so many: how those after it stand to those from it on
pub record Takes (count i bits code : ℕ) (left new : List Bool) : Type 0 where
  pub numbers : values (number_fields (count - i) bits) left ≡ code ∷ values (number_fields (count - (i + 1)) bits) new
  pub rest : drop ((count - (i + 1)) * bits) new ≡ drop ((count - i) * bits) left
  pub whole : (count - i) * bits ≤ length left → (count - (i + 1)) * bits ≤ length new

pub number_taken : (count i bits code : ℕ) (left new : List Bool) → i < count → code < 2 ^ bits → left ≡ bits_of bits code ++ new
    → Takes count i bits code left new
number_taken count i bits code left new lt below taken =
    let next : count - i ≡ suc (count - (i + 1)) = omega (arith, lt) in
    record {
      numbers = number_next _ _ bits code left new next below taken;
      rest = number_rest _ _ bits code left new next below taken;
      whole = λ le. number_whole _ _ bits code left new next le taken;
    }

-- so many bits are there for the next one
pub number_there : (count i bits : ℕ) (left : List Bool) → i < count → (count - i) * bits ≤ length left → bits ≤ length left
number_there count i bits left lt le = number_enough (count - i) (count - (i + 1)) bits left (omega (arith, lt)) le

-- none is still to be read
pub numbers_none : (n bits : ℕ) (left : List Bool) → n ≡ 0 → values (number_fields n bits) left ≡ []
unfolding values
numbers_none n bits left e = ap (λ k. values (number_fields k bits) left) e

-- ---- what is written

pub length-numbers_text : (bits : ℕ) (vs : List ℕ) → length (numbers_text bits vs) ≡ length vs * bits
unfolding spelled
length-numbers_text bits [] = omega arith
length-numbers_text bits (v ∷ vs) = length-append (bits_of bits (v - 0)) (numbers_text bits vs)
    ∙ omega (arith, length-bits_of bits (v - 0), length-numbers_text bits vs, suc-mul (length vs) bits)

pub numbers_text_next : (bits v : ℕ) (vs : List ℕ) → numbers_text bits (v ∷ vs) ≡ bits_of bits v ++ numbers_text bits vs
unfolding spelled
numbers_text_next bits v vs = (let same : v - 0 ≡ v = omega arith in rw same refl)

-- a table's bits are its numbers and zeros
pub spelled_table : (bits fill : ℕ) (vs : List ℕ)
    → spelled (number_fields (length vs) bits ++ Reserved fill ∷ []) (vs ++ 0 ∷ []) ≡ numbers_text bits vs ++ bits_of fill 0
unfolding spelled
spelled_table bits fill [] = append-nil (bits_of fill 0)
spelled_table bits fill (v ∷ vs) =
    ap (λ (x : List Bool). bits_of bits (v - 0) ++ x) (spelled_table bits fill vs)
    ∙ sym (append_assoc (bits_of bits (v - 0)) (numbers_text bits vs) (bits_of fill 0))
