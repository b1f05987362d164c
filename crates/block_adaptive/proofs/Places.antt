-- Values in the places of a list, and zeros after them.
use Rattle.std.proofs.Common.{◌≡◌, ℕ, zero, suc, ◌+◌, ◌-◌, ◌*◌, ◌<◌, ◌≤◌, List, [], ◌∷◌, ◌++◌, length, take, drop, replicate, Ok, inl, refl, sym, ap, ◌∙◌}
use Rattle.std.proofs.Common.{arith, append_assoc, get_or, add-one, drop-cons, Err, set, inr}
use Rattle.std.proofs.lemmas.List.{append-nil, get_or-take, length-take, drop_all, replicate-append-replicate, drop-drop, drop-take, drop_at, take-append-drop}
use Rattle.std.proofs.lemmas.List.{take-append-le, take-take, take_at, length-append, take-set-le}
use Rattle.std.specs.List.{flat_map}
use Rattle.header_bits.specs.Examples.{zeros}
use Rattle.std.proofs.Math.Seq.{take-add, take-suc-set}
use Rattle.std.specs.Prelude.{Result, OnOk}
use Rattle.std.proofs.lemmas.Bool.{cases_lt}

-- of the values up to the size nothing comes after them
pub nothing_after : (size : ℕ) (values : List ℕ) → drop size (take size values) ≡ []
nothing_after size values = drop_all size (take size values) (omega (arith, length-take size values))

-- the values of blocks of zeros
pub values_of_zeros : (n size : ℕ) → flat_map (λ b. b) (replicate n (zeros size)) ≡ zeros (n * size)
values_of_zeros zero size = (let e : 0 * size ≡ 0 = omega arith in rw e refl)
values_of_zeros (suc n) size =
    let e : size + n * size ≡ suc n * size = omega arith in
    ap (λ (vs : List ℕ). zeros size ++ vs) (values_of_zeros n size) ∙ replicate-append-replicate size (n * size) 0 ∙ ap zeros e

-- zero blocks in hand
pub run_in_hand : (n size : ℕ) (values : List ℕ) → flat_map (λ b. b) (replicate n (zeros size)) ≡ drop size (take size values) ++ zeros (n * size)
run_in_hand n size values = rw (nothing_after size values) (values_of_zeros n size)

pub first_in_hand : (size i spare : ℕ) (values : List ℕ) → i < size → size ≤ length values → drop i (take size values) ++ zeros spare
    ≡ get_or values i 0 ∷ (drop (i + 1) (take size values) ++ zeros spare)
first_in_hand size i spare values lt le =
    let inside : i < length (take size values) = omega (arith, length-take size values) in
    let same : get_or (take size values) i 0 ≡ get_or values i 0 = get_or-take size values i 0 lt in
    ap (λ (vs : List ℕ). vs ++ zeros spare) (drop-cons (take size values) i 0 inside) ∙ rw (add-one, same) refl

pub taken_size : (size : ℕ) (values : List ℕ) → size ≤ 64 → length values ≡ 64 → length (take size values) ≡ size
taken_size size values le len = omega (arith, length-take size values)

pub empty_hand : (size i spare : ℕ) (values : List ℕ) → i ≡ size → spare ≡ 0 → drop i (take size values) ++ zeros spare ≡ []
empty_hand size i spare values e f = rw (e, f, nothing_after size values) refl

pub first_of_hand : (size at count spare : ℕ) (values copied later : List ℕ) → at + count ≤ size → length copied ≡ count → copied ≡ take count (drop at values)
    → drop at (take size values) ++ zeros spare ≡ take count (copied ++ later) ++ (drop (at + count) (take size values) ++ zeros spare)
first_of_hand size at count spare values copied later le long same =
    let here : List ℕ = drop at (take size values) in
    let more : at + (size - at) ≡ size = omega arith in
    let inner : here ≡ take (size - at) (drop at values) = ap (λ n. drop at (take n values)) (sym more) ∙ drop-take at (size - at) values in
    let front : take count here ≡ take count (copied ++ later) = ap (take count) inner ∙ take-take count (size - at) (drop at values) (omega arith) ∙ sym same
    ∙ sym (take_at copied later count long) in
    let split : here ≡ take count (copied ++ later) ++ drop (at + count) (take size values) = sym (take-append-drop count here)
    ∙ ap (λ (vs : List ℕ). vs ++ drop count here) front ∙ ap (λ (vs : List ℕ). take count (copied ++ later) ++ vs) (drop-drop count at (take size values)) in
    ap (λ (vs : List ℕ). vs ++ zeros spare) split ∙ append_assoc (take count (copied ++ later)) (drop (at + count) (take size values)) (zeros spare)

pub zeros_of_hand : (size at count spare : ℕ) (values filled later : List ℕ) → at ≡ size → count ≤ spare → length filled ≡ count → filled ≡ zeros count
    → drop at (take size values) ++ zeros spare ≡ take count (filled ++ later) ++ (drop at (take size values) ++ zeros (spare - count))
zeros_of_hand size at count spare values filled later same le long are =
    let none : drop at (take size values) ≡ [] = ap (λ n. drop n (take size values)) same ∙ nothing_after size values in
    let front : take count (filled ++ later) ≡ zeros count = take_at filled later count long ∙ are in
    let parts : count + (spare - count) ≡ spare = omega arith in
    rw (none, front) (ap zeros (sym parts) ∙ sym (replicate-append-replicate count (spare - count) 0))

-- numbers that were written after others
pub written_more : (at count : ℕ) (xs ys later : List ℕ) → at ≤ length xs → count ≤ length ys → take (at + count) (take at xs ++ (ys ++ later))
    ≡ take at xs ++ take count ys
written_more at count xs ys later first second =
    let long : length (take at xs) ≡ at = omega (arith, length-take at xs) in
    take-add at count (take at xs ++ (ys ++ later)) ∙ ap (λ (vs : List ℕ). vs ++ take count (drop at (take at xs ++ (ys ++ later))))
    (take_at (take at xs) (ys ++ later) at long) ∙ ap (λ (vs : List ℕ). take at xs ++ take count vs) (drop_at (take at xs) (ys ++ later) at long)
    ∙ ap (λ (vs : List ℕ). take at xs ++ vs) (take-append-le count ys later second)

-- one value more in the array
pub held_more : (values : List ℕ) (i x : ℕ) → i < length values → take (i + 1) (set values i x) ≡ take i values ++ x ∷ []
held_more values i x lt = rw (add-one i) (take-suc-set values i x lt)

pub filled_next : (values block : List ℕ) (held i : ℕ) → held ≤ i → i < length block
    → ((n : ℕ) → held ≤ n → n ≤ i → take n block ≡ take held values ++ zeros (n - held)) → (n : ℕ) → held ≤ n → n ≤ i + 1
    → take n (set block i 0) ≡ take held values ++ zeros (n - held)
filled_next values block held i le lt h n least most =
    elim (cases_lt i n) [
      | inl above ↦
          (let e : n ≡ suc i = omega arith in
          let f : n - held ≡ (i - held) + 1 = omega arith in
          let more : zeros ((i - held) + 1) ≡ zeros (i - held) ++ 0 ∷ [] = zeros_push (i - held) in
          rw (f, more, e) (take-suc-set block i 0 lt ∙ ap (λ (ns : List ℕ). ns ++ 0 ∷ []) (h i le (omega arith))
          ∙ append_assoc (take held values) (zeros (i - held)) (0 ∷ [])))
      | inr below ↦ take-set-le n block i 0 below ∙ h n least below
    ]
  where
    zeros_push : (n : ℕ) → zeros (n + 1) ≡ zeros n ++ 0 ∷ []
    zeros_push zero = refl
    zeros_push (suc n) = (let e : suc n + 1 ≡ suc (n + 1) = omega arith in rw (e, zeros_push n) refl)

pub filled_start : (values : List ℕ) (held n : ℕ) → held ≤ n → n ≤ held → take n values ≡ take held values ++ zeros (n - held)
filled_start values held n least most =
    let e : n ≡ held = omega arith in
    let f : n - held ≡ 0 = omega arith in
    rw (f, e) (sym (append-nil (take held values)))

pub on_ok_both : {A E : Type 0} (r : Result A E) (P Q R : Type 0) → (P → Q → R) → OnOk r P → OnOk r Q → OnOk r R
on_ok_both (Ok x) P Q R f p q = f p q
on_ok_both (Err e) P Q R f p q = tt

pub on_ok_of : {A E : Type 0} (r : Result A E) (P R : Type 0) → (P → R) → OnOk r P → OnOk r R
on_ok_of (Ok x) P R f p = f p
on_ok_of (Err e) P R f p = tt

-- numbers that are written after the values held
pub held_all : (values list later : List ℕ) (held : ℕ) → held ≤ length values → take (held + length list) (take held values ++ (list ++ later))
    ≡ take held values ++ list
held_all values list later held le =
    let long : held + length list ≡ length (take held values ++ list) = omega (arith, le, length-append (take held values) list, length-take held values) in
    ap (λ (x : List ℕ). take (held + length list) x) (sym (append_assoc (take held values) list later)) ∙ take_at (take held values ++ list) later
    (held + length list) (sym long)

pub take_after : (a b : List ℕ) (n m : ℕ) → n ≡ length a + m → take n (a ++ b) ≡ a ++ take m b
take_after [] b n m e = (let f : n ≡ m = omega arith in rw f refl)
take_after (x ∷ a) b zero m e = absurd (omega arith)
take_after (x ∷ a) b (suc n) m e = ap (λ (vs : List ℕ). x ∷ vs) (take_after a b n m (omega arith))
