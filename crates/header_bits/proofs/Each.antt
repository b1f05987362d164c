-- A loop that reads numbers into the places of a list, one or a few at a time.
use Rattle.std.proofs.Common.{◌≡◌, ℕ, ◌+◌, ◌<◌, ◌≤◌, Bool, List, [], ◌∷◌, ◌++◌, length, take, drop, set, get_or, Result, Ok, Err, refl, sym, ap, ◌∙◌, arith}
use Rattle.std.proofs.Common.{append_assoc, suc, map, subst}
use Rattle.std.proofs.lemmas.List.{append-nil, drop_all, drop_at, drop_more, drop-set-lt, length-append, length-take, take_all, take-append-drop, take_at}
use Rattle.std.proofs.lemmas.List.{take_more_set}
use Rattle.cube_core.specs.declared.fault.Fault.{Fault}
use Rattle.cube_core.specs.Steps.{◌>>=◌}
use Rattle.std.specs.List.{flat_map, AllByRecursion}
use Rattle.header_bits.proofs.Fronts.{bind_ok}
use Rattle.header_bits.proofs.Reading.{ok_is}

abbrev pub Reader : Type 0
Reader = ℕ → List Bool → Result (ℕ × List Bool) Fault

unfoldable pub each_at : Reader → List ℕ → List Bool → Result (List ℕ × List Bool) Fault
each_at f [] bits = Ok ([], bits)
each_at f (x ∷ xs) bits = f x bits >>= λ v. each_at f xs v.1 >>= λ vs. Ok (v.0 ∷ vs.0, vs.1)

abbrev pub with_front : List ℕ → Result (List ℕ × List Bool) Fault → Result (List ℕ × List Bool) Fault
with_front front read = read >>= λ x. Ok (front ++ x.0, x.1)

front_both : (a b : List ℕ) (read : Result (List ℕ × List Bool) Fault) → with_front a (with_front b read) ≡ with_front (a ++ b) read
front_both a b (Ok x) = ap (λ (vs : List ℕ). Ok (vs, x.1)) (sym (append_assoc a b x.0))
front_both a b (Err e) = refl

pub front_none : (read : Result (List ℕ × List Bool) Fault) → with_front [] read ≡ read
front_none (Ok x) = refl
front_none (Err e) = refl

pub bind_same : {A B : Type 0} (r : Result A Fault) (f g : A → Result B Fault) → ((x : A) → f x ≡ g x) → (r >>= f) ≡ (r >>= g)
bind_same (Ok x) f g h = h x
bind_same (Err e) f g h = refl

each_append : (f : Reader) (xs ys : List ℕ) (bits : List Bool) → each_at f (xs ++ ys) bits ≡ (each_at f xs bits >>= λ x. with_front x.0 (each_at f ys x.1))
unfolding each_at
each_append f [] ys bits = sym (front_none (each_at f ys bits))
each_append f (x ∷ xs) ys bits = first (f x bits) (each_append f xs ys)
  where
    rest : (v : ℕ) (r : Result (List ℕ × List Bool) Fault) → with_front (v ∷ []) (r >>= λ y. with_front y.0 (each_at f ys y.1))
        ≡ (with_front (v ∷ []) r >>= λ y. with_front y.0 (each_at f ys y.1))
    rest v (Ok y) = front_both (v ∷ []) y.0 (each_at f ys y.1)
    rest v (Err e) = refl

    first : (r : Result (ℕ × List Bool) Fault)
        → ((left : List Bool) → each_at f (xs ++ ys) left ≡ (each_at f xs left >>= λ y. with_front y.0 (each_at f ys y.1)))
        → (r >>= λ v. with_front (v.0 ∷ []) (each_at f (xs ++ ys) v.1)) ≡ ((r >>= λ v. with_front (v.0 ∷ []) (each_at f xs v.1)) >>= λ y. with_front y.0
        (each_at f ys y.1))
    first (Ok v) h = ap (with_front (v.0 ∷ [])) (h v.1) ∙ rest v.0 (each_at f xs v.1)
    first (Err e) h = refl

-- ---- some of the values were read

pub record AreRead (f : Reader) (old : List ℕ) (start : List Bool) (i : ℕ) (xs : List ℕ) (bits : List Bool) : Type 0 where
  pub so_far : with_front (take i xs) (each_at f (drop i xs) bits) ≡ each_at f old start

pub each_start : (f : Reader) (xs : List ℕ) (bits : List Bool) → AreRead f xs bits 0 xs bits
each_start f xs bits = record { so_far = front_none (each_at f xs bits) }

module _ {f : Reader} {old : List ℕ} {start : List Bool} {i : ℕ} {xs : List ℕ} {bits : List Bool} where
  each_step : (a b new ys : List ℕ) (j : ℕ) (after : List Bool) → AreRead f old start i xs bits → drop i xs ≡ a ++ b → each_at f a bits ≡ Ok (new, after)
      → take j ys ≡ take i xs ++ new → drop j ys ≡ b → AreRead f old start j ys after
  each_step a b new ys j after h parts read front rest =
      let split : each_at f (drop i xs) bits ≡ with_front new (each_at f b after) = ap (λ (l : List ℕ). each_at f l bits) parts ∙ each_append f a b bits
      ∙ ap (λ (r : Result (List ℕ × List Bool) Fault). r >>= λ x. with_front x.0 (each_at f b x.1)) read in
      record { so_far = rw (front, rest) (sym (ap (with_front (take i xs)) split ∙ front_both (take i xs) new (each_at f b after)) ∙ h.so_far) }

  each_fails : (a b : List ℕ) (e : Fault) → AreRead f old start i xs bits → drop i xs ≡ a ++ b → each_at f a bits ≡ Err e → each_at f old start ≡ Err e
  each_fails a b e h parts read =
      sym h.so_far ∙ ap (with_front (take i xs)) (ap (λ (l : List ℕ). each_at f l bits) parts ∙ each_append f a b bits
      ∙ ap (λ (r : Result (List ℕ × List Bool) Fault). r >>= λ x. with_front x.0 (each_at f b x.1)) read)

  pub each_done : AreRead f old start i xs bits → length xs ≤ i → each_at f old start ≡ Ok (xs, bits)
  unfolding each_at
  each_done h le = sym h.so_far ∙ rw (drop_all i xs le, take_all i xs le) (ap (λ (vs : List ℕ). Ok (vs, bits)) (append-nil xs))

  -- one more
  pub each_more : {v : ℕ} {after : List Bool} → AreRead f old start i xs bits → i < length xs → f (get_or xs i 0) bits ≡ Ok (v, after)
      → AreRead f old start (i + 1) (set xs i v) after
  unfolding each_at
  each_more {v} {after} h lt read =
      each_step (get_or xs i 0 ∷ []) (drop (i + 1) xs) (v ∷ []) (set xs i v) (i + 1) after h (drop_more xs i 0 lt) (rw read refl) (take_more_set xs i v lt)
      (drop-set-lt (i + 1) xs i v (omega arith))

  pub each_ends : {e : Fault} → AreRead f old start i xs bits → i < length xs → f (get_or xs i 0) bits ≡ Err e → each_at f old start ≡ Err e
  unfolding each_at
  each_ends {e} h lt read = each_fails (get_or xs i 0 ∷ []) (drop (i + 1) xs) e h (drop_more xs i 0 lt) (rw read refl)

  -- n more
  pub some_more : {new : List ℕ} {after : List Bool} → (n : ℕ) → AreRead f old start i xs bits → i + n ≤ length xs → length new ≡ n
      → each_at f (take n (drop i xs)) bits ≡ Ok (new, after) → AreRead f old start (i + n) (take i xs ++ (new ++ drop n (drop i xs))) after
  some_more {new} {after} n h le long read =
      let later : List ℕ = drop n (drop i xs) in
      let whole : (take i xs ++ new) ++ later ≡ take i xs ++ (new ++ later) = append_assoc (take i xs) new later in
      let size : length (take i xs ++ new) ≡ i + n = omega (arith, length-append (take i xs) new, length-take i xs) in
      each_step (take n (drop i xs)) later new (take i xs ++ (new ++ later)) (i + n) after h (sym (take-append-drop n (drop i xs))) read
      (ap (take (i + n)) (sym whole) ∙ take_at (take i xs ++ new) later (i + n) size) (ap (drop (i + n)) (sym whole)
      ∙ drop_at (take i xs ++ new) later (i + n) size)

  pub some_end : {e : Fault} → (n : ℕ) → AreRead f old start i xs bits → each_at f (take n (drop i xs)) bits ≡ Err e → each_at f old start ≡ Err e
  some_end {e} n h read = each_fails (take n (drop i xs)) (drop n (drop i xs)) e h (sym (take-append-drop n (drop i xs))) read

-- ---- what is read as values was spelled by them

-- a list that was read: its bits, its length, and a bound of its numbers
pub record TakesList (spelling : List ℕ → List Bool) (n : ℕ) (P : ℕ → Type 0) (bits : List Bool) (x : List ℕ × List Bool) : Type 0 where
  pub parts : bits ≡ spelling x.0 ++ x.1
  pub len : length x.0 ≡ n
  pub all : AllByRecursion P x.0

module _ (f : Reader) (text : ℕ → List Bool) where
  pub each_takes : (P : ℕ → Type 0) → ((x : ℕ) (left : List Bool) (v : ℕ × List Bool) → f x left ≡ Ok v → (left ≡ text v.0 ++ v.1) × P v.0)
      → (xs : List ℕ) (bits : List Bool) (y : List ℕ × List Bool) → each_at f xs bits ≡ Ok y → TakesList (flat_map text) (length xs) P bits y
  unfolding each_at
  each_takes P h [] bits y e = subst (TakesList (flat_map text) 0 P bits) (ok_is ([], bits) y e) (record { parts = refl; len = refl; all = tt })
  each_takes P h (x ∷ xs) bits y e =
      let a = bind_ok (f x bits) (λ v. each_at f xs v.1 >>= λ vs. Ok (v.0 ∷ vs.0, vs.1)) y e in
      let b = bind_ok (each_at f xs a.0.1) (λ vs. Ok (a.0.0 ∷ vs.0, vs.1)) y a.2 in
      let first = h x bits a.0 a.1 in
      let others = each_takes P h xs a.0.1 b.0 b.1 in
      subst (TakesList (flat_map text) (length (x ∷ xs)) P bits) (ok_is (a.0.0 ∷ b.0.0, b.0.1) y b.2) (record {
        parts = first.0 ∙ ap (λ bs. text a.0.0 ++ bs) others.parts ∙ sym (append_assoc (text a.0.0) (flat_map text b.0.0) b.0.1);
        len = ap suc others.len;
        all = (first.1, others.all);
      })

pub each_maps : (f : Reader) (g : ℕ → ℕ) → ((x : ℕ) (left : List Bool) (v : ℕ × List Bool) → f x left ≡ Ok v → g v.0 ≡ x) → (xs : List ℕ) (bits : List Bool)
    (y : List ℕ × List Bool) → each_at f xs bits ≡ Ok y → map g y.0 ≡ xs
unfolding each_at
each_maps f g h [] bits y e = subst (λ (z : List ℕ × List Bool). map g z.0 ≡ []) (ok_is ([], bits) y e) refl
each_maps f g h (x ∷ xs) bits y e =
    let a = bind_ok (f x bits) (λ v. each_at f xs v.1 >>= λ vs. Ok (v.0 ∷ vs.0, vs.1)) y e in
    let b = bind_ok (each_at f xs a.0.1) (λ vs. Ok (a.0.0 ∷ vs.0, vs.1)) y a.2 in
    subst (λ (z : List ℕ × List Bool). map g z.0 ≡ x ∷ xs) (ok_is (a.0.0 ∷ b.0.0, b.0.1) y b.2) (rw (h x bits a.0 a.1, each_maps f g h xs a.0.1 b.0 b.1) refl)
