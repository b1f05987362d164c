-- Lists that are gone through from the front.
use Rattle.std.proofs.Common.{◌≡◌, ℕ, suc, zero, ◌+◌, ◌<◌, List, [], ◌∷◌, ◌++◌, length, take, drop, get_or, map, ap, arith, refl, ◌∙◌, add-one, subst, Option}
use Rattle.std.proofs.Common.{Some, None, IfSome, inl, inr, ◌⊎◌}
use Rattle.std.proofs.lemmas.List.{take_more, get_or-map}

-- the head of what is left, and what is left after it
pub record Head {A : Type 0} (xs zs : List A) (n : ℕ) (x : A) : Type 0 where
  pub below : n < length xs
  pub here : (d : A) → get_or xs n d ≡ x
  pub left : zs ≡ drop (n + 1) xs

pub drop_head : {A : Type 0} (xs zs : List A) (n : ℕ) (x : A) → drop n xs ≡ x ∷ zs → Head xs zs n x
drop_head [] zs zero x e = cc
drop_head [] zs (suc n) x e = cc
drop_head (y ∷ ys) zs zero x e = record { below = omega arith; here = λ d. cc; left = (let r : zs ≡ ys = cc in r) }
drop_head (y ∷ ys) zs (suc n) x e =
    let h = drop_head ys zs n x e in
    let l : zs ≡ drop (suc n) ys = rw add-one at h.left in
    record { below = omega (arith, h.below); here = λ d. h.here d; left = rw add-one l }

-- one more of a list that is copied in order
pub copy_step : {A : Type 0} (xs ys : List A) (n : ℕ) (x : A) → ys ≡ take n xs → n < length xs → get_or xs n x ≡ x → ys ++ x ∷ [] ≡ take (n + 1) xs
copy_step xs ys n x e l at = rw (take_more xs n x l, at, e) refl

pub head_map : {A B : Type 0} {xs zs : List A} {n : ℕ} {x : A} → Head xs zs n x → (f : A → B) (e : B) → get_or (map f xs) n e ≡ f x
head_map {xs = xs} {n = n} {x = x} h f e = get_or-map f xs n x e h.below ∙ ap f (h.here x)

-- what is known of what was found, before or now
pub some_step : {R : Type 0} (o now : Option R) (P Q : R → Type 0) → IfSome now (λ r. (o ≡ Some r) ⊎ Q r) → IfSome o P → ((r : R) → Q r → P r) → IfSome now P
some_step o None P Q h k f = tt
some_step o (Some r) P Q h k f = elim h [ inl e ↦ subst (λ u. IfSome u P) e k | inr q ↦ f r q ]
