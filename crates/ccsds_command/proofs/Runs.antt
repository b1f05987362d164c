-- What a run tells once its result is made and written.
use Rattle.std.proofs.Common.{◌≡◌, ◌⊎◌, ℕ, List, Result, Ok, Err, OnOk, IfOk, IfErr, inr, subst, sym}

-- where the writing ends well, the sink gained a result of which this is known
pub gained : {T E : Type 0} (r : Result T E) (P Q : List ℕ → Type 0) (bytes : List ℕ) → P bytes → OnOk r (Q bytes) → OnOk r ((made : List ℕ) × P made × Q made)
gained (Ok t) P Q bytes known took = (bytes, known, took)
gained (Err e) P Q bytes known took = tt

-- where it is cut short, it was a result of which this is known
pub cut_short : {T E : Type 0} (r : Result T E) (Before : E → Type 0) (P : List ℕ → Type 0) (Q : List ℕ → E → Type 0) (bytes : List ℕ) → P bytes
    → IfErr r (Q bytes) → IfErr r (λ e. Before e ⊎ ((made : List ℕ) × P made × Q made e))
cut_short (Ok t) Before P Q bytes known cut = tt
cut_short (Err e) Before P Q bytes known cut = inr (bytes, known, cut)

-- what two facts of a result tell together
pub ok_by_both : {T E : Type 0} (r : Result T E) (P Q R : T → Type 0) → IfOk r P → IfOk r Q → ((t : T) → P t → Q t → R t) → IfOk r R
ok_by_both (Ok t) P Q R h k both = both t h k
ok_by_both (Err e) P Q R h k both = tt

-- what is known of what a call was given is known of what it was to be given
pub given : {X : Type 0} (P : X → Type 0) (x y : X) → P y → x ≡ y → P x
given P x y known same = subst P (sym same) known
