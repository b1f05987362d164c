-- Rooms that a loop writes place after place.
use Rattle.std.proofs.Common.{◌≡◌, ℕ, ◌+◌, ◌<◌, List, length, get_or, set, arith, ◌∙◌, ap, sym, inl, inr, get_or-set_same, get_or-set_other}
use Rattle.std.proofs.lemmas.Bool.{cases_eq}

pub written_next : {X : Type 0} (d : X) (f : ℕ → X) (out : List X) (i : ℕ) (v : X) → i < length out → v ≡ f i → ((k : ℕ) → k < i → get_or out k d ≡ f k)
    → (k : ℕ) → k < i + 1 → get_or (set out i v) k d ≡ f k
written_next d f out i v h e b k l =
    elim (cases_eq k i) [
      | inl s ↦ ap (λ n. get_or (set out i v) n d) s ∙ get_or-set_same out i v d h ∙ e ∙ ap f (sym s)
      | inr n ↦ get_or-set_other out i k v d n ∙ b k (omega arith)
    ]
