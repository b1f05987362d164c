-- What collects residuals takes lists one after another.
use Rattle.std.specs.Prelude.{◌≡◌, ℕ, Bool, true, false, List, [], ◌++◌, IsTrue}
use Rattle.std.proofs.Common.{refl, sym, ap, ◌∙◌, append-nil, append_assoc}
use Rattle.file_encoding.specs.Takings.{AreTakings}
use Rattle.speed.specs.declared.collected.Collected.{Collected}

-- it has taken all of a list, or there was no memory for it
abbrev pub Collects : Collected → Collected → Bool → List ℕ → Type 0
Collects old new all list = IsTrue all → new.residuals.items ≡ old.residuals.items ++ list

collects_none : (c : Collected) → Unit {0} → Collects c c true []
collects_none c may all = sym (append-nil c.residuals.items)

collects_append : (old mid new : Collected) (all : Bool) (xs ys : List ℕ) → Collects old mid true xs → Collects mid new all ys → Collects old new all (xs ++ ys)
collects_append old mid new all xs ys a b h = b h ∙ ap (λ (ns : List ℕ). ns ++ ys) (a refl) ∙ append_assoc old.residuals.items xs ys

collects_cut : (old new : Collected) (xs ys : List ℕ) → Collects old new false xs → Collects old new false (xs ++ ys)
collects_cut old new xs ys a h = absurd (cc)

pub collectings_are : AreTakings {S = Collected} (λ c list. Unit {0}) (λ old new all list. Collects old new all list)
collectings_are = record {
  less = λ c xs ys may. tt;
  more = λ old new xs ys a may. tt;
  none = collects_none;
  append = collects_append;
  cut = collects_cut;
}
