-- What takes residuals: it may take some, and it takes the whole of a list or stops inside it.
use Rattle.std.specs.Prelude.{ℕ, Bool, true, false, List, [], ◌++◌}

-- lists may be taken one after another
pub record AreTakings {S : Type 0} (may : S → List ℕ → Type 0) (takes : S → S → Bool → List ℕ → Type 0) : Type 0 where
  pub less : (s : S) (xs ys : List ℕ) → may s (xs ++ ys) → may s xs
  pub more : (old new : S) (xs ys : List ℕ) → takes old new true xs → may old (xs ++ ys) → may new ys
  pub none : (s : S) → may s [] → takes s s true []
  pub append : (old mid new : S) (all : Bool) (xs ys : List ℕ) → takes old mid true xs → takes mid new all ys → takes old new all (xs ++ ys)
  pub cut : (old new : S) (xs ys : List ℕ) → takes old new false xs → takes old new false (xs ++ ys)
