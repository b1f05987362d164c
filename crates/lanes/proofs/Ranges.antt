-- What the type of a vector says of its lanes: how many there are, and that each fits.
use Rattle.std.proofs.Common.{ℕ, zero, suc, ℤ, List, [], ◌∷◌, ◌≡◌, sym, subst, length, SFits, rules}
use mir.Syntax.{Width}
use mir.Val.{Val}
use denote.Array.{Array, each}
use denote.Shadow.{shadow}
use borrow.Kind.Array.{e_s_int}
use Rattle.lanes.specs.Lanes.{lane}

each_fits : (w : Width) (v : List ℤ) (us : List Val) (k : ℕ) → shadow (each ℤ (e_s_int w).ty.own_val v us) → SFits w (lane v k)
each_fits w [] us k p = search rules
each_fits w (x ∷ v) [] k p = absurd p
each_fits w (x ∷ v) (u ∷ us) zero p = record { sfits = p.0.1 }
each_fits w (x ∷ v) (u ∷ us) (suc k) p = each_fits w v us k p.1

-- a list of n numbers that fit w
abbrev pub IsVector : Width → ℕ → List ℤ → Type 0
IsVector w n v = (length v ≡ n) × ((k : ℕ) → SFits w (lane v k))

pub vector : (w : Width) (n : ℕ) (v : List ℤ) (vs : List Val) → shadow ((Array (e_s_int w).ty n).own_val v vs) → IsVector w n v
vector w n v vs p = (p.1.0.1, λ k. each_fits w v p.0 k p.1.1)

pub fits_by : (w : Width) (x y : ℤ) → x ≡ y → SFits w y → SFits w x
fits_by w x y e f = subst (SFits w) (sym e) f
