-- Fundamental sequences that are read first, and checked all at once.
use Rattle.std.proofs.Common.{◌≡◌, ℕ, zero, suc, ◌≤◌, Bool, List, ◌∷◌, Ok, sym, ap, subst, ◌∙◌}
use Rattle.std.specs.List.{AllByRecursion}
use Rattle.cube_core.specs.Steps.{◌>>=◌}
use Rattle.header_bits.proofs.Fronts.{bind_ok}
use Rattle.header_bits.proofs.Reading.{ok_is}
use Rattle.block_adaptive.specs.Reading.{Site, fundamental_at, quotients_at}
use Rattle.block_adaptive.proofs.Codes.{fundamental_again}
use Rattle.block_adaptive.proofs.Takes.{fundamental_takes}

-- what is read with more zeros allowed is read so too where it has few
pub checked_within : (site : Site) (most more n : ℕ) (bits : List Bool) (x : List ℕ × List Bool) → quotients_at site more n bits ≡ Ok x
    → AllByRecursion (λ v. v ≤ most) x.0 → quotients_at site most n bits ≡ Ok x
unfolding quotients_at
checked_within site most more zero bits x e h = e
checked_within site most more (suc n) bits x e h =
    let a = bind_ok _ (λ q. quotients_at site more n q.1 >>= λ qs. Ok (q.0 ∷ qs.0, qs.1)) _ e in
    let b = bind_ok _ _ _ a.2 in
    let is = ok_is (a.0.0 ∷ b.0.0, b.0.1) _ b.2 in
    let all : AllByRecursion (λ v. v ≤ most) (a.0.0 ∷ b.0.0) = subst (λ (y : List ℕ × List Bool). AllByRecursion (λ v. v ≤ most) y.0) (sym is) h in
    let first : fundamental_at site most bits ≡ Ok a.0 = ap (fundamental_at site most) (fundamental_takes _ _ _ a.0 a.1).0
    ∙ fundamental_again _ _ a.0.0 a.0.1 all.0 in
    let others = checked_within site most more n a.0.1 b.0 b.1 all.1 in
    ap (λ r. r >>= λ q. quotients_at site most n q.1 >>= λ qs. Ok (q.0 ∷ qs.0, qs.1)) first ∙ ap (λ r. r >>= λ qs. Ok (a.0.0 ∷ qs.0, qs.1)) others ∙ b.2
