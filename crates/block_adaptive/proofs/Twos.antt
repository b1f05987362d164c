-- A loop that reads pairs.
use Rattle.std.proofs.Common.{◌≡◌, ℕ, suc, ◌+◌, ◌-◌, ◌*◌, ◌<◌, ◌≤◌, Bool, List, [], ◌∷◌, ◌++◌, length, take, set, Result, Ok, Err, refl, sym, ap, ◌∙◌, arith}
use Rattle.std.proofs.Common.{append_assoc}
use Rattle.std.proofs.lemmas.List.{append-nil, length-set, take_all, take_more_set}
use Rattle.cube_core.specs.declared.fault.Fault.{Fault}
use Rattle.cube_core.specs.Steps.{◌>>=◌}
use Rattle.header_bits.proofs.Each.{with_front}
use Rattle.block_adaptive.specs.Reading.{Site, fundamental_at, pair_of, pairs_at}

two_more : (front : List ℕ) (a b : ℕ) (read : Result (List ℕ × List Bool) Fault) → with_front front (read >>= λ x. Ok (a ∷ b ∷ x.0, x.1))
    ≡ with_front ((front ++ a ∷ []) ++ b ∷ []) read
two_more front a b (Ok x) = ap (λ vs. Ok (vs, x.1)) (simp append_assoc)
two_more front a b (Err e) = refl

-- i pairs were read
pub record TwosRead (site : Site) (most half : ℕ) (start : List Bool) (i : ℕ) (vs : List ℕ) (bits : List Bool) : Type 0 where
  pub so_far : with_front (take (2 * i) vs) (pairs_at site most (half - i) bits) ≡ pairs_at site most half start

module _ {site : Site} {most half i : ℕ} {start bits : List Bool} {vs : List ℕ} where
  pub twos_more : {m a b : ℕ} {after : List Bool} → TwosRead site most half start i vs bits → 2 * half ≤ length vs → i < half
      → fundamental_at site (2 * most * (most + 1)) bits ≡ Ok (m, after) → pair_of site most m after ≡ Ok ((a, b), after)
      → TwosRead site most half start (i + 1) (set (set vs (2 * i) a) (2 * i + 1) b) after
  unfolding pairs_at
  twos_more {a = a} {b = b} {after = after} h room lt code pair =
      let n : half - i ≡ suc (half - (i + 1)) = omega arith in
      let one : with_front (take (2 * i) vs) (pairs_at site most (half - i) bits) ≡ with_front ((take (2 * i) vs ++ a ∷ []) ++ b ∷ [])
      (pairs_at site most (half - (i + 1)) after) = rw (n, code, pair) (two_more _ a b _) in
      let e : 2 * (i + 1) ≡ 2 * i + 1 + 1 = omega arith in
      let second = take_more_set (set vs (2 * i) a) (2 * i + 1) b (omega (arith, length-set vs (2 * i) a)) in
      record { so_far = rw (e, second, take_more_set vs (2 * i) a (omega arith)) (sym one ∙ h.so_far) }

  pub code_ends : {e : Fault} → TwosRead site most half start i vs bits → i < half → fundamental_at site (2 * most * (most + 1)) bits ≡ Err e
      → pairs_at site most half start ≡ Err e
  unfolding pairs_at
  code_ends h lt code = (let n : half - i ≡ suc (half - (i + 1)) = omega arith in sym h.so_far ∙ rw (n, code) refl)

  pub pair_ends : {m : ℕ} {after : List Bool} {e : Fault} → TwosRead site most half start i vs bits → i < half
      → fundamental_at site (2 * most * (most + 1)) bits ≡ Ok (m, after) → pair_of site most m after ≡ Err e → pairs_at site most half start ≡ Err e
  unfolding pairs_at
  pair_ends h lt code pair = (let n : half - i ≡ suc (half - (i + 1)) = omega arith in sym h.so_far ∙ rw (n, code, pair) refl)

  pub twos_done : TwosRead site most half start i vs bits → i ≡ half → length vs ≡ 2 * half → pairs_at site most half start ≡ Ok (vs, bits)
  unfolding pairs_at
  twos_done h same len = grind (arith, append-nil, take_all)
