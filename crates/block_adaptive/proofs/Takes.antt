-- What is read as a data set was spelled by it.
use Rattle.std.proofs.Common.{◌≡◌, ℕ, suc, ◌+◌, ◌*◌, ◌/◌, ◌%◌, ◌^◌, ◌<◌, ◌≤◌, Bool, cond, ltb, List, [], ◌∷◌, ◌++◌, length, map, replicate, Ok, Err, refl, sym}
use Rattle.std.proofs.Common.{ap, subst, ◌∙◌, inl, inr, append_assoc, arith}
use Rattle.std.specs.List.{flat_map}
use Rattle.std.proofs.lemmas.Bool.{ltb-false}
use Rattle.std.proofs.lemmas.Nat.{div-mul-add, mod-mul-add}
use Rattle.std.proofs.Math.Nat.{mod-eq_of_lt}
use Rattle.std.proofs.lemmas.List.{length-replicate}
use Rattle.cube_core.specs.declared.fault.Fault.TheVariants.{BadOption}
use Rattle.header_bits.specs.Bits.{bits_of, fundamental}
use Rattle.block_adaptive.specs.Options.{quotient_codes, low_groups}
use Rattle.cube_core.specs.Steps.{◌>>=◌}
use Rattle.header_bits.specs.Reading.{number_at, zeros_at}
use Rattle.block_adaptive.specs.Reading.{Site, fundamental_at, quotients_at, low_at, lows_at, split_at, words_at}
use Rattle.header_bits.proofs.Each.{TakesList, bind_same, each_at, each_maps, each_takes, each_more, each_ends, each_done}
use Rattle.header_bits.proofs.Reading.{ok_is, number_takes}
use Rattle.header_bits.proofs.Fronts.{bind_ok, guard_ok, zeros_takes}
use Rattle.header_bits.proofs.Numbers.{same_bits}

pub fundamental_takes : (site : Site) (most : ℕ) (bits : List Bool) (x : ℕ × List Bool) → fundamental_at site most bits ≡ Ok x
    → (bits ≡ fundamental x.0 ++ x.1) × (x.0 ≤ most)
unfolding fundamental_at
fundamental_takes site most bits x e =
    let b = bind_ok (zeros_at site.count (suc most) bits) (λ z. cond (ltb most z.0) (Err (BadOption site.block)) (Ok (z.0, z.1))) _ e in
    let g = guard_ok (ltb most b.0.0) (BadOption site.block) (Ok (b.0.0, b.0.1)) _ b.2 in
    let few : b.0.0 ≤ most = ltb-false _ _ g.0 in
    subst (λ (y : ℕ × List Bool). (bits ≡ fundamental y.0 ++ y.1) × (y.0 ≤ most)) (ok_is (b.0.0, b.0.1) _ g.1) (elim (zeros_takes _ (suc most) _ b.0 b.1) [
      | inl h ↦ (h.1, few)
      | inr h ↦ absurd (omega (arith, h.0))
    ])

abbrev pub codes : List ℕ → List Bool
codes ms = flat_map fundamental ms

-- ---- the three lists that are read value after value

pub quotients_each : (site : Site) (most : ℕ) (xs : List ℕ) (bits : List Bool) → quotients_at site most (length xs) bits
    ≡ each_at (λ _ left. fundamental_at site most left) xs bits
unfolding quotients_at each_at
quotients_each site most [] bits = refl
quotients_each site most (x ∷ xs) bits =
    bind_same (fundamental_at site most bits) _ _ (λ q. ap (λ read. read >>= λ qs. Ok (q.0 ∷ qs.0, qs.1)) (quotients_each site most xs q.1))

pub lows_each : (site : Site) (k most : ℕ) (xs : List ℕ) (bits : List Bool) → lows_at site k most xs bits ≡ each_at (low_at site k most) xs bits
unfolding lows_at each_at
lows_each site k most xs bits = refl

-- what a loop over low bits takes
pub ruleset lows_steps = (lows_each, each_more, each_ends, each_done)

pub words_each : (count depth : ℕ) (xs : List ℕ) (bits : List Bool) → words_at count depth (length xs) bits ≡ each_at (λ _ left. number_at count depth left) xs
    bits
unfolding words_at each_at
words_each count depth [] bits = refl
words_each count depth (x ∷ xs) bits =
    bind_same (number_at count depth bits) _ _ (λ v. ap (λ read. read >>= λ vs. Ok (v.0 ∷ vs.0, vs.1)) (words_each count depth xs v.1))

pub quotients_takes : (site : Site) (most n : ℕ) (bits : List Bool) (x : List ℕ × List Bool) → quotients_at site most n bits ≡ Ok x
    → TakesList codes n (λ q. q ≤ most) bits x
quotients_takes site most n bits x e =
    let len : length {A = ℕ} (replicate n 0) ≡ n = length-replicate {A = ℕ} n 0 in
    rw len at (each_takes (λ _ left. fundamental_at site most left) fundamental _ (λ _ left v h. fundamental_takes site most left v h) (replicate n 0) bits x
    (sym (quotients_each site most (replicate n 0) bits) ∙ rw len e))

pub words_takes : (site : Site) (depth n : ℕ) (bits : List Bool) (x : List ℕ × List Bool) → words_at site.count depth n bits ≡ Ok x
    → TakesList (low_groups depth) n (λ v. v < 2 ^ depth) bits x
unfolding low_groups
words_takes site depth n bits x e =
    let len : length {A = ℕ} (replicate n 0) ≡ n = length-replicate {A = ℕ} n 0 in
    rw len at (each_takes (λ _ left. number_at site.count depth left) (bits_of depth) _ (λ _ left v h. number_takes site.count depth left v h) (replicate n 0)
    bits x (sym (words_each site.count depth (replicate n 0) bits) ∙ rw len e))

pub low_takes : (site : Site) (k most q : ℕ) (bits : List Bool) (x : ℕ × List Bool) → low_at site k most q bits ≡ Ok x
    → (bits ≡ bits_of k x.0 ++ x.1) × (x.0 ≤ most) × (x.0 / 2 ^ k ≡ q)
unfolding low_at
low_takes site k most q bits x e =
    let a = bind_ok _ (λ low. cond (ltb most (q * 2 ^ k + low.0)) (Err (BadOption site.block)) (Ok (q * 2 ^ k + low.0, low.1))) _ e in
    let g = guard_ok _ _ _ _ a.2 in
    let taken = number_takes _ _ _ a.0 a.1 in
    let low : (q * 2 ^ k + a.0.0) % 2 ^ k ≡ a.0.0 % 2 ^ k = mod-mul-add _ _ a.0.0 taken.1 ∙ sym (mod-eq_of_lt taken.1) in
    subst (λ (y : ℕ × List Bool). (bits ≡ bits_of k y.0 ++ y.1) × (y.0 ≤ most) × (y.0 / 2 ^ k ≡ q)) (ok_is (q * 2 ^ k + a.0.0, a.0.1) _ g.1)
    (rw (same_bits _ (q * 2 ^ k + a.0.0) a.0.0 low) taken.0, ltb-false _ _ g.0, div-mul-add _ _ a.0.0 taken.1)

codes_of_map : (k : ℕ) (vs : List ℕ) → codes (map (λ v. v / 2 ^ k) vs) ≡ quotient_codes k vs
unfolding quotient_codes
codes_of_map k [] = refl
codes_of_map k (v ∷ vs) = (λ i. fundamental (v / 2 ^ k) ++ (codes_of_map k vs) i)

pub split_takes : (site : Site) (k most n : ℕ) (bits : List Bool) (x : List ℕ × List Bool) → split_at site k most n bits ≡ Ok x
    → TakesList (λ vs. quotient_codes k vs ++ low_groups k vs) n (λ v. v ≤ most) bits x
unfolding split_at low_groups
split_takes site k most n bits x e =
    let a = bind_ok _ (λ qs. lows_at site k most qs.0 qs.1) _ e in
    let first = quotients_takes _ _ _ _ a.0 a.1 in
    let read = sym (lows_each site k most a.0.0 a.0.1) ∙ a.2 in
    let others = each_takes (low_at site k most) (bits_of k) (λ v. v ≤ most) (λ q left v h. (let t = low_takes site k most q left v h in (t.0, t.1))) a.0.0
    a.0.1 x read in
    let quotients = each_maps (low_at site k most) (λ v. v / 2 ^ k) (λ q left v h. (low_takes site k most q left v h).2) a.0.0 a.0.1 x read in
    record {
      parts = first.parts ∙ rw (sym quotients, codes_of_map k x.0, others.parts) (sym (append_assoc (quotient_codes k x.0) (low_groups k x.0) x.1));
      len = others.len ∙ first.len;
      all = others.all;
    }
