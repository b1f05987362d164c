-- A data set that is read is lawful, and the bits begin with its spelling.
use Rattle.std.proofs.Common.{◌≡◌, ℕ, zero, suc, ◌+◌, ◌-◌, ◌*◌, ◌/◌, ◌^◌, ◌<◌, ◌≤◌, ◌⊎◌, max, Bool, true, false, cond, eqb, leb, ltb, List, [], ◌∷◌, ◌++◌}
use Rattle.std.proofs.Common.{replicate, Result, Ok, refl, sym, ap, subst, ◌∙◌, inl, inr, append_assoc, arith}
use Rattle.std.proofs.lemmas.Bool.{ltb-false, eqb-true, eqb-false}
use Rattle.std.proofs.lemmas.Nat.{pow_pos}
use Rattle.cube_core.specs.declared.fault.Fault.{Fault}
use Rattle.cube_core.proofs.Greatest.{greatest_holds}
use Rattle.block_adaptive.specs.declared.options.CodeSet.{CodeSet}
use Rattle.block_adaptive.specs.declared.options.Choice.{Choice}
use Rattle.block_adaptive.specs.declared.options.Choice.TheVariants.{Uncoded, Second, Split}
use Rattle.header_bits.specs.Bits.{bits_of, fundamental}
use Rattle.block_adaptive.specs.Options.{width, greatest_value, IsOption, zero_identifier, identifier, coded, option_text, pair_codes, pair_number}
use Rattle.block_adaptive.specs.DataSets.{CodedDataSet, Run, RestOfSegment, run_code, rest_code, spelled, IsCodedDataSet}
use Rattle.header_bits.specs.Reading.{number_at, zeros_at}
use Rattle.block_adaptive.specs.Reading.{Site, pair_sum, pair_of, pairs_at, run_at, data_set_at, block_read}
use Rattle.block_adaptive.specs.Laws.{DataSetIsTaken}
use Rattle.header_bits.proofs.Reading.{ok_is, number_takes}
use Rattle.header_bits.proofs.Fronts.{bind_ok, cond_ok, guard_ok, bits_of_ones, zeros_takes}
use Rattle.header_bits.proofs.Numbers.{bits_of_zero}
use Rattle.header_bits.proofs.Each.{TakesList}
use Rattle.block_adaptive.proofs.Takes.{fundamental_takes, words_takes, split_takes}
use Rattle.header_bits.proofs.Items.{all_weaker}

-- ---- runs

abbrev TakesRun : ℕ → List Bool → CodedDataSet × List Bool → Type 0
TakesRun left bits x = ((n : ℕ) × (x.0 ≡ Run n) × (bits ≡ run_code n ++ x.1) × (1 ≤ n) × (n ≤ left)) ⊎ ((x.0 ≡ RestOfSegment) × (bits ≡ rest_code ++ x.1))

-- the run that so many zeros name
named : (z : ℕ) (c : Bool) → leb z 3 ≡ c → (z ≡ 4 → ⊥) → (run_code (cond c (z + 1) z) ≡ fundamental z) × (1 ≤ cond c (z + 1) z)
unfolding run_code
named z true three other = grind arith
named z false three other = grind arith

run_takes : (site : Site) (left : ℕ) (bits : List Bool) (x : CodedDataSet × List Bool) → run_at site left bits ≡ Ok x → TakesRun left bits x
unfolding run_at rest_code
run_takes site left bits x e =
    let a = bind_ok (zeros_at site.count (suc (max 4 left)) bits) _ _ e in
    let z : ℕ = a.0.0 in
    let g = guard_ok _ _ _ _ a.2 in
    let few : a.0.0 ≤ max 4 left = ltb-false _ _ g.0 in
    let parts : bits ≡ fundamental z ++ a.0.1 = elim (zeros_takes site.count (suc (max 4 left)) bits a.0 a.1)
    [ inl h ↦ h.1 | inr h ↦ absurd (omega (arith, h.0, few)) ] in
    elim (cond_ok (eqb z 4) _ _ _ g.1) [
      | inl k ↦ (let four : z ≡ 4 = eqb-true _ _ k.0 in subst (TakesRun left bits) (ok_is _ _ k.1) (inr (refl, rw four at parts)))
      | inr k ↦
          (let n : ℕ = cond (leb z 3) (z + 1) z in
          let is = named z (leb z 3) refl (eqb-false _ _ k.0) in
          let h = guard_ok (ltb left n) _ _ _ k.1 in
          subst (TakesRun left bits) (ok_is _ _ h.1) (inl (n, refl, rw is.0 parts, is.1, ltb-false _ _ h.0)))
    ]

-- ---- pairs

pair_takes : (site : Site) (most m : ℕ) (rest : List Bool) (x : (ℕ × ℕ) × List Bool) → m ≤ 2 * most * (most + 1) → pair_of site most m rest ≡ Ok x
    → (m ≡ pair_number x.0.0 x.0.1) × (x.0.0 ≤ most) × (x.0.1 ≤ most) × (x.1 ≡ rest)
unfolding pair_of pair_sum
pair_takes site most m rest x le e = grind (arith, greatest_holds)

pairs_takes : (site : Site) (most n : ℕ) (bits : List Bool) (x : List ℕ × List Bool) → pairs_at site most n bits ≡ Ok x
    → TakesList pair_codes (2 * n) (λ v. v ≤ most) bits x
unfolding pairs_at pair_codes
pairs_takes site most zero bits x e = subst (TakesList pair_codes 0 (λ v. v ≤ most) bits) (ok_is ([], bits) x e) (record { parts = refl; len = refl; all = tt })
pairs_takes site most (suc n) bits x e =
    let a = bind_ok _ _ _ e in
    let b = bind_ok _ _ _ a.2 in
    let d = bind_ok _ _ _ b.2 in
    let code = fundamental_takes site (2 * most * (most + 1)) bits a.0 a.1 in
    let pair = pair_takes site most a.0.0 a.0.1 b.0 code.1 b.1 in
    let others = pairs_takes site most n b.0.1 d.0 d.1 in
    subst (TakesList pair_codes (2 * suc n) (λ v. v ≤ most) bits) (ok_is (b.0.0.0 ∷ b.0.0.1 ∷ d.0.0, d.0.1) x d.2) (record {
      parts = code.0 ∙ (λ i. fundamental (pair.0 i) ++ a.0.1) ∙ (λ i. fundamental (pair_number b.0.0.0 b.0.0.1) ++ (sym pair.3 ∙ others.parts) i)
          ∙ sym (append_assoc (fundamental (pair_number b.0.0.0 b.0.0.1)) (pair_codes d.0.0) d.0.1);
      len = omega (arith, others.len);
      all = (pair.1, (pair.2, others.all));
    })

-- ---- data sets

abbrev Taken : CodeSet → ℕ → ℕ → List Bool → CodedDataSet × List Bool → Type 0
Taken s size left bits x = (bits ≡ spelled s x.0 ++ x.1) × IsCodedDataSet s size left x.0

-- a block after its identifier
block_takes : (site : Site) (s : CodeSet) (size left : ℕ) (o : Choice) (bits after : List Bool) (read : Result (List ℕ × List Bool) Fault)
    (x : CodedDataSet × List Bool) → IsOption s o → bits ≡ identifier s o ++ after
    → ((y : List ℕ × List Bool) → read ≡ Ok y → TakesList (coded s o) size (λ v. v < 2 ^ s.bits) after y) → block_read o read ≡ Ok x
    → Taken s size left bits x
unfolding spelled option_text
block_takes site s size left o bits after read x option front takes e = grind (arith, append_assoc)

in_range : (s : CodeSet) (spelling : List ℕ → List Bool) (n : ℕ) (bits : List Bool) (y : List ℕ × List Bool)
    → TakesList spelling n (λ v. v ≤ greatest_value s) bits y → TakesList spelling n (λ v. v < 2 ^ s.bits) bits y
in_range s spelling n bits y h = record { parts = h.parts; len = h.len; all = all_weaker _ _ (λ v le. omega (arith, pow_pos s.bits)) y.0 h.all }

run_text_takes : (s : CodeSet) (size left : ℕ) (bits after : List Bool) (x : CodedDataSet × List Bool) → 1 ≤ left → bits ≡ zero_identifier s ++ after
    → TakesRun left after x → Taken s size left bits x
unfolding spelled
run_text_takes s size left bits after x pos front (inl h) = grind (arith, append_assoc)
run_text_takes s size left bits after x pos front (inr h) = rw h.0 (front ∙ (λ i. zero_identifier s ++ h.1 i) ∙ sym (append_assoc _ rest_code _), pos)

zero_case : (site : Site) (s : CodeSet) (half left : ℕ) (bits after : List Bool) (more : ℕ × List Bool) (x : CodedDataSet × List Bool) (b : Bool) → 1 ≤ left
    → bits ≡ replicate (width s) false ++ after → after ≡ bits_of 1 more.0 ++ more.1 → more.0 < 2 → eqb more.0 0 ≡ b
    → cond b (run_at site left more.1) (block_read Second (pairs_at site (greatest_value s) (2 * half / 2) more.1)) ≡ Ok x → Taken s (2 * half) left bits x
unfolding bits_of zero_identifier identifier coded
zero_case site s half left bits after more x true pos front one small test e =
    let is : more.0 ≡ 0 = eqb-true _ _ test in
    let next : after ≡ false ∷ more.1 = rw is at one in
    run_text_takes _ _ _ _ _ _ pos (front ∙ rw next (sym (append_assoc (replicate (width s) false) (false ∷ []) _))) (run_takes _ _ _ _ e)
zero_case site s half left bits after more x false pos front one small test e =
    let other : more.0 ≡ 0 → ⊥ = eqb-false _ _ test in
    let is : more.0 ≡ 1 = omega arith in
    let next : after ≡ true ∷ more.1 = rw is at one in
    let half-is : 2 * half / 2 ≡ half = omega arith in
    block_takes site _ _ _ Second _ _ _ _ tt (front ∙ rw next (sym (append_assoc (replicate (width s) false) (true ∷ []) _)))
    (λ y h. in_range s pair_codes _ _ y (pairs_takes _ _ _ _ y (rw half-is at h))) e

pub data_set_is_taken : DataSetIsTaken
unfolding data_set_at identifier coded
data_set_is_taken site s half left t bits rest pos e =
    let a = bind_ok (number_at site.count (width s) bits) _ _ e in
    let n : ℕ = a.0.0 in
    let after : List Bool = a.0.1 in
    let front = number_takes site.count (width s) bits a.0 a.1 in
    elim (cond_ok (eqb n 0) _ _ _ a.2) [
      | inl k ↦
          (let is : n ≡ 0 = eqb-true _ _ k.0 in
          let b = bind_ok (number_at site.count 1 after) _ _ k.1 in
          let one = number_takes site.count 1 after b.0 b.1 in
          zero_case site s half left bits after b.0 _ (eqb b.0.0 0) pos (front.0 ∙ ap (λ m. bits_of (width s) m ++ after) is
          ∙ ap (λ bs. bs ++ after) (bits_of_zero _)) one.0 one.1 refl b.2)
      | inr k ↦
          elim (cond_ok (eqb n (2 ^ width s - 1)) _ _ _ k.1) [
            | inl j ↦
                (let is : n ≡ 2 ^ width s - 1 = eqb-true _ _ j.0 in
                block_takes site s (2 * half) left Uncoded bits after _ _ tt (front.0 ∙ ap (λ m. bits_of (width s) m ++ after) is
                ∙ ap (λ bs. bs ++ after) (bits_of_ones _)) (λ y h. words_takes site s.bits (2 * half) after y h) j.1)
            | inr j ↦
                (let some : n ≡ 0 → ⊥ = eqb-false _ _ k.0 in
                let other : n ≡ 2 ^ width s - 1 → ⊥ = eqb-false _ _ j.0 in
                let is : n ≡ n - 1 + 1 = omega arith in
                block_takes site s (2 * half) left (Split (n - 1)) bits after _ _ (omega (arith, front.1)) (front.0 ∙ ap (λ m. bits_of (width s) m ++ after) is)
                (λ y h. in_range s _ _ _ y (split_takes site (n - 1) (greatest_value s) (2 * half) after y h)) j.1)
          ]
    ]
