-- The words of eight values of a block, side by side in lanes.
use Rattle.std.proofs.Common.{◌≡◌, ℕ, zero, suc, ◌+◌, ◌*◌, ◌/◌, ◌^◌, ◌<◌, ◌≤◌, Bool, List, ◌++◌, length, drop, get_or, refl, sym, ap, ◌∙◌, append_assoc, arith, drop-cons}
use Rattle.std.proofs.lemmas.List.{length-append}
use Rattle.std.specs.List.{flat_map}
use Rattle.header_bits.specs.Bits.{bits_of, fundamental}
use Rattle.header_bits.proofs.Numbers.{length-bits_of}
use Rattle.word_lanes.specs.EightWords.{texts}
use Rattle.block_adaptive.specs.Options.{quotient_codes, low_groups}

module _ (f : ℕ → List Bool) (text : ℕ → List Bool) (i : ℕ) (block : List ℕ) where
  texts_of_some : (n j : ℕ) → ((m : ℕ) → m < j + n → text m ≡ f (get_or block (i + m) 0)) → i + j + n ≤ length block
      → flat_map f (drop (i + j) block) ≡ texts text j n ++ flat_map f (drop (i + j + n) block)
  texts_of_some zero j same le = let none : i + j + 0 ≡ i + j = omega arith in rw none refl
  texts_of_some (suc n) j same le =
      let next : i + suc j ≡ suc (i + j) = omega arith in
      let last : i + suc j + n ≡ i + j + suc n = omega arith in
      let all : suc j + n ≡ j + suc n = omega arith in
      let rest = texts_of_some n (suc j) (λ m lt. same m (omega (arith, lt))) (omega (arith, le)) in
      let one = same j (omega arith) in
      ap (flat_map f) (drop-cons block (i + j) 0 (omega (arith, le)))
      ∙ ap (λ (bits : List Bool). f (get_or block (i + j) 0) ++ bits) (rw (last, next) at rest)
      ∙ sym (append_assoc (f (get_or block (i + j) 0)) (texts text (suc j) n) (flat_map f (drop (i + j + suc n) block)))
      ∙ ap (λ (bits : List Bool). (bits ++ texts text (suc j) n) ++ flat_map f (drop (i + j + suc n) block)) (sym one)

-- texts of one length
pub equal_length : (k : ℕ) (f : ℕ → ℕ) → (n i : ℕ) → length (texts (λ j. bits_of k (f j)) i n) ≡ n * k
equal_length k f zero i = omega arith
equal_length k f (suc n) i =
    let next : suc n * k ≡ k + n * k = grind arith in
    omega (arith, length-append (bits_of k (f i)) (texts (λ j. bits_of k (f j)) (suc i) n), length-bits_of k (f i), equal_length k f n (suc i), next)

module _ (text : ℕ → List Bool) (k i : ℕ) (block : List ℕ) where
  pub quotients_of_eight : ((m : ℕ) → m < 8 → text m ≡ fundamental (get_or block (i + m) 0 / 2 ^ k)) → i + 8 ≤ length block
      → quotient_codes k (drop i block) ≡ texts text 0 8 ++ quotient_codes k (drop (i + 8) block)
  unfolding quotient_codes
  quotients_of_eight same le =
      let none : i + 0 ≡ i = omega arith in
      rw none at (texts_of_some (λ v. fundamental (v / 2 ^ k)) text i block 8 0 same (omega (arith, le)))

  pub lows_of_eight : ((m : ℕ) → m < 8 → text m ≡ bits_of k (get_or block (i + m) 0)) → i + 8 ≤ length block
      → low_groups k (drop i block) ≡ texts text 0 8 ++ low_groups k (drop (i + 8) block)
  unfolding low_groups
  lows_of_eight same le =
      let none : i + 0 ≡ i = omega arith in
      rw none at (texts_of_some (λ v. bits_of k v) text i block 8 0 same (omega (arith, le)))
