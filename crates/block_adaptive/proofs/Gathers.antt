-- Bits appended part after part.
use Rattle.std.proofs.Common.{◌≡◌, ℕ, ◌+◌, ◌-◌, ◌*◌, ◌/◌, ◌^◌, ◌≤◌, Bool, List, [], ◌++◌, length, take, drop, sym, ap, ◌∙◌, append_assoc}
use Rattle.std.proofs.Common.{arith}
use Rattle.std.proofs.lemmas.Grind.{flat_map-append}
use Rattle.std.proofs.lemmas.List.{append-nil, length-append, length-take, length-drop, take-append-drop, drop-drop}
use Rattle.header_bits.specs.Bits.{Written, bits_of, fundamental}
use Rattle.header_bits.proofs.Numbers.{length-bits_of}
use Rattle.block_adaptive.specs.Options.{quotient_codes, low_groups}
use Rattle.block_adaptive.specs.Taken.{Writes}
use Rattle.block_adaptive.proofs.Costs.{length-low_groups}

-- ---- bits that come one after another

pub pushed : {old new : Written} → (n v : ℕ) → new.bits ≡ old.bits ++ bits_of n v → old.room ≡ new.room + n → Writes old new (bits_of n v)
pushed n v text room = record { appended = text; spent = rw (length-bits_of n v) room }

module _ {old mid new : Written} {x y : List Bool} where
  pub writes_both : Writes old mid x → Writes mid new y → Writes old new (x ++ y)
  writes_both first second = grind (arith, append_assoc, length-append)

module _ {old mid : Written} {x : List Bool} where
  pub second_fits : (y : List Bool) → length (x ++ y) ≤ old.room → Writes old mid x → length y ≤ mid.room
  second_fits y h w = omega (arith, length-append x y, w.spent)

-- ---- a coded data set, part after part

-- of all bits some were appended, and some are left
pub record Goes (old now : Written) (whole left : List Bool) : Type 0 where
  pub text : now.bits ++ left ≡ old.bits ++ whole
  pub room : old.room + length left ≡ now.room + length whole

module _ {old now : Written} {whole left : List Bool} where
  pub goes_room : (text rest : List Bool) → length whole ≤ old.room → Goes old now whole left → left ≡ text ++ rest → length text ≤ now.room
  goes_room text rest room h is = omega (arith, h.room, ap length is, length-append text rest)

  pub goes_step : {next : Written} {text : List Bool} → (rest : List Bool) → Goes old now whole left → left ≡ text ++ rest → Writes now next text
      → Goes old next whole rest
  goes_step {text = text} rest h is w = record {
    text = (λ i. w.appended i ++ rest) ∙ append_assoc now.bits text rest ∙ (λ i. now.bits ++ (sym is) i) ∙ h.text;
    room = omega (arith, h.room, w.spent, ap length is, length-append text rest);
  }

  pub goes_end : Goes old now whole left → left ≡ [] → Writes old now whole
  goes_end h is = record {
    appended = sym (append-nil now.bits) ∙ (λ i. now.bits ++ (sym is) i) ∙ h.text;
    spent = omega (arith, h.room, ap length is);
  }

-- ---- a few values of a block

some_of : (i n : ℕ) (block : List ℕ) → drop i block ≡ take (i + n - i) (drop i block) ++ drop (i + n) block
some_of i n block =
    let e : i + n - i ≡ n = omega arith in
    rw e (sym (take-append-drop _ _) ∙ (λ j. take n (drop i block) ++ (drop-drop n i block) j))

pub quotients_of_some : (k i n : ℕ) (block : List ℕ) → quotient_codes k (drop i block) ≡ quotient_codes k (take (i + n - i) (drop i block)) ++ quotient_codes k
    (drop (i + n) block)
unfolding quotient_codes
quotients_of_some k i n block = ap (quotient_codes k) (some_of i n block) ∙ flat_map-append (λ v. fundamental (v / 2 ^ k)) _ _

pub lows_of_some : (k i n : ℕ) (block : List ℕ) → low_groups k (drop i block) ≡ low_groups k (take (i + n - i) (drop i block)) ++ low_groups k
    (drop (i + n) block)
unfolding low_groups
lows_of_some k i n block = ap (low_groups k) (some_of i n block) ∙ flat_map-append (λ v. bits_of k v) _ _

pub lows_length : (k i n : ℕ) (block : List ℕ) → i + n ≤ length block → length (low_groups k (take (i + n - i) (drop i block))) ≡ n * k
lows_length k i n block le = grind (arith, length-drop, length-low_groups, length-take)
