-- Codes and low bits among the bits ahead.
use Rattle.std.proofs.Common.{◌≡◌, ℕ, ◌+◌, ◌-◌, ◌*◌, ◌/◌, ◌^◌, ◌<◌, ◌≤◌, Bool, List, ◌++◌, length, drop, refl, sym, ap, subst, ◌∙◌, append_assoc, arith}
use Rattle.std.proofs.Common.{Ok}
use Rattle.std.proofs.lemmas.Nat.{shr_below}
use Rattle.std.proofs.lemmas.List.{drop-drop, drop_at}
use Rattle.header_bits.specs.Bits.{bits_of, fundamental}
use Rattle.header_bits.specs.Windows.{IsAhead as IsFront}
use Rattle.header_bits.proofs.Numbers.{length-bits_of, no_bits, bits_of-fundamental}
use Rattle.block_adaptive.specs.declared.ahead.Ahead.{Ahead}
use Rattle.block_adaptive.specs.Ahead.{IsAhead, IsWord, Uses, used}
use Rattle.block_adaptive.specs.Reading.{Site, fundamental_at}
use Rattle.block_adaptive.proofs.Codes.{fundamental_again}
use Rattle.block_adaptive.proofs.Tops.{IsTop, parts}
use Rattle.block_adaptive.proofs.Zeros.{length-fundamental}

-- the bits ahead are those of a code and what is ahead after it
uses : (a b : Ahead) (text left : List Bool) → b.peeked ≡ a.peeked → b.known + length text ≡ a.known → bits_of a.known a.word ≡ text ++ bits_of b.known b.word
    → IsAhead a left → Uses a b text left
uses a b text left same size is h =
    let later : List Bool = bits_of b.known b.word ++ drop b.peeked left in
    let whole : drop (used a) left ≡ text ++ later = h.bits ∙ (λ i. is i ++ drop a.peeked left) ∙ append_assoc text (bits_of b.known b.word)
    (drop a.peeked left) ∙ (λ i. text ++ (bits_of b.known b.word ++ drop ((sym same) i) left)) in
    let position : used a + length text ≡ used b = omega (arith, h.few) in
    let rest : drop (used b) left ≡ later = (λ i. drop ((sym position) i) left) ∙ sym (drop-drop (length text) (used a) left) ∙ ap (drop (length text)) whole
    ∙ drop_at text _ _ refl in
    record {
      ahead = record { few = omega (arith, h.few); most = omega (arith, h.most); enough = omega (arith, h.enough); bits = rest };
      text = whole ∙ (λ i. text ++ (sym rest) i);
    }

-- ---- the first one of a word

-- the code that ends with it
pub code_used : (a : Ahead) (j : ℕ) (left : List Bool) → IsTop a.word a.known j → IsAhead a left
    → Uses a (record { peeked = a.peeked; known = j; word = a.word - 2 ^ j }) (fundamental (a.known - j - 1)) left
code_used a j left top h =
    let z : ℕ = a.known - j - 1 in
    let size : z + 1 + j ≡ a.known = omega (arith, top.inside) in
    let one : 1 * 2 ^ j ≡ 2 ^ j = omega arith in
    let is : bits_of a.known a.word ≡ fundamental z ++ bits_of j (a.word - 2 ^ j) =
    subst (λ (p : ℕ). bits_of a.known a.word ≡ fundamental z ++ bits_of j (a.word - p)) one (ap (λ n. bits_of n a.word) (sym size)
    ∙ parts (z + 1) j 1 a.word (omega (arith, top.least)) (omega (arith, top.most)) ∙ ap (λ x. x ++ bits_of j (a.word - 1 * 2 ^ j)) (bits_of-fundamental _)) in
    uses a (record { peeked = a.peeked; known = j; word = a.word - 2 ^ j }) (fundamental z) left refl (omega (arith, length-fundamental z)) is h

-- and what is ahead after it
pub code_word : (a : Ahead) (j : ℕ) → IsWord a → IsTop a.word a.known j → IsWord (record { peeked = a.peeked; known = j; word = a.word - 2 ^ j })
code_word a j word top = record { few = omega (arith, word.few, top.inside); below = omega (arith, top.most, top.least) }

-- ---- a look

pub looked : (n word : ℕ) (left after : List Bool) → n ≤ 57 → n ≤ length left → left ≡ bits_of n word ++ after
    → IsAhead (record { peeked = n; known = n; word = word }) left
looked n word left after most enough is = grind (arith, drop_at, length-bits_of)

pub looked_word : (left : List Bool) (word : ℕ) → word < 2 ^ 64 → IsFront 57 left word → 57 ≤ length left
    → IsAhead (record { peeked = 57; known = 57; word = word / 2 ^ 7 }) left × IsWord (record { peeked = 57; known = 57; word = word / 2 ^ 7 })
looked_word left word below h enough =
    (looked 57 (word / 2 ^ 7) left (drop 57 left) (omega arith) enough (h 57 (omega arith)), record { few = omega arith; below = shr_below word 57 7 below })

pub looked_nowhere : (left : List Bool) → IsAhead (record { peeked = 0; known = 0; word = 0 }) left
looked_nowhere left = looked 0 0 left left (omega arith) (omega arith) ((λ i. (sym (no_bits 0)) i ++ left))

-- ---- what they are read as

pub code_read : (site : Site) (most m : ℕ) (a b : Ahead) (left : List Bool) → m ≤ most → Uses a b (fundamental m) left
    → fundamental_at site most (drop (used a) left) ≡ Ok (m, drop (used b) left)
code_read site most m a b left le h = rw h.text (fundamental_again site most m (drop (used b) left) le)
