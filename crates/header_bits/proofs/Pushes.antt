-- What a writer holds: whole words as bytes, and a part of a word.
use Rattle.std.proofs.Common.{◌≡◌, ℕ, ◌+◌, ◌-◌, ◌*◌, ◌/◌, ◌%◌, ◌^◌, ◌<◌, ◌≤◌, Bool, List, ◌++◌, length, bit_or, sym, ap, ◌∙◌, append_assoc, arith}
use Rattle.std.proofs.lemmas.List.{append-nil, length-append}
use Rattle.header_bits.specs.Bits.{bits_of, bits_of_bytes}
use Rattle.header_bits.proofs.Numbers.{no_bits, length-bits_of}
use Rattle.header_bits.proofs.Bytes.{length-bits_of_bytes}
use Rattle.header_bits.proofs.Words.{pushed_after, two_parts}

pub written_length : (bytes : List ℕ) (held part : ℕ) (bits : List Bool) → bits_of_bytes bytes ++ bits_of held part ≡ bits
    → length bits ≡ 8 * length bytes + held
written_length bytes held part bits e =
    ap length (sym e) ∙ length-append (bits_of_bytes bytes) (bits_of held part) ∙ omega (arith, length-bits_of_bytes bytes, length-bits_of held part)

pub none_held : (held part bits : ℕ) → held ≡ 0 → bits_of 64 bits ≡ bits_of held part ++ bits_of (64 - held) bits
none_held held part bits e =
    let all : 64 - held ≡ 64 = omega arith in
    sym (ap (λ k. bits_of k part ++ bits_of (64 - held) bits) e ∙ ap (λ (x : List Bool). x ++ bits_of (64 - held) bits) (no_bits part)
    ∙ ap (λ k. bits_of k bits) all)

pub nothing_after : (bytes : List ℕ) (held part : ℕ) → held ≡ 0 → bits_of_bytes bytes ≡ bits_of_bytes bytes ++ bits_of held part
nothing_after bytes held part e =
    sym (ap (λ k. bits_of_bytes bytes ++ bits_of k part) e ∙ ap (λ (x : List Bool). bits_of_bytes bytes ++ x) (no_bits part) ∙ append-nil (bits_of_bytes bytes))

-- a push that fills the word
pub word_pushed : (bytes : List ℕ) (held part n bits word : ℕ) (old new : List Bool) → held < 64 → 64 - held ≤ n
    → bits_of_bytes bytes ++ bits_of held part ≡ old
    → bits_of 64 word ≡ bits_of held part ++ bits_of (64 - held) (bits / 2 ^ (n - (64 - held))) → new ≡ bits_of_bytes bytes ++ bits_of 64 word
    → new ++ bits_of (n - (64 - held)) bits ≡ old ++ bits_of n bits
word_pushed bytes held part n bits word old new lt le e filled is =
    let rest : List Bool = bits_of (n - (64 - held)) bits in
    let high : List Bool = bits_of (64 - held) (bits / 2 ^ (n - (64 - held))) in
    let full : new ≡ old ++ high = is ∙ ap (λ (x : List Bool). bits_of_bytes bytes ++ x) filled
    ∙ sym (append_assoc (bits_of_bytes bytes) (bits_of held part) high) ∙ ap (λ (x : List Bool). x ++ high) e in
    ap (λ (x : List Bool). x ++ rest) full ∙ append_assoc old high rest ∙ ap (λ (x : List Bool). old ++ x) (two_parts held n bits lt le)

-- a push that stays within the part
pub part_pushed : (bytes : List ℕ) (held part n bits : ℕ) (old : List Bool) → bits < 2 ^ n → held + n ≤ 64 → bits_of_bytes bytes ++ bits_of held part ≡ old
    → bits_of_bytes bytes ++ bits_of (held + n) (bit_or (part * 2 ^ n % 2 ^ 64) bits) ≡ old ++ bits_of n bits
part_pushed bytes held part n bits old lt fits e =
    ap (λ (x : List Bool). bits_of_bytes bytes ++ x) (pushed_after held n part bits lt fits)
    ∙ sym (append_assoc (bits_of_bytes bytes) (bits_of held part) (bits_of n bits)) ∙ ap (λ (x : List Bool). x ++ bits_of n bits) e
