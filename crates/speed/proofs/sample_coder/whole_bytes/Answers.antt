use Rattle.std.proofs.Common.{◌≡◌, ◌-◌, ◌%◌, ◌++◌, ℕ, Bool, false, List, length, replicate, ap, ◌∙◌, arith}
use Rattle.std.proofs.lemmas.List.{length-append}
use Rattle.header_bits.specs.Bits.{bits_of}
use Rattle.header_bits.proofs.Numbers.{length-bits_of, bits_of_zero}
use Rattle.file_format.specs.File.{filled}
use Rattle.speed.proofs.sample_coder.whole_bytes.Goals as goal

whole : (n : ℕ) (old new : List Bool) → n ≡ length old → new ≡ old ++ bits_of ((8 - n % 8) % 8) 0 → length new % 8 ≡ 0
whole n old new long e =
    let both = ap (λ (x : List Bool). length x) e ∙ length-append old (bits_of ((8 - n % 8) % 8) 0) in
    omega (arith, both, long, length-bits_of ((8 - n % 8) % 8) 0)

fills : (n : ℕ) (old new : List Bool) → n ≡ length old → new ≡ old ++ bits_of ((8 - n % 8) % 8) 0 → new ≡ filled 1 old
fills n old new long e = e ∙ ap (λ (x : List Bool). old ++ x) (bits_of_zero ((8 - n % 8) % 8) ∙ ap (λ (k : ℕ). replicate ((8 - k % 8) % 8) false) long)

pub into_bytes-requires : goal.into_bytes-requires
into_bytes-requires c = whole c.bit_count.result c.args.writer.bits c.push.new.self.bits c.bit_count.ensures.count c.in_ok-push.ensures.appended

pub returns-clause-filled : goal.returns-clause-filled
returns-clause-filled c =
    c.into_bytes.ensures.bytes ∙ fills c.bit_count.result c.args.writer.bits c.push.new.self.bits c.bit_count.ensures.count c.in_ok-push.ensures.appended
