use Rattle.std.proofs.Common.{◌≡◌, ap, ◌∙◌, ◌++◌, List, Bool, take, arith}
use Rattle.std.proofs.lemmas.List.{take_all}
use Rattle.header_bits.specs.Bits.{bits_of_bytes}
use Rattle.header_bits.proofs.Bytes.{bits_of_bytes-append}
use Rattle.header_bits.proofs.Words.{bits_of_word}
use Rattle.header_bits.proofs.written_bytes.with_word.Goals as goal

pub returns-clause-bits : goal.returns-clause-bits
returns-clause-bits c =
    let whole : take c.loop-i.i c.to_be_bytes-eight.result ≡ c.to_be_bytes-eight.result = take_all c.loop-i.i c.to_be_bytes-eight.result (omega arith) in
    ap bits_of_bytes (rw whole at c.loop-i.invariant.items) ∙ bits_of_bytes-append c.args.bytes.items c.to_be_bytes-eight.result
    ∙ ap (λ (x : List Bool). bits_of_bytes c.args.bytes.items ++ x) (ap bits_of_bytes c.to_be_bytes-eight.ensures ∙ bits_of_word c.args.word)

pub returns-clause-len : goal.returns-clause-len
returns-clause-len c = omega (arith, c.loop-i.invariant.len)

pub returns-clause-capacity : goal.returns-clause-capacity
returns-clause-capacity c = omega (arith, c.loop-i.invariant.capacity)
