use Rattle.std.proofs.Common.{arith, ap, ◌∙◌, ◌≡◌, ◌++◌, ◌/◌, take, List, Bool}
use Rattle.header_bits.specs.Bits.{bits_of_bytes}
use Rattle.header_bits.proofs.Bytes.{bits_of_bytes-append}
use Rattle.header_bits.proofs.Words.{part_shifted}
use Rattle.header_bits.proofs.Pushes.{nothing_after}
use Rattle.header_bits.proofs.written_bytes.append_part.Goals as goal

pub returns-after-loop-i-clause-bits : goal.returns-after-loop-i-clause-bits
returns-after-loop-i-clause-bits c =
    let all : c.loop-i.i ≡ c.args.held / 8 = omega arith in
    ap bits_of_bytes (rw all at c.loop-i.invariant.items)
    ∙ bits_of_bytes-append c.args.bytes.now.items (take (c.args.held / 8) c.to_be_bytes-word.result)
    ∙ ap (λ (x : List Bool). bits_of_bytes c.args.bytes.now.items ++ x) (ap (λ x. bits_of_bytes (take (c.args.held / 8) x)) c.to_be_bytes-word.ensures
    ∙ part_shifted _ _ c.requires.held c.requires.whole)

pub returns-else-held-gt0-clause-bits : goal.returns-else-held-gt0-clause-bits
returns-else-held-gt0-clause-bits c = nothing_after c.args.bytes.now.items c.args.held c.args.part (omega arith)
