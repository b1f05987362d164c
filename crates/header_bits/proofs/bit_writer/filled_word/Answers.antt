use Rattle.std.proofs.Common.{arith, ◌+◌, ◌-◌, ◌≡◌, ℕ, sym, ap, ◌∙◌, bit_or, ◌*◌, ◌%◌, ◌^◌}
use Rattle.header_bits.specs.Bits.{bits_of}
use Rattle.header_bits.proofs.Words.{pushed_after}
use Rattle.header_bits.proofs.Pushes.{none_held}
use Rattle.header_bits.proofs.bit_writer.filled_word.Goals as goal

pub returns-then-held-eq0 : goal.returns-then-held-eq0
returns-then-held-eq0 c = none_held c.args.held c.args.part c.args.bits c.if-held-eq0.true

pub returns-else-held-eq0 : goal.returns-else-held-eq0
returns-else-held-eq0 c =
    let size : c.args.held + (64 - c.args.held) ≡ 64 = omega arith in
    ap (λ (k : ℕ). bits_of k (bit_or (c.args.part * 2 ^ (64 - c.args.held) % 2 ^ 64) c.args.bits)) (sym size)
    ∙ pushed_after _ (64 - c.args.held) _ _ c.requires.below (omega arith)
