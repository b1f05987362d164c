use Rattle.std.proofs.Common.{arith, ◌≡◌, ◌+◌, ◌-◌, ◌*◌, ◌^◌, ◌<◌, drop, ◌++◌, subst, ℕ}
use Rattle.header_bits.specs.Bits.{bits_of, bits_of_bytes}
use Rattle.header_bits.proofs.Words.{joined_is, joined_below}
use Rattle.header_bits.proofs.Windows.{pieces_joined}
use Rattle.header_bits.proofs.bit_reader.number_of_bits.Goals as goal

pub returns-clause-bits : goal.returns-clause-bits
returns-clause-bits c =
    let n : ℕ = c.args.n in
    let high : ℕ = c.piece_at-high.result in
    let low : ℕ = c.piece_at-2.result in
    rw (joined_is high low (n - 32) 32 c.piece_at-high.ensures.below c.piece_at-2.ensures.below (omega arith)) (pieces_joined _ _ n high low
    (omega arith) c.piece_at-2.ensures.below c.piece_at-high.ensures.bits (subst (λ (k : ℕ). drop (c.args.at + k) (bits_of_bytes c.args.bytes.now)
    ≡ bits_of 32 low ++ drop (c.args.at + k + 32) (bits_of_bytes c.args.bytes.now)) c.from.ensures c.piece_at-2.ensures.bits))

pub returns-clause-below : goal.returns-clause-below
returns-clause-below c =
    let n : ℕ = c.args.n in
    let high : ℕ = c.piece_at-high.result in
    let low : ℕ = c.piece_at-2.result in
    let size : n - 32 + 32 ≡ n = omega arith in
    rw (joined_is high low (n - 32) 32 c.piece_at-high.ensures.below c.piece_at-2.ensures.below (omega arith))
    (subst (λ (k : ℕ). high * 2 ^ 32 + low < 2 ^ k) size (joined_below high low (n - 32) 32 c.piece_at-high.ensures.below c.piece_at-2.ensures.below))
