use Rattle.std.proofs.Common.{ap, arith, ◌≡◌, ◌+◌, ◌-◌, ◌*◌, ◌/◌, ◌<◌, ◌≤◌, ℕ, List, length, take, drop}
use Rattle.std.proofs.lemmas.Bool.{false≢true}
use Rattle.std.proofs.lemmas.List.{length-drop}
use Rattle.std.specs.Array.{IsFirstChunk}
use Rattle.header_bits.proofs.Ahead.{window_ahead}
use Rattle.header_bits.proofs.Windows.{whole_tail, front_of_more, left_length, window_shifted}
use Rattle.header_bits.proofs.bit_reader.BitReader.peek.Goals as goal

tail_length : (bytes : List ℕ) (i : ℕ) → length (take (length bytes - i) (drop i bytes)) ≡ length bytes - i
tail_length bytes i = rw (whole_tail bytes i) (length-drop i bytes)

eight_there : (bytes eight : List ℕ) (at : ℕ) → at ≤ 8 * length bytes → IsFirstChunk (take (length bytes - at / 8) (drop (at / 8) bytes)) eight 8
    → at + 57 ≤ 8 * length bytes
eight_there bytes eight at within h = omega (arith, tail_length bytes (at / 8), h.enough)

eight_missing : (bytes : List ℕ) (at : ℕ) → at ≤ 8 * length bytes → length (take (length bytes - at / 8) (drop (at / 8) bytes)) < 8 → 8 * length bytes < at + 57
eight_missing bytes at within h = omega (arith, tail_length bytes (at / 8), h)

pub returns-in_err-eight-clause-enough : goal.returns-in_err-eight-clause-enough
returns-in_err-eight-clause-enough c =
    let few = eight_missing c.self.inside.bytes.now c.self.inside.at c.self.invariant.0 c.in_err-eight.ensures.cases in
    (λ h. absurd (false≢true (rw c.from_residual.ensures at h)), λ h. absurd (omega (arith, left_length _ _ _ c.self.invariant.0 c.self.view_is, few, h)))

pub returns-clause-enough : goal.returns-clause-enough
returns-clause-enough c =
    let many = eight_there c.self.inside.bytes.now _ c.self.inside.at c.self.invariant.0 c.in_ok-eight.ensures.cases in
    (λ h. omega (arith, left_length _ _ _ c.self.invariant.0 c.self.view_is, many), λ h. cc)

pub returns-clause-bits : goal.returns-clause-bits
returns-clause-bits c =
    let chunk = c.in_ok-eight.ensures.cases in
    let whole = rw (whole_tail c.self.inside.bytes.now (c.self.inside.at / 8)) at (front_of_more _ _ _ c.word_of_eight.ensures.bits chunk.same) in
    window_ahead _ _ _ _ (ap (λ w. w.left) c.self.view_is) (eight_there _ _ _ c.self.invariant.0 chunk)
    (window_shifted c.self.inside.bytes.now c.self.inside.at c.word_of_eight.result c.self.invariant.0 whole)
