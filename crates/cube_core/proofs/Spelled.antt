-- The bytes that a sample's code is written in.
use Rattle.std.proofs.Common.{◌≡◌, ◌/◌, ◌%◌, ◌<◌, ℕ, true, false, [], ◌∷◌, ℤ, refl, arith, Bool, ◌≤◌, ◌-◌, ◌^◌, ◌*◌}
use Rattle.byteorder.specs.Endian.{little_bytes, big_bytes}
use Rattle.cube_core.proofs.Words.{Layout, IsSample, raw_code, sample_bytes, ints}
use Rattle.cube_core.specs.Laws.{WideEnough}
use Rattle.cube_core.proofs.Bounds.{power_grows}

pub one_byte : (l : Layout) (v : ℤ) (number : ℕ) → l.bytes ≡ 1 → number ≡ raw_code l.bytes v → number ∷ [] ≡ sample_bytes l v
unfolding sample_bytes
one_byte l v number e n =
    let code : number ≡ raw_code 1 v = rw e at n in
    rw (e, ← code) refl

pub little_first : (l : Layout) (v : ℤ) (number : ℕ) → l.bytes ≡ 2 → l.little ≡ true → number ≡ raw_code l.bytes v → number < 65536
    → little_bytes 2 number ≡ sample_bytes l v
unfolding sample_bytes
little_first l v number e f n h =
    let code : number ≡ raw_code 2 v = rw e at n in
    let high : number / 256 % 256 ≡ number / 256 = omega arith in
    rw (e, f, ← code, high) refl

pub big_first : (l : Layout) (v : ℤ) (number : ℕ) → l.bytes ≡ 2 → l.little ≡ false → number ≡ raw_code l.bytes v → number < 65536
    → big_bytes 2 number ≡ sample_bytes l v
unfolding sample_bytes
big_first l v number e f n h =
    let code : number ≡ raw_code 2 v = rw e at n in
    let high : number / 256 % 256 ≡ number / 256 = omega arith in
    rw (e, f, ← code, high) refl

within : (signed : Bool) (bits span : ℕ) (v : ℤ) → 1 ≤ bits → bits ≤ span → IsSample (record { signed = signed; bits = bits }) v
    → IsSample (record { signed = signed; bits = span }) v
within true bits span v h e s = let p : 2 ^ (bits - 1) ≤ 2 ^ (span - 1) = power_grows (bits - 1) (span - 1) (omega arith) in
    (omega (arith, ints, s.0, p), omega (arith, ints, s.1, p))
within false bits span v h e s = let p : 2 ^ bits ≤ 2 ^ span = power_grows bits span e in (s.0, omega (arith, ints, s.1, p))

-- samples of few bits have their bytes
pub wide_enough : WideEnough
wide_enough k l v h e s = within k.signed k.bits (8 * l.bytes) v (omega (arith, h.0)) e s
