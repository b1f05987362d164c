-- Samples that were taken in from bytes have their bytes.
use Rattle.std.proofs.Common.{◌≡◌, ◌+◌, ◌*◌, ◌<◌, ◌≤◌, ℕ, Bool, true, false, leb, List, get_or, refl, arith, inl, inr}
use Rattle.std.proofs.lemmas.Bool.{leb-true, leb-false}
use Rattle.cube_core.proofs.Words.{Layout, SampleKind, IsSample, IsLayout, twos_complement, raw_value}
use Rattle.cube_core.proofs.Words.{HasBytes, ints}
use Rattle.cube_core.proofs.RawBytes.{AreBytes}

one_spelled : (signed test : Bool) (number : ℕ) → leb 128 number ≡ test → number < 256
    → IsSample (record { signed = signed; bits = 8 }) (twos_complement signed 1 number)
one_spelled false test number e h = (omega (arith, ints), omega (arith, ints, h))
one_spelled true true number e h = let half : 128 ≤ number = leb-true 128 number e in rw e (omega (arith, ints, half), omega (arith, ints, h))
one_spelled true false number e h = let half : number < 128 = leb-false 128 number e in rw e (omega (arith, ints), omega (arith, ints, half))

two_spelled : (signed test : Bool) (number : ℕ) → leb 32768 number ≡ test → number < 65536
    → IsSample (record { signed = signed; bits = 16 }) (twos_complement signed 2 number)
two_spelled false test number e h = (omega (arith, ints), omega (arith, ints, h))
two_spelled true true number e h = let half : 32768 ≤ number = leb-true 32768 number e in rw e (omega (arith, ints, half), omega (arith, ints, h))
two_spelled true false number e h = let half : number < 32768 = leb-false 32768 number e in rw e (omega (arith, ints), omega (arith, ints, half))

both_spelled : (little : Bool) (l : Layout) (k : SampleKind) (bytes : List ℕ) → AreBytes bytes → l.little ≡ little → l.bytes ≡ 2
    → HasBytes k l (raw_value l k bytes)
both_spelled true l k bytes small f e =
    let number : ℕ = get_or bytes 0 0 + 256 * get_or bytes 1 0 in
    rw (e, f) (two_spelled k.signed (leb 32768 number) number refl (omega (arith, small 0, small 1)))
both_spelled false l k bytes small f e =
    let number : ℕ = 256 * get_or bytes 0 0 + get_or bytes 1 0 in
    rw (e, f) (two_spelled k.signed (leb 32768 number) number refl (omega (arith, small 0, small 1)))

-- the sample that bytes spell has as many
pub has_bytes : (l : Layout) (k : SampleKind) (bytes : List ℕ) → IsLayout l → AreBytes bytes → HasBytes k l (raw_value l k bytes)
has_bytes l k bytes (inl e) small = rw e (one_spelled k.signed (leb 128 (get_or bytes 0 0)) (get_or bytes 0 0) refl (small 0))
has_bytes l k bytes (inr e) small = both_spelled l.little l k bytes small refl e
