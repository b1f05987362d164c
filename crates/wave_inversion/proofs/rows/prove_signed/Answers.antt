use Rattle.std.proofs.Common.{◌≡◌, ℕ, ℤ, pos, ◌≤ℤ◌, SFits, w16, to_z-of_z, subst, arith}
use Rattle.std.proofs.lemmas.Int.{ints}
use Rattle.lanes.specs.Lanes.{lane}
use Rattle.lanes.proofs.Ranges.{vector}
use Rattle.wave_inversion.specs.WaveRows.{without_sign}
use Rattle.wave_inversion.proofs.rows.prove_signed.Goals as goal

same : (z : ℤ) → SFits w16 z → without_sign z ≤ℤ pos 4095 → without_sign z ≡ z
same z fits small = let e = to_z-of_z fits in omega (arith, ints, e, small)

pub returns : goal.returns
returns c i l =
    let r = vector w16 64 c.copied-same.result _ c.copied-same.type_inv in
    let fits : (k : ℕ) → SFits w16 (lane c.args.line.now k) = subst (λ xs. (k : ℕ) → SFits w16 (lane xs k)) c.copied-same.ensures r.1 in
    same _ (fits i) (c.requires i l)
