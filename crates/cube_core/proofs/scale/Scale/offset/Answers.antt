use Rattle.std.proofs.Common.{◌≡◌, ◌⊎◌, ◌+◌, ◌*◌, ◌%◌, ◌^◌, ◌≢◌, ℕ, arith, inl, inr}
use Rattle.cube_core.proofs.Scales.{stands}
use Rattle.cube_core.proofs.scale.Scale.offset.Goals as goal
use Rattle.cube_core.proofs.scale.Scale.offset.Goals.{then-this-eq1, else-this-eq1}

one_byte : (bytes sum rebased : ℕ) → bytes ≡ 1 → rebased ≡ sum % 65536 % 256 → rebased ≡ sum % 2 ^ (8 * bytes)
one_byte bytes sum rebased e t = rw e (omega arith)

two_bytes : (bytes sum rebased : ℕ) → bytes ≢ 1 → (bytes ≡ 1) ⊎ (bytes ≡ 2) → rebased ≡ sum % 65536 → rebased ≡ sum % 2 ^ (8 * bytes)
two_bytes bytes sum rebased n (inl e) t = absurd (n e)
two_bytes bytes sum rebased n (inr e) t = rw e (omega arith)

pub returns : goal.returns
returns g c =
    let s = c.args.self.now in
    let t : c.if-this-eq1.rebased ≡ (c.args.number + s.half) % 2 ^ (8 * g.row.BYTES) = elim c.if-this-eq1.branch [
      | then-this-eq1 w ↦ one_byte _ _ _ w.if-this-eq1.true w.rebased-is
      | else-this-eq1 w ↦ two_bytes _ _ _ w.if-this-eq1.false c.requires.width w.rebased-is
    ] in
    let found = stands s.kind g.row.BYTES _ s.half s.bias _ s.kind_is c.requires.width c.requires.number (rw c.requires.bytes at s.half_is) (omega arith)
    s.bias_is t in
    record { value = found.0; range = found.1 }
