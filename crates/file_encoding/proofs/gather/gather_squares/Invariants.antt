use Rattle.std.proofs.Common.{◌≡◌, ◌+◌, ◌*◌, ◌<◌, ℕ, length, get_or}
use Rattle.file_encoding.specs.Pieces.{held_at}
use Rattle.file_encoding.proofs.gather.gather_squares.Given as goal

abbrev pub invariant-loop-k : goal.invariant-loop-k
invariant-loop-k l = (i b : ℕ) → i < 8 → b < 8 * l.k → b < length l.bands
    → get_or l.residuals (i * length l.bands + b) 0 ≡ get_or (held_at l.bands (l.first + i)) b 0
