use Rattle.std.proofs.Common.{◌≡◌, ◌+◌, ◌*◌, ◌<◌, ℕ, length}
use Rattle.std.specs.List.{slice_index}
use Rattle.file_decoding.proofs.tile.Tile.run_of.Given as goal

abbrev pub invariant-loop-i : goal.invariant-loop-i
invariant-loop-i l = record { long : length l.run ≡ 64; copied : (j : ℕ) → j < l.i → slice_index l.run j ≡ slice_index l.deltas (j * l.self.bands + l.band) }
