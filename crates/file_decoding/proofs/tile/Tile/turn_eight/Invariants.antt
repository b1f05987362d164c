use Rattle.std.proofs.Common.{◌≡◌, ◌+◌, ◌-◌, ◌*◌, ◌<◌, ◌≤◌, ℕ}
use Rattle.std.specs.List.{slice_index}
use Rattle.file_decoding.specs.Tiles.{number_in}
use Rattle.file_decoding.proofs.tile.Tile.turn_eight.Given as goal

abbrev pub invariant-loop-i : goal.invariant-loop-i
invariant-loop-i l = record {
  within : l.i ≤ l.self.columns;
  turned : (j b : ℕ) → j < l.i → b < 8 → number_in l.lines b j ≡ slice_index l.numbers (j * l.self.bands + (l.first + b));
}

abbrev pub decreases-loop-i : goal.decreases-loop-i
decreases-loop-i l = l.self.columns - l.i

abbrev pub invariant-loop-k : goal.invariant-loop-k
invariant-loop-k l = (j b : ℕ) → j < l.k → b < 8 → number_in l.lines b j ≡ slice_index l.numbers (j * l.self.bands + (l.first + b))
