use Rattle.std.proofs.Common.{◌≡◌, ◌+◌, ◌*◌, ◌<◌, ℕ, List}
use Rattle.std.specs.List.{slice_index}
use Rattle.cube_core.specs.Image.{Image}
use Rattle.predict_core.specs.Precedence.{AreAlike}
use Rattle.file_decoding.specs.Tiles.{HasStored, number_in}
use Rattle.file_decoding.proofs.tile.Tile.store_eight.Given as goal

abbrev pub invariant-loop-b : goal.invariant-loop-b
invariant-loop-b l = record {
  alike : AreAlike l.initial.cube l.cube;
  stored : (c : Image) (numbers : List ℕ) → HasStored c l.initial.cube l.self numbers l.first
      → ((i b : ℕ) → i < l.self.columns → b < 8 → number_in l.lines b i ≡ slice_index numbers (i * l.self.bands + (l.first + b)))
      → HasStored c l.cube l.self numbers (l.first + l.b);
}
