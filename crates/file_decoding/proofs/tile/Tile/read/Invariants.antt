use Rattle.std.proofs.Common.{◌≡◌, ◌*◌, length, take}
use Rattle.file_decoding.specs.Decoding.{MayAskEach, GivesAll}
use Rattle.file_decoding.specs.Tiles.{band_in, time_in}
use Rattle.file_decoding.proofs.tile.Tile.read.Given as goal

abbrev pub invariant-loop-i : goal.invariant-loop-i
invariant-loop-i l = record {
  given : (m : MayAskEach l.initial.decoder (band_in l.self) (time_in l.self l.t) l.index (length l.initial.deltas))
      → GivesAll m.params l.decoder m.numbers m.bits l.initial.reader.left l.reader.left (take (l.i * l.self.bands) l.deltas);
  count : l.reader.count ≡ l.initial.reader.count;
  long : length l.deltas ≡ length l.initial.deltas;
}
