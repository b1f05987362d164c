use Rattle.std.proofs.Common.{◌≡◌, length}
use Rattle.file_decoding.proofs.TileWalk.{IsWalked}
use Rattle.file_decoding.proofs.decode.take_residuals.Given as goal

abbrev pub invariant-loop-place : goal.invariant-loop-place
invariant-loop-place l = record {
  count : l.reader.count ≡ l.initial.reader.count;
  walked : IsWalked l.params l.cube l.places l.decoder l.initial.reader.left l.reader.left;
}

abbrev pub decreases-loop-place : goal.decreases-loop-place
decreases-loop-place l = length l.places
