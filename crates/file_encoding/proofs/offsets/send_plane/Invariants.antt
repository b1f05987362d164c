use Rattle.std.proofs.Common.{true}
use Rattle.std.specs.List.{flat_map}
use Rattle.cube_core.specs.Order.{upto}
use Rattle.file_encoding.specs.InPlace.{offsets_of}
use Rattle.file_encoding.proofs.offsets.send_plane.Given as goal

abbrev pub invariant-loop-y : goal.invariant-loop-y
invariant-loop-y g l = record {
  sent : g.T.Taker.takes l.initial.taker l.taker true (flat_map (λ y. offsets_of l.cube l.z y) (upto l.y));
}
