use Rattle.std.proofs.Common.{◌≡◌, ◌-◌, ◌*◌, ◌≤◌, take}
use Rattle.cube_core.specs.Layout.{raw_bytes}
use Rattle.cube_core.specs.Parts.{unit_of}
use Rattle.command_devices.specs.Devices.{Took}
use Rattle.raw_streams.proofs.write.write_pieces.Given as goal

abbrev pub invariant-loop-done : goal.invariant-loop-done
invariant-loop-done g l = record {
  within : l.done ≤ l.units;
  sent : l.sent ≡ l.done * unit_of l.layout.order l.shape * l.layout.bytes;
  took : Took (g.K.Sink.taken l.initial.sink) (g.K.Sink.taken l.sink) (take l.sent (raw_bytes l.cube l.layout));
  failures : g.K.Sink.failures l.sink ≡ g.K.Sink.failures l.initial.sink;
  stalls : g.K.Sink.stalls l.sink ≡ g.K.Sink.stalls l.initial.sink;
}

abbrev pub decreases-loop-done : goal.decreases-loop-done
decreases-loop-done g l = l.units - l.done
