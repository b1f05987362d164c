use Rattle.std.proofs.Common.{◌≡◌, ◌≤◌, ◌-◌, length, take}
use Rattle.command_devices.specs.Devices.{Took}
use Rattle.command_devices.proofs.writing.write_more.Given as goal

abbrev pub invariant-loop-written : goal.invariant-loop-written
invariant-loop-written g l = record {
  within : l.written ≤ length l.bytes;
  took : Took (g.K.Sink.taken l.initial.sink) (g.K.Sink.taken l.sink) (take l.written l.bytes);
  failures : g.K.Sink.failures l.sink ≡ g.K.Sink.failures l.initial.sink;
  stalls : g.K.Sink.stalls l.sink ≡ g.K.Sink.stalls l.initial.sink;
}

abbrev pub decreases-loop-written : goal.decreases-loop-written
decreases-loop-written g l = length l.bytes - l.written
