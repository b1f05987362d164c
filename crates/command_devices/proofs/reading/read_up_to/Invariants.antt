use Rattle.std.proofs.Common.{◌≡◌, ◌≤◌, ◌-◌, vec_len, take}
use Rattle.command_devices.specs.Devices.{Gave}
use Rattle.command_devices.proofs.reading.read_up_to.Given as goal

abbrev pub invariant-loop-had : goal.invariant-loop-had
invariant-loop-had g l = record {
  given : Gave (g.S.Source.left l.initial.source) (g.S.Source.left l.source) (take l.had l.bytes.items);
  within : l.had ≤ vec_len l.bytes;
  limited : vec_len l.bytes ≤ l.limit;
  worked : g.S.Source.failures l.source ≡ g.S.Source.failures l.initial.source;
}

abbrev pub decreases-loop-had : goal.decreases-loop-had
decreases-loop-had g l = l.limit - l.had
