use Rattle.std.proofs.Common.{◌≡◌, ◌≤◌, ◌-◌, length, take}
use Rattle.command_devices.specs.Devices.{Gave}
use Rattle.command_devices.proofs.reading.fill.Given as goal

abbrev pub invariant-loop-had : goal.invariant-loop-had
invariant-loop-had g l = record {
  given : Gave (g.S.Source.left l.initial.source) (g.S.Source.left l.source) (take l.had l.buffer);
  within : l.had ≤ length l.buffer;
  worked : g.S.Source.failures l.source ≡ g.S.Source.failures l.initial.source;
}

abbrev pub decreases-loop-had : goal.decreases-loop-had
decreases-loop-had g l = length l.buffer - l.had
