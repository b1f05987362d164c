use Rattle.std.proofs.Common.{◌≡◌, ◌-◌, ◌≤◌, length}
use Rattle.file_encoding.specs.ByRows.{IsUnderWay}
use Rattle.ccsds_command.specs.ByRows.{HasCome}
use Rattle.ccsds_command.specs.Taking.{IsTaker}
use Rattle.ccsds_command.proofs.by_rows.code_rows.Given as goal

abbrev pub invariant-loop-y : goal.invariant-loop-y
invariant-loop-y g l = record {
  within : l.y ≤ l.rows;
  taker : IsTaker l.settings l.most l.taker;
  under : IsUnderWay l.settings.params l.encoder;
  at : l.encoder.y ≡ l.y;
  room : length l.room ≡ length l.fn.room;
  worked : g.S.Source.failures l.source ≡ g.S.Source.failures l.fn.source;
  come : HasCome l.settings l.encoder (g.S.Source.left l.fn.source) (g.S.Source.left l.source);
}

abbrev pub decreases-loop-y : goal.decreases-loop-y
decreases-loop-y g l = l.rows - l.y
