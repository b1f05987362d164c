use Rattle.std.proofs.Common.{◌≡◌, ◌+◌, ◌*◌, ◌≤◌, ℕ, take}
use Rattle.sample_adaptive.specs.Taken.{CoderState, WritesColumn}
use Rattle.sample_adaptive.proofs.written_column.put_firsts.Given as goal

abbrev pub invariant-loop-i : goal.invariant-loop-i
invariant-loop-i l =
    record {
      puts : (v : CoderState) (z : ℕ) → v.bits ≡ l.fn.settings.bits → WritesColumn z 0 (take l.i l.residuals) v l.fn.writer.bits v l.writer.bits;
      room : l.fn.writer.room ≤ l.writer.room + 48 * l.i;
      still : l.writer.room ≤ l.fn.writer.room;
    }
