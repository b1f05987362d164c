use Rattle.std.proofs.Common.{◌≡◌, ◌+◌, ◌++◌, ◌∙◌, ℕ, List, take, drop, arith}
use Rattle.command_devices.proofs.Devices.{gave_more, read_more}
use Rattle.command_devices.proofs.reading.fill.Goals as goal

pub loop-had-preserved : goal.loop-had-preserved
loop-had-preserved g c =
    let had : ℕ = c.loop-had.had in
    let more : take (had + c.in-Ok.n) c.read_after.new.bytes ≡ take had c.loop-had.buffer ++ drop had (take (had + c.in-Ok.n) c.read_after.new.bytes) =
    read_more had c.in-Ok.n c.loop-had.buffer c.read_after.new.bytes
    (omega (arith, c.read_after.auto.bytes, c.in-Ok.ensures.within, c.loop-had.invariant.within)) c.in-Ok.ensures.kept in
    record {
      given = rw more (gave_more _ _ _ (take had c.loop-had.buffer) _ c.loop-had.invariant.given c.in-Ok.ensures.given);
      within = omega (arith, c.in-Ok.ensures.within, c.read_after.auto.bytes);
      worked = c.in-Ok.ensures.worked ∙ c.loop-had.invariant.worked;
    }
