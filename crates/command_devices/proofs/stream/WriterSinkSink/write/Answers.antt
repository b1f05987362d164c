use Rattle.std.proofs.Common.{rules}
use Rattle.command_devices.proofs.Streams.{appended_took}
use Rattle.command_devices.proofs.stream.WriterSinkSink.write.Goals as goal
use Rattle.command_devices.proofs.stream.WriterSinkSink.write.Goals.{else-n-eq0-via-then-n-eq0+else-not-is_empty, else-n-eq0-via-else-n-eq0}

pub returns-then-not-is_empty-clause-took : goal.returns-then-not-is_empty-clause-took
returns-then-not-is_empty-clause-took g c = rw (← c.self.view_is) (appended_took _ _ _ c.in-Ok.ensures.bytes)

pub returns-then-not-is_empty-clause-stalled : goal.returns-then-not-is_empty-clause-stalled
returns-then-not-is_empty-clause-stalled g c = search rules

pub returns-then-not-is_empty-clause-asked : goal.returns-then-not-is_empty-clause-asked
returns-then-not-is_empty-clause-asked g c = rw (← c.self.view_is) c.in-Ok.ensures.took

pub returns-else-n-eq0-clause-took : goal.returns-else-n-eq0-clause-took
returns-else-n-eq0-clause-took g c = elim c.else-n-eq0.branch [
  | else-n-eq0-via-then-n-eq0+else-not-is_empty w ↦ rw (w.self-is, ← c.self.view_is) (appended_took _ _ _ c.in-Ok.ensures.bytes)
  | else-n-eq0-via-else-n-eq0 w ↦ rw (w.self-is, ← c.self.view_is) (appended_took _ _ _ c.in-Ok.ensures.bytes)
]

pub returns-else-n-eq0-clause-asked : goal.returns-else-n-eq0-clause-asked
returns-else-n-eq0-clause-asked g c = elim c.else-n-eq0.branch [
  | else-n-eq0-via-then-n-eq0+else-not-is_empty w ↦ rw (w.self-is, ← c.self.view_is) c.in-Ok.ensures.took
  | else-n-eq0-via-else-n-eq0 w ↦ rw (w.self-is, ← c.self.view_is) c.in-Ok.ensures.took
]

pub returns-in-Err-clause-stalled : goal.returns-in-Err-clause-stalled
returns-in-Err-clause-stalled g c = tt

pub returns-in-Err-clause-asked : goal.returns-in-Err-clause-asked
returns-in-Err-clause-asked g c = tt

pub returns-in-Err-clause-refused : goal.returns-in-Err-clause-refused
returns-in-Err-clause-refused g c = rw (← c.self.view_is) c.in-Err.ensures.failed
