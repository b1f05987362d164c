use Rattle.ccsds123.proofs.Refusing.{rows_refused}
use Rattle.ccsds123.proofs.encoder.take_rows.Goals as goal

pub returns-in-Err : goal.returns-in-Err
returns-in-Err c = rows_refused c.args.encoder.now.held.value c.in-Some.scene.value c.args.raw.now c.take_scene.new.encoder.held.value c.in-Err.fault
    c.in-Some.ensures.scene.0 (rw c.deref_mut.ensures.value at c.in-Err.ensures.refused) c.in-Some.ensures.ended
