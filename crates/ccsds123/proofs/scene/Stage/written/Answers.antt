use Rattle.ccsds123.proofs.NextRow.{file_written}
use Rattle.ccsds123.proofs.scene.Stage.written.Goals as goal

pub returns-in_ok-finish-in-Rows-clause-written : goal.returns-in_ok-finish-in-Rows-clause-written
returns-in_ok-finish-in-Rows-clause-written c =
    file_written c.args.self c.in-Rows.encoder c.in_ok-finish-in-Rows.field-0.items c.in-Rows.is c.in_ok-finish-in-Rows.ensures.file
