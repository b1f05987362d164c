use Rattle.std.proofs.Common.{◌∙◌, arith}
use Rattle.ccsds123.proofs.NextRow.{rows_together, samples_together}
use Rattle.ccsds123.proofs.scene.SceneEncoder.put_row.Goals as goal

pub put-requires-clause-more : goal.put-requires-clause-more
put-requires-clause-more c = (
  c.args.self.now.handed.offsets,
  c.args.self.now.rows,
  c.requires.open.stage,
  omega (arith, c.requires.more, rows_together c.args.self.now c.requires.open),
)

pub put-requires-clause-size : goal.put-requires-clause-size
put-requires-clause-size c = c.requires.size ∙ samples_together c.args.self.now c.requires.open

pub returns-clause-stage : goal.returns-clause-stage
returns-clause-stage c =
    rw c.and-self.ensures (c.in_ok-put.ensures.put c.args.self.now.handed.offsets c.args.self.now.rows c.requires.open.stage
    (omega (arith, c.requires.more, rows_together c.args.self.now c.requires.open)))
