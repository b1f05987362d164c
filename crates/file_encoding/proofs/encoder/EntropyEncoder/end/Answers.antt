use Rattle.std.proofs.lemmas.Result.{on_ok_weaker}
use Rattle.file_encoding.proofs.Coders.{samples_end, blocks_end}
use Rattle.file_encoding.proofs.encoder.EntropyEncoder.end.Goals as goal

pub returns-in-Samples-clause-ended : goal.returns-in-Samples-clause-ended
returns-in-Samples-clause-ended c = rw c.in-Samples.is (samples_end c.in-Samples.field-0 c.args.writer.now.bits)

pub returns-in-Blocks-clause-ended : goal.returns-in-Blocks-clause-ended
returns-in-Blocks-clause-ended c = rw c.in-Blocks.is (on_ok_weaker _ (blocks_end _ _ _) c.end.ensures.ended)

pub returns-in-Samples-clause-memory : goal.returns-in-Samples-clause-memory
returns-in-Samples-clause-memory c = tt
