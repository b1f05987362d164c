use Rattle.std.proofs.lemmas.Result.{on_ok_weaker}
use Rattle.file_encoding.proofs.Coders.{samples_column}
use Rattle.file_encoding.proofs.encoder.EntropyEncoder.put_column.Goals as goal

pub returns-clause-taken : goal.returns-clause-taken
returns-clause-taken c =
    rw c.in-Samples.is (on_ok_weaker c.put_column.result (samples_column c.args.z c.args.t c.args.column.now _ _ _ _) c.put_column.ensures.taken)
