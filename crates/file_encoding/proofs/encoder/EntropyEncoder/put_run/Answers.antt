use Rattle.std.proofs.lemmas.Result.{on_ok_weaker}
use Rattle.file_encoding.proofs.Coders.{samples_run}
use Rattle.file_encoding.proofs.encoder.EntropyEncoder.put_run.Goals as goal

pub returns-clause-taken : goal.returns-clause-taken
returns-clause-taken c =
    rw c.in-Samples.is (on_ok_weaker c.put_run.result
    (λ puts. samples_run c.args.z c.args.t c.args.run.now _ _ _ _ puts c.put_run.ensures.bands) c.put_run.ensures.taken)
