use Rattle.std.proofs.Common.{[], ◌∷◌, Result, Ok, Err, OnOk}
use Rattle.std.proofs.lemmas.Result.{on_ok_weaker}
use Rattle.file_encoding.proofs.Coders.{samples_put, blocks_put_all}
use Rattle.file_encoding.proofs.encoder.EntropyEncoder.put.Goals as goal

both : {T E P Q R : Type 0} (r : Result T E) → (P → Q → R) → OnOk r P → OnOk r Q → OnOk r R
both (Ok x) f p q = f p q
both (Err e) f p q = tt

pub returns-in-Samples-clause-taken : goal.returns-in-Samples-clause-taken
returns-in-Samples-clause-taken c =
    rw c.in-Samples.is (on_ok_weaker c.put.result (λ puts. samples_put c.args.z c.args.t c.args.delta _ _ _ _ puts c.put.ensures.bands) c.put.ensures.taken)

pub returns-in-Blocks-clause-taken : goal.returns-in-Blocks-clause-taken
returns-in-Blocks-clause-taken c =
    let told = c.put-in-Blocks.ensures in
    rw c.in-Blocks.is (both c.put-in-Blocks.result
    (λ puts counted p numbers bits h next. blocks_put_all (c.args.delta ∷ []) _ _ _ _ puts told.cut counted p numbers bits h) told.taken told.counted)
