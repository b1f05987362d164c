use Rattle.std.proofs.Common.{take, length-take, arith}
use Rattle.file_encoding.proofs.Coders.{blocks_put_all}
use Rattle.file_encoding.proofs.encoder.EntropyEncoder.put_blocks.Goals as goal

pub returns-clause-taken : goal.returns-clause-taken
returns-clause-taken c =
    let told = c.put_all.ensures in
    rw c.in-Blocks.is (blocks_put_all (take c.put_all.result c.args.residuals.now) _ _ _ _ told.taken told.cut
    (rw length-take (omega (arith, told.counted, told.most))))
