use Rattle.std.proofs.Common.{inr}
use Rattle.std.proofs.lemmas.Result.{IfErr-weaker}
use Rattle.raw_streams.proofs.write.write_raw.Goals as goal

pub returns-clause-refused : goal.returns-clause-refused
returns-clause-refused g c = IfErr-weaker c.write_pieces.result _ _ (λ e cut. inr cut) c.write_pieces.ensures.cut
