use Rattle.std.proofs.Common.{◌∙◌, arith}
use Rattle.std.proofs.lemmas.Nat.{one_shl}
use Rattle.lanes.proofs.Plain.{splat}
use Rattle.block_adaptive.proofs.written_split.lows_of.Goals as goal

pub returns : goal.returns
returns c j lt = c.rests.ensures j c.args.k lt (splat 8 j _ lt ∙ one_shl c.args.k 16 (omega (arith, c.requires.k)))
