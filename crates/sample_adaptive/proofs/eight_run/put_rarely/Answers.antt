use Rattle.std.proofs.Common.{arith}
use Rattle.sample_adaptive.proofs.Table.{size_power}
use Rattle.sample_adaptive.proofs.eight_run.put_rarely.Goals as goal

pub nearer-k-requires-clause-counter : goal.nearer-k-requires-clause-counter
nearer-k-requires-clause-counter c =
    let rescaling = c.args.run.settings.rescaling in omega (arith, c.requires.piece.within, c.requires.within, size_power rescaling.size rescaling.size_in.1)
