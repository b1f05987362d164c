use Rattle.std.proofs.lemmas.Simd.{get_or-chunk, length-chunk}
use Rattle.lanes.proofs.lines.numbers_at.Goals as goal

pub returns-clause-long : goal.returns-clause-long
returns-clause-long c = length-chunk c.args.at 8 c.args.line.now c.requires

pub returns-clause-same : goal.returns-clause-same
returns-clause-same c k within = get_or-chunk c.args.at 8 c.args.line.now k 0 within
