use Rattle.std.proofs.lemmas.Simd.{get_or-chunk}
use Rattle.lanes.proofs.lines.long_numbers_at.Goals as goal

pub returns : goal.returns
returns c k within = get_or-chunk c.args.at 8 c.args.line.now k 0 within
