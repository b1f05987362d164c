use Rattle.std.proofs.Common.{w32}
use Rattle.lanes.proofs.Plain.{plain, plain_step_by}
use Rattle.lanes.proofs.eight.shifted.Goals as goal

pub returns : goal.returns
returns c k lt = let a = plain w32 8 c.args.a _ c.well_formed.0 in plain_step_by _ c.args.a c.args.by 8 k a.0 lt
