use Rattle.std.proofs.Common.{arith}
use Rattle.cube_core.proofs.Scales.{rebased_is}
use Rattle.cube_core.proofs.scale.Scale.rebased.Goals as goal

pub returns : goal.returns
returns c =
    let s = c.args.self.now in
    let found = rebased_is s.kind s.bytes c.args.offset s.half s.bias s.kind_is c.requires.width c.requires.offset s.half_is (omega arith) s.bias_is in
    record { fits = found.0; code = found.1 }
