use Rattle.cube_core.proofs.Scales.{one_number}
use Rattle.cube_core.proofs.scale.Scale.number.Goals as goal

pub returns-then-this-eq1-clause-value : goal.returns-then-this-eq1-clause-value
returns-then-this-eq1-clause-value g c =
    let s = c.args.self.now in
    rw (c.if-this-eq1.true) (one_number s.kind.signed s.half c.args.rebased (rw (c.requires.bytes, c.if-this-eq1.true) at s.half_is))
