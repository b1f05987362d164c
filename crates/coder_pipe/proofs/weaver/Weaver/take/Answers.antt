use Rattle.file_encoding.proofs.Endings.{place_comes}
use Rattle.coder_pipe.proofs.WeaverState.{along_one}
use Rattle.std.proofs.Common.{rules}
use Rattle.coder_pipe.proofs.weaver.Weaver.take.Goals as goal

pub unreachable-requires : goal.unreachable-requires
unreachable-requires c = place_comes c.self.inside.end c.args.residual (rw (← c.self.view_is) at c.requires) c.in_default.ensures

pub invariant_of-self : goal.invariant_of-self
invariant_of-self c = along_one c.put.result _ c.self.inside.order _ c.self.inside.end _ c.in-Some.place c.put.ensures.moved c.put.ensures.same c.self.invariant

pub returns-clause-woven : goal.returns-clause-woven
returns-clause-woven c = search rules
