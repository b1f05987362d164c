use Rattle.file_encoding.specs.Ends.{MayCodeAll}
use Rattle.coder_pipe.proofs.WeaverState.{along_all, weaves_some}
use Rattle.std.proofs.Common.{rules}
use Rattle.coder_pipe.proofs.weaver.Weaver.take_all.Goals as goal

pub invariant_of-self : goal.invariant_of-self
invariant_of-self c =
    let may : MayCodeAll c.self.inside.end c.args.residuals.now = rw (← c.self.view_is) at c.requires in
    along_all c.put_all.result _ c.self.inside.order _ _ _ _ may c.put_all.ensures.coded c.put_all.ensures.some c.self.invariant

pub returns-clause-some : goal.returns-clause-some
returns-clause-some c = rw (← c.self.view_is) (weaves_some c.put_all.result _ _ _ _ c.put_all.ensures.some)

pub returns-clause-woven : goal.returns-clause-woven
returns-clause-woven c = search rules
