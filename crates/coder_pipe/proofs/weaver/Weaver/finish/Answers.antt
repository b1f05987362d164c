use Rattle.std.proofs.lemmas.Result.{IfOk-weaker}
use Rattle.coder_pipe.proofs.weaver.Weaver.finish.Goals as goal

pub returns-clause-file : goal.returns-clause-file
returns-clause-file c =
    rw (← c.self.view_is) (IfOk-weaker c.finish.result _ _ (λ bytes h p deal numbers woven. h p numbers woven.coded) c.finish.ensures.file)
