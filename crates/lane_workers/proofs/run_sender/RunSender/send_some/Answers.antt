use Rattle.std.proofs.Common.{◌∙◌, ◌++◌, sym, take, ap, arith, length, append_assoc, length-append, length-take}
use Rattle.std.proofs.lemmas.Bool.{not-true}
use Rattle.lane_workers.proofs.run_sender.RunSender.send_some.Goals as goal

pub invariant_of-self : goal.invariant_of-self
invariant_of-self g c =
    let sent = ap length c.send_run.ensures.taken in
    let new = length-append c.send_run.new.sender.sent c.send_run.new.waiting in
    let old = length-append c.self.inside.sender.sent c.push_all.new.self in
    let pushed = ap length c.push_all.ensures in
    let parts = length-append c.self.inside.waiting (take c.min-count.result c.args.numbers.now) in
    let taken = length-append c.self.inside.sender.sent c.self.inside.waiting in
    let view = ap (λ v. length v.taken) c.self.view_is in
    let part = length-take c.min-count.result c.args.numbers.now in (
      c.self.invariant.0,
      c.self.invariant.1,
      omega (arith, sent, new, old, pushed, parts, taken, view, part),
      λ h. c.send_run.ensures.stopped (not-true c.send_run.result h),
    )

pub returns-then-count-self-clause-taken : goal.returns-then-count-self-clause-taken
returns-then-count-self-clause-taken g c =
    let sent = c.self.inside.sender.sent in
    let part = take c.min-count.result c.args.numbers.now in
    c.send_run.ensures.taken ∙ ap (λ ns. sent ++ ns) c.push_all.ensures ∙ sym (append_assoc sent c.self.inside.waiting part)
    ∙ ap (λ s. s.taken ++ part) c.self.view_is
