use Rattle.std.proofs.Common.{◌∙◌, ap, arith, length, length-append}
use Rattle.std.proofs.lemmas.List.{nil_from_length}
use Rattle.lane_workers.proofs.run_sender.send_all.Goals as goal

pub loop-sender-preserved : goal.loop-sender-preserved
loop-sender-preserved g c =
    let long = ap length c.send_run.ensures.taken in
    let new = length-append c.send_run.new.sender.sent c.send_run.new.waiting in
    let old = length-append c.loop-sender.sender.sent c.loop-sender.waiting in
    (c.send_run.ensures.lane ∙ c.loop-sender.invariant.0, c.send_run.ensures.taken ∙ c.loop-sender.invariant.1, omega (arith, long, new, old))

pub returns-clause-whole : goal.returns-clause-whole
returns-clause-whole g c whole = nil_from_length c.loop-sender.waiting (omega arith)
