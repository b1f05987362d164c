use Rattle.std.proofs.Common.{◌≡◌, ◌+◌, ◌∙◌, length, refl, arith, append-nil}
use Rattle.lane_workers.proofs.run_sender.send_run.Goals as goal

pub returns-clause-taken : goal.returns-clause-taken
returns-clause-taken g c =
    c.send_first-2.ensures.taken ∙ rw (c.come_back.ensures, (c.send_run.ensures.refused cc).0) refl

pub loop-init : goal.loop-init
loop-init g c = (refl, refl, omega arith, omega arith)

pub returns-then-passed-count-clause-stopped : goal.returns-then-passed-count-clause-stopped
returns-then-passed-count-clause-stopped g c stopped =
    let sent : length c.loop.sender.sent ≡ length c.args.sender.now.sent + c.passed-passed.result = omega arith in
    (omega arith, rw sent (c.passed-passed.ensures.stopped (omega arith)))

pub returns-then-send_run-clause-taken : goal.returns-then-send_run-clause-taken
returns-then-send_run-clause-taken g c =
    rw (c.clear.ensures, (c.send_run.ensures.sent cc).0, c.numbers.ensures) (append-nil _)
