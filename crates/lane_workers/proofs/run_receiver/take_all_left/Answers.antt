use Rattle.std.proofs.Common.{◌++◌, take, ap, sym, ◌∙◌}
use Rattle.lane_workers.proofs.run_receiver.take_all_left.Goals as goal

pub returns-in_default-clause-received : goal.returns-in_default-clause-received
returns-in_default-clause-received c = ap (λ l. l.received) c.in_default.ensures.none.1 ∙ c.loop-i.invariant.2

pub returns-in_default-clause-parted : goal.returns-in_default-clause-parted
returns-in_default-clause-parted c =
    c.loop-i.invariant.3 ∙ ap (λ l. take c.loop-i.i c.loop-i.run ++ l.rest) (sym c.in_default.ensures.none.1)
