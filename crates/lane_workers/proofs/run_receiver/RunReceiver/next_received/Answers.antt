use Rattle.std.proofs.Common.{ℕ, Option, Some, None, IfNone}
use Rattle.lane_workers.proofs.run_receiver.RunReceiver.next_received.Goals as goal

where_none : (A B : Type 0) (r : Option ℕ) → (A → B) → IfNone r A → IfNone r B
where_none A B None f a = f a
where_none A B (Some n) f a = tt

pub returns-clause-none : goal.returns-clause-none
returns-clause-none c = where_none _ _ c.next.result (λ none. rw none.0 c.self.view_is) c.next.ensures.none
