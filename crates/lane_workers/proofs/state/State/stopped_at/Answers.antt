use Rattle.std.proofs.Common.{◌≡◌, ◌++◌, [], Some, length, ap, sym, subst, append-nil, ◌∙◌}
use Rattle.std.proofs.lemmas.Option.{same_Some}
use Rattle.lane_workers.specs.States.{standing_of}
use Rattle.lane_workers.proofs.state.State.stopped_at.Goals as goal

pub returns-clause-count : goal.returns-clause-count
returns-clause-count g c =
    let ended = c.in-Joined.ended in
    let spent = subst (λ s. (standing_of s).left ≡ Some []) c.in-Joined.is c.requires.spent in
    let left : ended.lane.rest ≡ [] = same_Some ended.lane.rest [] spent in
    let handed = ended.parted ∙ ap (λ ns. ended.lane.received ++ ns) left ∙ append-nil ended.lane.received in
    c.sent_count.ensures ∙ ap length handed ∙ ap (λ s. length (standing_of s).handed) (sym c.in-Joined.is)

pub returns-clause-stopped : goal.returns-clause-stopped
returns-clause-stopped g c = rw (c.in-Joined.is, c.sent_count.ensures) (c.in-Joined.ended.stopped cc).0
