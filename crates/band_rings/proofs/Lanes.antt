-- What was received of a lane is a prefix of what was sent into it.
use Rattle.std.proofs.Common.{◌≡◌, ℕ, List, [], ◌∷◌, ◌++◌, map, refl, sym, ap, ◌∙◌}
use Rattle.std.proofs.lemmas.List.{append_assoc, append-nil}
use Rattle.band_rings.specs.Lane.{Lane, Step, fresh, popped, stepped, after, IsLane, ReceivedIsPrefix, EachLaneIsReached}
use Rattle.band_rings.specs.Lane.Step.{Push, Pop}

step_keeps : (l : Lane) (step : Step) → IsLane l → IsLane (stepped l step)
unfolding stepped
step_keeps l (Push v) is = ap (λ ns. ns ++ v ∷ []) is ∙ append_assoc l.received l.rest (v ∷ [])
step_keeps l Pop is = pop_keeps l.rest is
  where
    pop_keeps : (left : List ℕ) → l.sent ≡ l.received ++ left → IsLane (popped (record l { rest = left }))
    pop_keeps [] e = e
    pop_keeps (v ∷ later) e = e ∙ sym (append_assoc l.received (v ∷ []) later)

steps_keep : (l : Lane) (steps : List Step) → IsLane l → IsLane (after l steps)
unfolding after
steps_keep l [] is = is
steps_keep l (step ∷ steps) is = steps_keep (stepped l step) steps (step_keeps l step is)

pub received_is_prefix : ReceivedIsPrefix
received_is_prefix steps = steps_keep fresh steps refl

after_both : (l : Lane) (first second : List Step) → after l (first ++ second) ≡ after (after l first) second
unfolding after
after_both l [] second = refl
after_both l (step ∷ first) second = after_both (stepped l step) first second

-- all numbers are sent, from a lane of which none was received
sends : (sent more : List ℕ)
    → after (record { sent = sent; received = []; rest = sent }) (map Push more) ≡ record { sent = sent ++ more; received = []; rest = sent ++ more }
unfolding after stepped
sends sent [] = rw (append-nil sent) refl
sends sent (v ∷ more) = sends (sent ++ v ∷ []) more ∙ ap (λ ns. record { sent = ns; received = []; rest = ns }) (append_assoc sent (v ∷ []) more)

-- as many are received
receives : (sent received front rest : List ℕ) → after (record { sent = sent; received = received; rest = front ++ rest }) (map (λ _. Pop) front)
    ≡ record { sent = sent; received = received ++ front; rest = rest }
unfolding after stepped
receives sent received [] rest = rw (append-nil received) refl
receives sent received (v ∷ front) rest =
    receives sent (received ++ v ∷ []) front rest ∙ ap (λ ns. record { sent = sent; received = ns; rest = rest }) (append_assoc received (v ∷ []) front)

pub each_lane_is_reached : EachLaneIsReached
each_lane_is_reached l is =
    let pushes = map Push l.sent in
    let pops = map (λ _. Pop) l.received in
    let all_sent : after fresh pushes ≡ record { sent = l.sent; received = []; rest = l.received ++ l.rest } =
    sends [] l.sent ∙ ap (λ ns. record { sent = l.sent; received = []; rest = ns }) is in
    (pushes ++ pops, after_both fresh pushes pops ∙ ap (λ k. after k pops) all_sent ∙ receives l.sent [] l.received l.rest)
