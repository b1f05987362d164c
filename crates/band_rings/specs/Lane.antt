-- A lane between two threads: the numbers that were sent and those that were received.
use Rattle.std.specs.Prelude.{◌≡◌, ℕ, List, [], ◌∷◌, ◌++◌}
use denote.RawPtr.{Ptr}

-- the name of a lane, which its two ends share
pub record LaneName : Type 0 where
  pub words : Ptr
  pub slots : Ptr
  pub names : ℕ × (ℕ × ℕ)

-- the sending end: its lane, the numbers that it sent, the number of slots that it knows to be free, and the number of all slots
pub record Sending : Type 0 where
  pub lane : LaneName
  pub sent : List ℕ
  pub free : ℕ
  pub slots : ℕ

-- the receiving end: its lane, the numbers that it received, and those that it has seen in the lane and not yet received
pub record Receiving : Type 0 where
  pub lane : LaneName
  pub received : List ℕ
  pub known : List ℕ

-- a closed sending end: its lane, and the numbers that it sent
pub record Closing : Type 0 where
  pub lane : LaneName
  pub sent : List ℕ

-- both ends of a lane: all numbers that were sent, those of them that were received, and the rest
pub record Lane : Type 0 where
  pub sent : List ℕ
  pub received : List ℕ
  pub rest : List ℕ

-- the numbers received are the first of those sent, and the rest follows them
abbrev pub IsLane : Lane → Type 0
IsLane l = l.sent ≡ l.received ++ l.rest

-- a step of either end: the sender pushes a number, or the receiver pops one
pub data Step : Type 0 where
  Push : ℕ → Step
  Pop : Step

-- a lane before the first step
abbrev pub fresh : Lane
fresh = record { sent = []; received = []; rest = [] }

-- a lane after one more number was sent
abbrev pub pushed : Lane → ℕ → Lane
pushed l v = record l { sent = l.sent ++ v ∷ []; rest = l.rest ++ v ∷ [] }

-- a lane after its next number was received, if there is one
abbrev pub popped : Lane → Lane
popped l = elim l.rest [ [] ↦ l | v ∷ later ↦ record l { received = l.received ++ v ∷ []; rest = later } ]

-- a lane after a step
unfoldable pub stepped : Lane → Step → Lane
stepped l (Push v) = pushed l v
stepped l Pop = popped l

-- a lane after steps of both ends, in the order in which they happened
unfoldable pub after : Lane → List Step → Lane
after l [] = l
after l (step ∷ steps) = after (stepped l step) steps

-- what was received is a prefix of what was sent, whatever steps the two ends take, in whatever order
abbrev pub ReceivedIsPrefix : Type 0
ReceivedIsPrefix = (steps : List Step) → IsLane (after fresh steps)

-- conversely, steps of the two ends lead to each such lane
abbrev pub EachLaneIsReached : Type 0
EachLaneIsReached = (l : Lane) → IsLane l → (steps : List Step) × (after fresh steps ≡ l)
