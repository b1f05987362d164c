-- The bytes of a device, which it may expose to contracts, and its failures.
use Rattle.std.specs.Prelude.{◌≡◌, ◌≢◌, ◌⊎◌, ℕ, ◌+◌, ◌-◌, ◌<◌, ◌≤◌, ◌^◌, List, [], ◌++◌, length, take, Option, Some}

-- if a source exposes its bytes, it gave these from the front of those that were left
abbrev pub Gave : Option (List ℕ) → Option (List ℕ) → List ℕ → Type 0
Gave old new bytes = (before : List ℕ) → old ≡ Some before → (rest : List ℕ) × (new ≡ Some rest) × (before ≡ bytes ++ rest)

-- if a source exposes its bytes, it gave some from the front of them, at most as many as the limit, which depends on them
abbrev pub GaveWithin : (List ℕ → ℕ) → Option (List ℕ) → Option (List ℕ) → Type 0
GaveWithin limit old new = (before : List ℕ) → old ≡ Some before → (bytes : List ℕ) × (rest : List ℕ) × (new ≡ Some rest) × (before ≡ bytes ++ rest)
    × (length bytes ≤ limit before)

-- if a source exposes its bytes, it gave some from the front of them, fewer than the limit
abbrev pub GaveBelow : ℕ → Option (List ℕ) → Option (List ℕ) → Type 0
GaveBelow limit old new = (before : List ℕ) → old ≡ Some before → (bytes : List ℕ) × (rest : List ℕ) × (new ≡ Some rest) × (before ≡ bytes ++ rest)
    × (length bytes < limit)

-- if a source exposes its bytes, these are the first `limit` of them, or all if there are fewer
abbrev pub IsFront : ℕ → Option (List ℕ) → List ℕ → Type 0
IsFront limit left bytes = (input : List ℕ) → left ≡ Some input → bytes ≡ take limit input

-- if a source exposes its bytes, these are all of them
abbrev pub IsAll : Option (List ℕ) → List ℕ → Type 0
IsAll left bytes = (input : List ℕ) → left ≡ Some input → input ≡ bytes

-- if a source exposes its bytes, there are more than the limit
abbrev pub IsLonger : ℕ → Option (List ℕ) → Type 0
IsLonger limit left = (input : List ℕ) → left ≡ Some input → limit < length input

-- if a source exposes its bytes, none are left
abbrev pub IsEnd : Option (List ℕ) → Type 0
IsEnd left = (rest : List ℕ) → left ≡ Some rest → rest ≡ []

-- if a sink exposes its bytes, these were appended to them
abbrev pub Took : Option (List ℕ) → Option (List ℕ) → List ℕ → Type 0
Took old new bytes = (before : List ℕ) → old ≡ Some before → new ≡ Some (before ++ bytes)

-- a count goes up by one, or stays at 2^64 - 1 once it is there
abbrev pub Rises : ℕ → ℕ → Type 0
Rises old new = ((old ≢ 2 ^ 64 - 1) × (new ≡ old + 1)) ⊎ ((old ≡ 2 ^ 64 - 1) × (new ≡ old))

-- a count went up, or is 2^64 - 1
abbrev pub Rose : ℕ → ℕ → Type 0
Rose old new = (old < new) ⊎ (new ≡ 2 ^ 64 - 1)

-- a stall is counted exactly if nothing was taken of a piece that isn't empty
abbrev pub CountsStall : ℕ → ℕ → ℕ → ℕ → Type 0
CountsStall taken length old new = ((taken ≡ 0) × (0 < length) × Rises old new) ⊎ (((0 < taken) ⊎ (length ≡ 0)) × (new ≡ old))
