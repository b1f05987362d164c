use Rattle.std.proofs.Common.{◌≡◌, ℕ, ◌<◌, [], ◌∷◌, get_or}
use Rattle.header_bits.proofs.coder_part.size_code.Given as goal

-- none of the sizes so far is this
abbrev pub invariant-loop-code : goal.invariant-loop-code
invariant-loop-code l = (j : ℕ) → j < l.code → get_or (8 ∷ 16 ∷ 32 ∷ 64 ∷ []) j 0 ≡ l.size → ⊥
