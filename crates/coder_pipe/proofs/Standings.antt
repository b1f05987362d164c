-- All workers, of which one has moved on.
use Rattle.std.proofs.Common.{◌≡◌, ◌<◌, ℕ, List, [], ◌++◌, length, map, get_or, set, get_or-set_same, ap, sym, ◌∙◌}
use Rattle.std.specs.List.{All}
use Rattle.std.proofs.Math.Seq.{map-set_same, drop-append_seam}
use Rattle.std.proofs.lemmas.List.{get_or-map}
use Rattle.std.proofs.lemmas.List.Elements.{All-drop}
use Rattle.lane_workers.specs.Stages.{StageState}
use Rattle.coder_pipe.specs.Standings.{feeds_of, gates_of, handed_of}

pub at_of : {S A : Type 0} (f : S → A) (ss : List S) (q : ℕ) (s : S) (d : A) → q < length ss → s ≡ get_or ss q s → get_or (map f ss) q d ≡ f s
at_of f ss q s d lt e = get_or-map f ss q s d lt ∙ ap f (sym e)

module _ {F G : Type 0} where
  pub same_feeds : (ss : List (StageState F G)) (q : ℕ) (new s : StageState F G) → s ≡ get_or ss q s → new.feed ≡ s.feed → feeds_of (set ss q new) ≡ feeds_of ss
  same_feeds ss q new s e same = map-set_same (λ s. s.feed) ss q new s (same ∙ ap (λ s. s.feed) e)

  pub same_gates : (ss : List (StageState F G)) (q : ℕ) (new s : StageState F G) → s ≡ get_or ss q s → new.gate ≡ s.gate → gates_of (set ss q new) ≡ gates_of ss
  same_gates ss q new s e same = map-set_same (λ s. s.gate) ss q new s (same ∙ ap (λ s. s.gate) e)

  -- a worker that has handed on fewer than its feed has
  pub short_of : (items : F → List ℕ) (ss : List (StageState F G)) (q : ℕ) (s : StageState F G) → q < length ss → s ≡ get_or ss q s
      → length (get_or (handed_of ss) q []) < length (items (get_or (feeds_of ss) q s.feed)) → length s.handed < length (items s.feed)
  short_of items ss q s lt e short = rw (at_of (λ s. s.handed) ss q s [] lt e, at_of (λ s. s.feed) ss q s s.feed lt e) at short

  -- what holds of its feed holds of it once it has moved on
  pub feed_moved : (P : F → Type 0) (ss : List (StageState F G)) (q : ℕ) (new s other : StageState F G) → q < length ss → s ≡ get_or ss q s → new.feed ≡ s.feed
      → P (get_or (feeds_of ss) q s.feed) → P (get_or (set ss q new) q other).feed
  feed_moved P ss q new s other lt e same h = rw (get_or-set_same ss q new other lt, same) (rw (at_of (λ s. s.feed) ss q s s.feed lt e) at h)

  -- what holds of all that it has handed on holds of the last of it
  pub last_of : (P : ℕ → Type 0) (ss : List (StageState F G)) (q : ℕ) (new other : StageState F G) (before run : List ℕ) → q < length ss
      → new.handed ≡ before ++ run → All P (get_or (set ss q new) q other).handed → All P run
  last_of P ss q new other before run lt is all =
      let both : All P (before ++ run) = rw (get_or-set_same ss q new other lt, is) at all in
      rw drop-append_seam at (All-drop P (length before) (before ++ run) both)
