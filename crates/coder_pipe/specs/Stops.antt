-- How interleaving ends, and where a predictor may have been stopped.
use Rattle.std.specs.Prelude.{ℕ, ◌<◌, Bool, List, length, slice_index_or, IsTrue}
use Rattle.coder_pipe.specs.declared.run.Outcome.{Outcome}
use Rattle.coder_pipe.specs.declared.run.Outcome.TheVariants.{Whole, Stopped, Memory}

-- predictor q's own gate may stop it at residual n of its feed, and the feed has that residual
abbrev pub MayStopAt : {F G : Type 0} → (G → ℕ → ℕ → Bool) → (F → List ℕ) → List F → List G → ℕ → ℕ → Type 0
MayStopAt {F} {G} may_stop items feeds gates q n =
    (q < length feeds) × ((f : F) (g : G) → IsTrue (may_stop (slice_index_or gates q g) q n) × (n < length (items (slice_index_or feeds q f))))

abbrev pub IfWhole : Outcome → Type 0 → Type 0
IfWhole Whole P = P
IfWhole (Stopped q n) P = Unit {0}
IfWhole Memory P = Unit {0}

abbrev pub IfStopped : Outcome → (ℕ → ℕ → Type 0) → Type 0
IfStopped Whole P = Unit {0}
IfStopped (Stopped q n) P = P q n
IfStopped Memory P = Unit {0}
