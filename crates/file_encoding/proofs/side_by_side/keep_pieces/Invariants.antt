use Rattle.std.proofs.Common.{◌≡◌, ◌+◌, ◌*◌, ◌<◌, ◌≤◌, ◌++◌, ℕ, take, drop, get_or}
use Rattle.predict_core.specs.Following.{PredictorState}
use Rattle.file_encoding.specs.Pieces.{row_start}
use Rattle.file_encoding.proofs.side_by_side.keep_pieces.Given as goal

abbrev pub invariant-loop-k : goal.invariant-loop-k
invariant-loop-k l = record {
  kept : (k : ℕ) (b : PredictorState) → k < l.k
      → row_start l.stretch k (l.first + l.count) l.room ≡ row_start l.stretch k l.first l.initial.room ++ take l.count (get_or l.bands (k + l.others) b).piece;
  left : (k : ℕ) → l.k ≤ k → drop (k * l.stretch) l.room ≡ drop (k * l.stretch) l.initial.room;
  later : (k i : ℕ) → l.first + l.count ≤ i → i < l.stretch → get_or l.room (k * l.stretch + i) 0 ≡ get_or l.initial.room (k * l.stretch + i) 0;
}
