use Rattle.std.proofs.Common.{◌≡◌, ◌≢◌, ◌<◌, ℕ}
use Rattle.std.specs.List.{slice_index}
use Rattle.file_decoding.specs.Tiles.{number_in}
use Rattle.file_decoding.proofs.eight_bands.put_column.Given as goal

abbrev pub invariant-loop-b : goal.invariant-loop-b
invariant-loop-b l = record {
  here : (c : ℕ) → c < l.b → number_in l.lines c l.i ≡ slice_index l.column c;
  others : (c k : ℕ) → k ≢ l.i → number_in l.lines c k ≡ number_in l.initial.lines c k;
}
