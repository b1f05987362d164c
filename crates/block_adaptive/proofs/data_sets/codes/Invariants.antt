use Rattle.std.proofs.Common.{◌≡◌, ◌≤◌, take, drop}
use Rattle.std.specs.List.{AllByRecursion}
use Rattle.header_bits.proofs.Each.{AreRead}
use Rattle.block_adaptive.specs.Ahead.{IsAhead, IsWord, used}
use Rattle.block_adaptive.specs.Reading.{site_of, fundamental_at}
use Rattle.block_adaptive.proofs.data_sets.codes.Given as goal

abbrev pub invariant-loop-value : goal.invariant-loop-value
invariant-loop-value l = record {
  ahead : IsAhead l.ahead l.reader.left;
  word : IsWord l.ahead;
  bound : AllByRecursion (λ q. q ≤ l.bound) (take l.value-index l.values);
  read : AreRead (λ _ left. fundamental_at (site_of l.fn.reader l.block) 65535 left) l.fn.values l.fn.reader.left l.value-index l.values
      (drop (used l.ahead) l.reader.left);
  count : l.reader.count ≡ l.fn.reader.count;
}
