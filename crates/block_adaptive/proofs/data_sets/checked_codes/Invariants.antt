use Rattle.std.proofs.Common.{◌≡◌}
use Rattle.block_adaptive.specs.Reading.{site_of, fundamental_at}
use Rattle.header_bits.proofs.Each.{AreRead}
use Rattle.block_adaptive.proofs.data_sets.checked_codes.Given as goal

abbrev pub invariant-loop-value : goal.invariant-loop-value
invariant-loop-value l = record {
  read : AreRead (λ _ left. fundamental_at (site_of l.fn.reader l.block) l.most left) l.fn.values l.fn.reader.left l.value-index l.values l.reader.left;
  count : l.reader.count ≡ l.fn.reader.count;
}
