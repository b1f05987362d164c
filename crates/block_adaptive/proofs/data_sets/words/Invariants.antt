use Rattle.std.proofs.Common.{◌≡◌}
use Rattle.header_bits.specs.Reading.{number_at}
use Rattle.header_bits.proofs.Each.{AreRead}
use Rattle.block_adaptive.proofs.data_sets.words.Given as goal

abbrev pub invariant-loop-value : goal.invariant-loop-value
invariant-loop-value l = record {
  read : AreRead (λ _ left. number_at l.fn.reader.count l.depth left) l.fn.values l.fn.reader.left l.value-index l.values l.reader.left;
  count : l.reader.count ≡ l.fn.reader.count;
}
