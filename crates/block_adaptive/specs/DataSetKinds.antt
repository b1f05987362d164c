-- The data set of a kind, with the values of its block, which are kept elsewhere.
use Rattle.std.specs.Prelude.{ℕ, List}
use Rattle.block_adaptive.specs.declared.data_set_kind.DataSetKind.{DataSetKind}
use Rattle.block_adaptive.specs.declared.data_set_kind.DataSetKind.TheVariants as kind
use Rattle.block_adaptive.specs.DataSets.{CodedDataSet, Block, Run, RestOfSegment}

abbrev pub with_values : List ℕ → DataSetKind → CodedDataSet
with_values values (kind.Block o) = Block o values
with_values values (kind.Run n) = Run n
with_values values kind.RestOfSegment = RestOfSegment
