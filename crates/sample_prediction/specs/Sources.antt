-- The rows that a source holds.
use Rattle.sample_prediction.specs.Rows.{ImageRow}
use Rattle.sample_prediction.specs.declared.rows.Source.{Source}
use Rattle.sample_prediction.specs.declared.rows.Source.TheVariants.{Whole, Last}

abbrev pub row_in : Source → ImageRow
row_in (Whole r) = r
row_in (Last r) = r
