use Rattle.sample_prediction.proofs.LocalSums.{sum_of_offsets}
use Rattle.sample_prediction.proofs.differences.sum_at.Goals as goal

pub returns-clause-value : goal.returns-clause-value
returns-clause-value c =
    let own = rw c.requires.row at c.row-row.ensures.samples in let upper = rw c.requires.row at c.row_above-above.ensures.samples in rw c.sum_of.ensures.value
    (sum_of_offsets _ _ _ _ _ _ _ c.requires.place.column c.row-row.ensures.len own upper c.requires.later c.requires.wide)
