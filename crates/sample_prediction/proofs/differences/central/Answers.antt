use Rattle.std.proofs.Common.{SFits, to_z-of_z, w32, rules, ◌∙◌, sym}
use Rattle.sample_prediction.proofs.LocalSums.{central_of_offsets}
use Rattle.sample_prediction.proofs.differences.central.Goals as goal

pub returns-clause-value : goal.returns-clause-value
returns-clause-value c =
    let fits : SFits w32 c.central_of.result = search rules in let own = rw c.requires.row at c.row-row.ensures.samples in
    let upper = rw c.requires.row at c.row_above-above.ensures.samples in rw (to_z-of_z fits)
    (c.central_of.ensures.value
    ∙ sym (central_of_offsets _ _ _ _ _ _ _ c.requires.place.column c.row-row.ensures.len own upper c.requires.later c.requires.wide))
