use Rattle.std.proofs.Common.{ap}
use Rattle.std.proofs.lemmas.Nat.{pow_pos}
use Rattle.sample_prediction.specs.Rows.{ImageRow}
use Rattle.sample_prediction.specs.HandedRows.{image_of_rows}
use Rattle.sample_prediction.proofs.HandedRows.{last_there, length-band, length-last}
use Rattle.sample_prediction.proofs.rows.last_rows.LastRows.row.Goals as goal

pub row_of-requires-clause-band : goal.row_of-requires-clause-band
unfolding image_of_rows
row_of-requires-clause-band c = rw (ap (λ (r : ImageRow). r.image.shape) c.self.view_is) c.requires

pub returns-clause-len : goal.returns-clause-len
unfolding image_of_rows
returns-clause-len c =
    let shape = ap (λ (r : ImageRow). r.image.shape) c.self.view_is in
    rw (← shape) (length-band c.self.inside.shape _ _ _ c.row_of.ensures (rw shape c.requires) (length-last _ _ _ _ _ _ c.self.invariant))

pub returns-clause-samples : goal.returns-clause-samples
unfolding image_of_rows
returns-clause-samples c =
    let shape = ap (λ (r : ImageRow). r.image.shape) c.self.view_is in
    rw (← c.self.view_is) (last_there _ _ _ _ _ _ c.self.invariant (pow_pos _) _ _ (rw shape c.requires) c.row_of.ensures)
