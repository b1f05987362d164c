use Rattle.std.proofs.Common.{ap}
use Rattle.sample_prediction.specs.Rows.{ImageRow}
use Rattle.sample_prediction.specs.HandedRows.{image_of_rows}
use Rattle.sample_prediction.proofs.rows.last_rows.LastRows.kind.Goals as goal

pub returns : goal.returns
unfolding image_of_rows
returns c = ap (λ (r : ImageRow). r.image.kind) c.self.view_is
