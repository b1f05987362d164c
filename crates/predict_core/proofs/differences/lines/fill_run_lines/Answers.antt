use Rattle.sample_prediction.proofs.BandLines.{band_lines}
use Rattle.predict_core.proofs.differences.lines.fill_run_lines.Goals as goal

pub returns : goal.returns
returns c =
    band_lines _ _ _ _ _ _ _ _ _ _ c.requires.run.inside c.row.ensures.len c.row.ensures.samples c.row_above.ensures.samples c.requires.wide c.fill_lines.ensures
    c.requires.run.some
