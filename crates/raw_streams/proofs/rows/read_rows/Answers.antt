use Rattle.raw_streams.proofs.RowStreams.{rows_cut_off}
use Rattle.raw_streams.proofs.rows.read_rows.Goals as goal

pub returns-clause-refused : goal.returns-clause-refused
returns-clause-refused g c = rows_cut_off c.args.shape c.args.layout c.args.y c.args.count c.rows_part-part.result _ _ _ _ c.read_bytes.result
    c.rows_part-part.ensures.first c.rows_part-part.ensures.samples c.read_bytes.ensures.refused
