use Rattle.std.proofs.lemmas.Result.{IfOk-weaker}
use Rattle.ccsds_command.specs.Compress.{HasCube}
use Rattle.ccsds_command.proofs.compress.read_cube.Goals as goal

pub returns-clause-cube : goal.returns-clause-cube
returns-clause-cube g c = IfOk-weaker c.read_raw.result _ (HasCube c.args.settings.now (g.S.Source.left c.args.source.now))
    (λ cube h. (record { cube = h.cube; shape = h.shape; kind = h.kind }, h.fits, h.all)) c.read_raw.ensures.cube

pub returns-clause-refused : goal.returns-clause-refused
returns-clause-refused g c = c.read_raw.ensures.refused
