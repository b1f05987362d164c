use Rattle.ccsds123.proofs.NextRow.{open_first}
use Rattle.ccsds123.proofs.scene.SceneEncoder.new.Goals as goal

pub returns-clause-open : goal.returns-clause-open
returns-clause-open c = open_first c.args.params c.args.layout c.in_ok-encoder.encoder c.none.result c.requires.lawful c.requires.layout c.requires.together
    c.in_ok-encoder.ensures.under_way c.in_ok-encoder.ensures.none c.none.ensures
