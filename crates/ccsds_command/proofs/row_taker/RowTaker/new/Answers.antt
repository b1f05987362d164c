use Rattle.std.proofs.Common.{arith}
use Rattle.ccsds_command.proofs.HandingOn.{joined_few, joined_fits}
use Rattle.ccsds_command.proofs.row_taker.RowTaker.new.Goals as goal

pub overflow_cast-most : goal.overflow_cast-most
overflow_cast-most c =
    let wide = joined_fits c.args.settings.now.params.shape c.args.settings.now.layout c.args.most c.row_samples-size.ensures.sizes c.requires.layout
    c.in-Bsq.is c.requires.few in
    omega (arith, joined_few c.args.settings.now.params.shape c.args.most c.row_samples-size.ensures.sizes wide)

pub joined_row-requires-clause-few : goal.joined_row-requires-clause-few
joined_row-requires-clause-few c =
    joined_fits c.args.settings.now.params.shape c.args.settings.now.layout c.args.most c.row_samples-size.ensures.sizes c.requires.layout c.in-Bsq.is
    c.requires.few
