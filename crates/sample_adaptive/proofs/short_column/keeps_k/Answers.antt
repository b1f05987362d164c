use Rattle.std.proofs.Common.{◌+◌, ◌*◌, arith}
use Rattle.std.proofs.lemmas.Bool.{ltb-true}
use Rattle.sample_adaptive.proofs.PieceEnds.{entry_inside, kept_between}
use Rattle.sample_adaptive.proofs.short_column.keeps_k.Goals as goal

pub bounds-thresholds-entry : goal.bounds-thresholds-entry
bounds-thresholds-entry c =
    let band = c.args.band.now in
    omega (
      arith,
      entry_inside _ _ band.k band.statistics.counter (520 * band.k + band.statistics.counter) c.args.thresholds.now c.requires.thresholds
          c.requires.state.k c.args.settings.bits_in.1 c.args.settings.rescaling.size_in.1 c.requires.state.statistics.most (omega arith),
    )

pub bounds-thresholds-entry-then-thresholds-entry : goal.bounds-thresholds-entry-then-thresholds-entry
bounds-thresholds-entry-then-thresholds-entry c =
    let band = c.args.band.now in
    entry_inside _ _ band.k band.statistics.counter (520 * band.k + band.statistics.counter) c.args.thresholds.now c.requires.thresholds
    c.requires.state.k c.args.settings.bits_in.1 c.args.settings.rescaling.size_in.1 c.requires.state.statistics.most (omega arith)

pub returns-then-thresholds-entry : goal.returns-then-thresholds-entry
returns-then-thresholds-entry c = λ below.
    let band = c.args.band.now in
    kept_between _ _ band.k (520 * band.k + band.statistics.counter) band.statistics c.args.thresholds.now c.requires.thresholds c.requires.state.k
    c.requires.state.statistics.most (omega arith) c.if-thresholds-entry.true (ltb-true _ _ below)
