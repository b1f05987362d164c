use Rattle.std.proofs.Common.{◌+◌, arith}
use Rattle.std.proofs.lemmas.Bool.{ltb-true}
use Rattle.sample_adaptive.proofs.PieceEnds.{entry_inside, kept_between}
use Rattle.sample_adaptive.proofs.short_run.keeps_k.Goals as goal

pub bounds-thresholds-entry : goal.bounds-thresholds-entry
bounds-thresholds-entry c =
    omega (
      arith,
      entry_inside _ _ c.args.words.code.k c.args.counter (c.args.words.row + c.args.counter) c.args.thresholds.now c.requires.thresholds c.requires.words.k
          c.args.settings.bits_in.1 c.args.settings.rescaling.size_in.1 c.requires.counter (omega (arith, c.args.words.row_is)),
    )

pub bounds-thresholds-entry-then-thresholds-entry : goal.bounds-thresholds-entry-then-thresholds-entry
bounds-thresholds-entry-then-thresholds-entry c =
    entry_inside _ _ c.args.words.code.k c.args.counter (c.args.words.row + c.args.counter) c.args.thresholds.now c.requires.thresholds c.requires.words.k
    c.args.settings.bits_in.1 c.args.settings.rescaling.size_in.1 c.requires.counter (omega (arith, c.args.words.row_is))

pub returns-then-thresholds-entry : goal.returns-then-thresholds-entry
returns-then-thresholds-entry c = λ below.
    kept_between _ _ c.args.words.code.k (c.args.words.row + c.args.counter) (record { counter = c.args.counter; accumulator = c.args.accumulator })
    c.args.thresholds.now c.requires.thresholds c.requires.words.k c.requires.counter (omega (arith, c.args.words.row_is)) c.if-thresholds-entry.true
    (ltb-true _ _ below)
