use Rattle.std.proofs.Common.{length, sym, append-nil, arith}
use Rattle.sample_adaptive.specs.Runs.{words_from}
use Rattle.sample_adaptive.proofs.Counting.{counter_range}
use Rattle.sample_adaptive.proofs.Table.{size_power}
use Rattle.sample_adaptive.proofs.WordsFrom.{sum_most}
use Rattle.sample_adaptive.proofs.written_run.put_piece.Goals as goal

pub loop-i-init : goal.loop-i-init
unfolding words_from
loop-i-init c =
    record {
      text = sym (append-nil c.args.writer.bits);
      kept = c.requires.kept;
      sum = omega arith;
      within = omega arith;
      room = omega arith;
      still = omega arith;
    }

pub of-requires : goal.of-requires
of-requires c =
    let settings = c.args.run.settings in
    (c.nearer-k.ensures, settings.bits_in.1, (counter_range _ _ settings.rescaling.size_in.1 c.requires.state.statistics).1)

pub after_piece-statistics-requires-clause-accumulator : goal.after_piece-statistics-requires-clause-accumulator
after_piece-statistics-requires-clause-accumulator c =
    let most = sum_most c.args.run.settings.bits c.args.run.residuals.now (length c.args.run.residuals.now) c.args.run.settings.bits_in.1 c.requires.piece.below in
    omega (arith, most, c.put_each-rest.ensures.sum, c.requires.piece.statistics.bound)

pub with_parameter-after-requires : goal.with_parameter-after-requires
with_parameter-after-requires c = (
  omega (arith, c.loop-i.invariant.kept.k, c.args.run.settings.bits_in),
  (counter_range _ _ c.args.run.settings.rescaling.size_in.1 c.after_piece-statistics.ensures.statistics).1,
)

pub nearer-k-requires-clause-counter : goal.nearer-k-requires-clause-counter
nearer-k-requires-clause-counter c =
    let rescaling = c.args.run.settings.rescaling in
    omega (arith, c.requires.piece.within, c.loop-i.invariant.within, size_power rescaling.size rescaling.size_in.1)
