use Rattle.std.proofs.Common.{refl, sym, ◌+◌, ◌∙◌}
use Rattle.std.proofs.lemmas.List.{length-set}
use Rattle.lanes.specs.Lanes.{number}
use Rattle.sample_adaptive.proofs.BandNumbers.{no_numbers, one_number_more}
use Rattle.sample_adaptive.proofs.band_states.put_eight_of.Goals as goal

pub loop-j-init : goal.loop-j-init
loop-j-init c = record { stored = sym (no_numbers c.args.numbers.now c.args.at c.args.eight.now); count = refl }

pub loop-j-preserved : goal.loop-j-preserved
loop-j-preserved c =
    record {
      stored = rw (one_number_more c.args.numbers.now c.args.at c.args.eight.now c.loop-j.j, ← c.loop-j.invariant.stored) refl;
      count = length-set c.loop-j.numbers (c.args.at + c.loop-j.j) (number c.args.eight.now c.loop-j.j) ∙ c.loop-j.invariant.count;
    }
