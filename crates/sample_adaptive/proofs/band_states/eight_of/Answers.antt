use Rattle.std.proofs.Common.{◌+◌, refl, ◌∙◌}
use Rattle.std.proofs.lemmas.List.{length-set}
use Rattle.lanes.specs.Lanes.{number}
use Rattle.sample_adaptive.proofs.LaneStates.{one_more_lane}
use Rattle.sample_adaptive.proofs.band_states.eight_of.Goals as goal

pub loop-j-preserved : goal.loop-j-preserved
loop-j-preserved c =
    let was = c.loop-j.invariant in
    let own = number c.args.numbers.now (c.args.at + c.loop-j.j) in
    record {
      count = length-set c.loop-j.eight c.loop-j.j own ∙ was.count;
      numbers = one_more_lane c.loop-j.eight (λ k. number c.args.numbers.now (c.args.at + k)) c.loop-j.j own 8 was.count c.loop-j-test.true refl was.numbers;
    }
