use Rattle.std.proofs.Common.{ℕ, ℤ, ◌+◌, ◌^◌, List}
use Rattle.sample_prediction.specs.Bounds.{AllWithin}
use Rattle.predict_core.specs.RunChains.{IsFollowed}
use Rattle.predict_core.proofs.forward.chain.follow_places.Given as goal

abbrev pub invariant-loop-i : goal.invariant-loop-i
invariant-loop-i g l = record {
  followed : (start : ℕ) (begun : List ℤ) → IsFollowed l.fn.known.settings.now l.fn.run.image l.fn.run.y l.fn.run.x start begun l.fn.first l.fn.state.weights l.fn.state.parts
      → IsFollowed l.fn.known.settings.now l.fn.run.image l.fn.run.y l.fn.run.x start begun l.i l.working l.state.parts;
  bound : AllWithin (2 ^ (l.fn.known.settings.now.predictor.omega + 2)) l.working;
}
