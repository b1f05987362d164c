use Rattle.std.proofs.Common.{◌≡◌}
use Rattle.cube_core.specs.Image.{Image}
use Rattle.cube_core.specs.Order.{upto}
use Rattle.file_encoding.specs.Own.{own}
use Rattle.file_encoding.specs.Walks.{AreAt, bands_of}
use Rattle.coder_pipe.proofs.cube_feed.own_bands.Given as goal

abbrev pub invariant-loop-z : goal.invariant-loop-z
invariant-loop-z l = record { own : bands_of l.bands.items ≡ own l.predictor l.plan.deal (upto l.z); at : (c : Image) → AreAt l.plan.params c 0 l.bands.items }
