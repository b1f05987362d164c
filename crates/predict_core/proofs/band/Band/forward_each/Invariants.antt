use Rattle.std.proofs.Common.{◌≡◌, ℕ, ◌<◌, ◌^◌, length, take, slice_index}
use Rattle.header_bits.specs.declared.params.Params.{Params}
use Rattle.sample_prediction.specs.Residual.{run_residuals}
use Rattle.predict_core.specs.Following.{Follows, MovesBy}
use Rattle.predict_core.proofs.band.Band.forward_each.Given as goal

abbrev pub invariant-loop-i : goal.invariant-loop-i
invariant-loop-i l = record {
  moved : MovesBy l.i l.initial.self l.self;
  held : l.self.piece ≡ l.initial.self.piece;
  long : length l.residuals ≡ length l.initial.residuals;
  bound : (k : ℕ) → k < l.i → slice_index l.residuals k < 2 ^ l.rows.image.kind.bits;
  residuals : (p : Params) → Follows p l.initial.self l.rows.image → take l.i l.residuals ≡ run_residuals p l.rows.image l.initial.self.band l.initial.self.t l.i;
  follows : (p : Params) → Follows p l.initial.self l.rows.image → Follows p l.self l.rows.image;
}
