use Rattle.std.proofs.Common.{◌≡◌, ◌+◌, ◌^◌, ℕ, arith, subst, sym}
use Rattle.wave_inversion.specs.declared.lower.LowerRows.{LowerRows}
use Rattle.wave_inversion.specs.Wave.{AreLowerBelow, lower_of}
use Rattle.wave_inversion.specs.WaveTiles.{lane_count}
use Rattle.wave_inversion.proofs.WaveBegun.{lanes_all}
use Rattle.wave_inversion.proofs.begin.invert_steps.Goals as goal

pub invert_by-requires-2-clause-lower_in : goal.invert_by-requires-2-clause-lower_in
invert_by-requires-2-clause-lower_in g c =
    subst (λ (rows : LowerRows). AreLowerBelow c.args.form.previous (2 ^ (c.args.form.step.bits + 2)) (lower_of rows))
    (sym (c.begin_lanes.ensures.lower c.if-not-begin_lanes.false)) c.requires.lower_in

pub returns-clause-inverted : goal.returns-clause-inverted
returns-clause-inverted g c said p s d y last lanes fits begin start =
    let zero : c.args.origin ≡ 0 = omega (arith, c.if-origin-gt0.false) in
    let begun = begin zero in let did = c.begin_lanes.ensures in let many : ℕ = lane_count c.args.bands.now c.args.first in
    let all = did.inverted c.if-not-begin_lanes.false p s d y last (rw zero at lanes) (let far = c.requires.begun.0 zero in omega (arith, far, fits)) begun (rw zero at start) in
    lanes_all many (λ b few exists. omega (arith, few, exists, begun.many))
    ((rw c.lane_count-from.ensures at c.invert_by-2.ensures).inverted p s d c.args.first y c.args.origin last many (rw (did.above c.if-not-begin_lanes.false, did.lower c.if-not-begin_lanes.false) lanes) fits
    (omega arith, omega arith) (rw zero all))
