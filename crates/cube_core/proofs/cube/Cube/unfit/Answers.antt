use Rattle.std.proofs.Common.{◌<◌, arith, refl}
use Rattle.std.proofs.lemmas.Bool.{false≢true}
use Rattle.cube_core.proofs.Words.{sample_count}
use Rattle.cube_core.proofs.Written.{can_be_written, fit_at_offsets, fit_at_places, have_bytes}
use Rattle.cube_core.proofs.cube.Cube.unfit.Goals as goal

pub first_unfit-requires-clause-some : goal.first_unfit-requires-clause-some
first_unfit-requires-clause-some c = λ have.
    let some : 0 < sample_count c.self.inside.shape = omega (arith, c.sample_count-count.ensures.value, c.sample_count-count.ensures.range) in
    let can = can_be_written _ _ _ _ _ c.self.view_is some c.self.invariant.whole have in
    false≢true (c.if-can_be_written.ensures.1 (rw c.deref.ensures.value (fit_at_offsets c.self.inside.shape c.self.inside.kind c.args.layout c.self.inside.offsets.items c.self.invariant.whole can)))

pub returns-then-can_be_written-clause-fits : goal.returns-then-can_be_written-clause-fits
returns-then-can_be_written-clause-fits c = λ e.
    let some : 0 < sample_count c.self.inside.shape = omega (arith, c.sample_count-count.ensures.value, c.sample_count-count.ensures.range) in
    have_bytes _ _ _ _ _ c.self.view_is some c.self.invariant.whole
    (fit_at_places c.self.inside.shape c.self.inside.kind c.args.layout c.self.inside.offsets.items c.self.invariant.whole (rw c.deref.ensures.value at (c.if-can_be_written.ensures.0 refl)))
