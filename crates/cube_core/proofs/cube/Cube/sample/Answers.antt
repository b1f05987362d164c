use Rattle.std.proofs.Common.{SFits, to_z-of_z, w32, sym, arith}
use Rattle.std.proofs.lemmas.List.{get_or_read}
use Rattle.cube_core.proofs.Offsets.{sample_at_offset}
use Rattle.cube_core.proofs.cube.Cube.sample.Goals as goal

pub returns-clause-value : goal.returns-clause-value
returns-clause-value c =
    let fits : SFits w32 c.sample_of.result = record { sfits = c.sample_of.type_inv } in
    let read = get_or_read c.self.inside.offsets.items _ _ (omega (arith, c.self.invariant.whole)) c.index.ensures 0 in
    rw (to_z-of_z fits, c.sample_of.ensures.value, read) (sym (sample_at_offset _ _ _ _ _ _ _ _ c.self.view_is c.index_at-at.ensures.value (omega arith)))
