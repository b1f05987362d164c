use Rattle.std.proofs.Common.{◌≡◌, replicate, rules, refl}
use Rattle.cube_core.proofs.RawBytes.{zeros_are_samples}
use Rattle.cube_core.proofs.cube.Cube.new.Goals as goal

pub returns-clause-zeros : goal.returns-clause-zeros
returns-clause-zeros c =
    let items : c.in_ok-offsets.offsets.items ≡ replicate c.sample_count.result c.offset_of.result =
    search (rules, c.in_ok-offsets.ensures.items_if_clones_equal) in
    rw (items, c.sample_count.ensures.value, zeros_are_samples c.args.kind _ c.offset_of.result c.offset_of.ensures.value) refl
