use Rattle.std.proofs.Common.{◌∙◌, ap, sym, map, to_z, of_z, length, w32}
use Rattle.std.proofs.lemmas.Simd.{put_chunk_whole}
use Rattle.lanes.proofs.Ranges.{vector}
use Rattle.lanes.proofs.Steps.{same}
use Rattle.lanes.proofs.four.put.Goals as goal

pub returns : goal.returns
returns c =
    let a = vector w32 4 c.args.numbers _ c.well_formed.0 in let e = same w32 c.args.numbers a.1 in
    put_chunk_whole c.args.row.now (map (to_z w32) (map (of_z w32) c.args.numbers)) (c.told-row ∙ sym (ap length e ∙ a.0)) ∙ e
