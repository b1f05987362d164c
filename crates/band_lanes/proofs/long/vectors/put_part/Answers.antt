use Rattle.std.proofs.Common.{◌+◌, ◌-◌, ◌*◌, ◌≡◌, ◌∙◌, ap, pos, map, to_z, of_z, length, w32, arith}
use Rattle.std.proofs.lemmas.List.{length-map}
use Rattle.std.proofs.lemmas.Simd.{get_or-put_chunk_at, length-put_chunk}
use Rattle.lanes.proofs.Ranges.{vector}
use Rattle.lanes.proofs.Steps.{kept}
use Rattle.lanes.proofs.Turning.{put_in_rest}
use Rattle.lanes.specs.Lanes.{lane}
use Rattle.band_lanes.proofs.long.vectors.put_part.Goals as goal

pub returns-clause-long : goal.returns-clause-long
returns-clause-long c =
    ap length (put_in_rest (4 * c.args.j) (16 - 4 * c.args.j) c.args.row.now _ (omega (arith, c.told-row, c.requires)))
    ∙ length-put_chunk (4 * c.args.j) c.args.row.now _ ∙ c.told-row

pub returns-clause-written : goal.returns-clause-written
returns-clause-written c k h =
    let a = vector w32 4 c.args.numbers _ c.well_formed.0 in
    let l : length (map (to_z w32) (map (of_z w32) c.args.numbers)) ≡ 4 = length-map (map (of_z w32) c.args.numbers) (to_z w32) ∙ length-map c.args.numbers (of_z w32) ∙ a.0 in
    ap (λ l. lane l (4 * c.args.j + k)) (put_in_rest (4 * c.args.j) (16 - 4 * c.args.j) c.args.row.now _ (omega (arith, c.told-row, c.requires)))
    ∙ get_or-put_chunk_at (4 * c.args.j) c.args.row.now _ k (pos 0) (omega (arith, l)) (omega (arith, l, c.told-row, c.requires)) ∙ kept w32 c.args.numbers k a.1
