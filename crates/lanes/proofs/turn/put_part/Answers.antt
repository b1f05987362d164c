use Rattle.std.proofs.Common.{◌+◌, ◌-◌, ◌≡◌, ◌∙◌, ap, pos, map, to_z, of_z, length, w16, arith}
use Rattle.std.proofs.lemmas.List.{length-map}
use Rattle.std.proofs.lemmas.Simd.{get_or-put_chunk_below, get_or-put_chunk_at}
use Rattle.lanes.proofs.Ranges.{vector}
use Rattle.lanes.proofs.Steps.{kept}
use Rattle.lanes.proofs.Turning.{put_in_rest}
use Rattle.lanes.specs.Lanes.{lane}
use Rattle.lanes.proofs.turn.put_part.Goals as goal

pub returns-clause-before : goal.returns-clause-before
returns-clause-before c i h =
    ap (λ l. lane l i) (put_in_rest c.args.at (64 - c.args.at) c.args.line.now _ (omega (arith, c.told-line, c.requires)))
    ∙ get_or-put_chunk_below c.args.at c.args.line.now _ i (pos 0) h

pub returns-clause-written : goal.returns-clause-written
returns-clause-written c j h =
    let a = vector w16 8 c.args.numbers _ c.well_formed.0 in
    let l : length (map (to_z w16) (map (of_z w16) c.args.numbers)) ≡ 8 = length-map (map (of_z w16) c.args.numbers) (to_z w16) ∙ length-map c.args.numbers (of_z w16) ∙ a.0 in
    ap (λ l. lane l (c.args.at + j)) (put_in_rest c.args.at (64 - c.args.at) c.args.line.now _ (omega (arith, c.told-line, c.requires)))
    ∙ get_or-put_chunk_at c.args.at c.args.line.now _ j (pos 0) (omega (arith, l)) (omega (arith, l, c.told-line, c.requires)) ∙ kept w16 c.args.numbers j a.1
