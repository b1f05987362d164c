use Rattle.std.proofs.Common.{◌≡◌, ◌≤◌, ◌+◌, ◌-◌, ◌∙◌, List, ℕ, get_or, take, drop, length, sym, ap, get_or-drop, get_or-take, length-drop, arith}
use Rattle.std.specs.Simd.Lanes.{put_chunk}
use Rattle.std.proofs.lemmas.List.{length-take-le}
use Rattle.std.proofs.lemmas.Simd.{put_chunk_whole}
use Rattle.std.proofs.lemmas.Slice.{between-put_mid}
use borrow.Rule.Slice.PartMut.{put_mid}
use Rattle.file_decoding.proofs.eight_bands.put_row.Goals as goal

pub returns-clause-here : goal.returns-clause-here
returns-clause-here c k lt =
    let i = c.args.i in let n = c.args.i + 8 - c.args.i in let old = c.args.line.now in
    let row = put_chunk 0 (take n (drop i old)) c.args.row in
    let fits : i + 8 ≤ length old = omega (arith, c.requires, c.told-line) in
    let long : length (take n (drop i old)) ≡ n = length-take-le n (drop i old) (omega (arith, fits, length-drop i old)) in
    let whole : row ≡ c.args.row = put_chunk_whole (take n (drop i old)) c.args.row (omega (arith, long, c.fits-row.0)) in
    sym (get_or-drop i (put_mid i n old row) k 0) ∙ sym (get_or-take n (drop i (put_mid i n old row)) k 0 (omega (arith, lt)))
    ∙ ap (λ (l : List ℕ). get_or l k 0) (between-put_mid i n old row (i + 8) (omega (arith, fits)) (ap (λ (l : List ℕ). length l) whole ∙ omega (arith, c.fits-row.0)) ∙ whole)
