use Rattle.std.proofs.Common.{◌≡◌, ◌+◌, ◌-◌, ◌∙◌, List, ℕ, get_or, take, drop, length, sym, ap, get_or-drop, get_or-take, length-drop, arith}
use Rattle.std.specs.Simd.Lanes.{put_chunk}
use Rattle.std.proofs.lemmas.List.{length-take-le}
use Rattle.std.proofs.lemmas.Simd.{put_chunk_whole}
use Rattle.std.proofs.lemmas.Slice.{between-put_mid}
use borrow.Rule.Slice.PartMut.{put_mid}
use Rattle.file_encoding.proofs.gather.put_row.Goals as goal

pub returns-clause-here : goal.returns-clause-here
returns-clause-here c k lt =
    let at = c.args.at in let n = c.args.at + 8 - c.args.at in let old = c.args.residuals.now in
    let row = put_chunk 0 (take n (drop at old)) c.args.row in
    let long : length (take n (drop at old)) ≡ n = length-take-le n (drop at old) (omega (arith, c.requires, length-drop at old)) in
    let whole : row ≡ c.args.row = put_chunk_whole (take n (drop at old)) c.args.row (omega (arith, long, c.fits-row.0)) in
    sym (get_or-drop at (put_mid at n old row) k 0) ∙ sym (get_or-take n (drop at (put_mid at n old row)) k 0 (omega (arith, lt)))
    ∙ ap (λ (l : List ℕ). get_or l k 0) (between-put_mid at n old row (at + 8) (omega (arith, c.requires)) (ap (λ (l : List ℕ). length l) whole ∙ omega (arith, c.fits-row.0)) ∙ whole)
