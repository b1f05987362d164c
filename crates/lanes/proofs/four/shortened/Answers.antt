use Rattle.std.proofs.Common.{◌∙◌, ap, w32, w64, ◌≡◌, length, map, of_z, to_z, arith, get_or}
use Rattle.std.proofs.lemmas.Int.{to_z-of_z, fits_signed_from_abs}
use Rattle.std.proofs.lemmas.List.{length-map}
use Rattle.std.proofs.lemmas.Simd.{Each1-from_get_or}
use Rattle.lanes.proofs.Ranges.{vector, fits_by}
use Rattle.lanes.proofs.Steps.{number, bits_of, cast_bits, length-cast_bits, bits_of_cast}
use Rattle.lanes.specs.Lanes.{lane}
use Rattle.lanes.proofs.four.shortened.Goals as goal

pub overflow_cast-result : goal.overflow_cast-result
overflow_cast-result c =
    let a = vector w64 4 c.args.a _ c.well_formed.0 in
    let l : length (map (of_z w64) c.args.a) ≡ 4 = length-map c.args.a (of_z w64) ∙ a.0 in
    Each1-from_get_or _ (map (of_z w64) c.args.a) 0 (λ k h.
    let e : to_z w64 (get_or (map (of_z w64) c.args.a) k 0) ≡ lane c.args.a k =
    ap (to_z w64) (bits_of w64 c.args.a k (omega (arith, l, a.0))) ∙ to_z-of_z w64 (lane c.args.a k) (a.1 k) in
    fits_by w32 _ _ e (fits_signed_from_abs w32 _ (c.requires k (omega (arith, l)))))

pub returns : goal.returns
returns c k within =
    let a = vector w64 4 c.args.a _ c.well_formed.0 in
    number w32 (cast_bits w64 w32 c.args.a) k (omega (arith, a.0, length-cast_bits w64 w32 c.args.a))
    ∙ ap (to_z w32) (bits_of_cast w64 w32 c.args.a k (a.1 k) (omega (arith, a.0)))
    ∙ to_z-of_z w32 (lane c.args.a k) (fits_signed_from_abs w32 _ (c.requires k within))
