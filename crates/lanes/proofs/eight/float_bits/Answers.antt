use Rattle.std.proofs.Common.{ℕ, List, ◌<◌, ◌≡◌, T, not, map, length, get_or, ap, ◌∙◌, sym, subst, arith, to_z, w32}
use Rattle.std.proofs.lemmas.List.{get_or-map, length-map}
use Rattle.std.proofs.lemmas.Simd.{Each1-from_get_or}
use lib.Ieee.{Float, binary32, of_int, to_bits, in_float, is_nan, nan}
use Rattle.lanes.specs.Lanes.{number}
use Rattle.lanes.proofs.Plain.{plain}
use Rattle.lanes.proofs.Floats.{is_float, is_number, same_number}
use Rattle.lanes.proofs.eight.float_bits.Goals as goal

-- the numbers as floats
abbrev floats : List ℕ → List Float
floats a = map (λ n. of_int binary32 (to_z w32 n)) (map (λ n. n) a)

float_at : (a : List ℕ) (k : ℕ) → k < length a → get_or (floats a) k nan ≡ of_int binary32 (to_z w32 (number a k))
float_at a k lt =
    get_or-map (λ n. of_int binary32 (to_z w32 n)) (map (λ n. n) a) k 0 nan (omega (arith, lt, length-map a (λ n. n)))
    ∙ ap (λ n. of_int binary32 (to_z w32 n)) (get_or-map (λ n. n) a k 0 0 lt)

pub int_to_float-result : goal.int_to_float-result
int_to_float-result c =
    let a = plain w32 8 c.args.a _ c.well_formed.0 in
    Each1-from_get_or _ (map (λ n. n) c.args.a) 0 (λ k h.
    let inside : k < length c.args.a = omega (arith, h, length-map c.args.a (λ n. n)) in
    let low = c.requires k (omega (arith, inside, a.0)) in
    let same = ap (to_z w32) (get_or-map (λ n. n) c.args.a k 0 0 inside) ∙ same_number (number c.args.a k) low in
    subst (λ z. T (in_float binary32 z)) (sym same) (is_float (number c.args.a k) low))

pub float_to_bits-result : goal.float_to_bits-result
float_to_bits-result c =
    let a = plain w32 8 c.args.a _ c.well_formed.0 in
    Each1-from_get_or _ (floats c.args.a) nan (λ k h.
    let inside : k < length c.args.a = omega (arith, h, length-map (map (λ n. n) c.args.a) (λ n. of_int binary32 (to_z w32 n)), length-map c.args.a (λ n. n)) in
    let low = c.requires k (omega (arith, inside, a.0)) in
    let same = float_at c.args.a k inside ∙ ap (of_int binary32) (same_number (number c.args.a k) low) in
    subst (λ x. T (not (is_nan x))) (sym same) (is_number (number c.args.a k) low))

pub returns : goal.returns
returns c k lt =
    let a = plain w32 8 c.args.a _ c.well_formed.0 in
    get_or-map (to_bits binary32) (floats c.args.a) k nan 0
    (omega (arith, lt, a.0, length-map (map (λ n. n) c.args.a) (λ n. of_int binary32 (to_z w32 n)), length-map c.args.a (λ n. n)))
    ∙ ap (to_bits binary32) (float_at c.args.a k (omega (arith, lt, a.0)) ∙ ap (of_int binary32) (same_number (number c.args.a k) (c.requires k lt)))
