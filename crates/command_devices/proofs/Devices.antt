-- What is known of a device after one call and another.
use Rattle.std.proofs.Common.{◌≡◌, ℕ, ◌+◌, ◌-◌, ◌<◌, ◌≤◌, List, ◌++◌, length, take, drop, Option, Some, inl, inr, ◌⊎◌}
use Rattle.std.proofs.Common.{refl, sym, ap, ◌∙◌, subst, append_assoc, append-nil}
use Rattle.std.proofs.Common.{length-drop, length-take, take-add, take-take, arith}
use Rattle.std.proofs.lemmas.List.{take_all, take-append-le, take-append-drop, drop_at, take_at}
use Rattle.std.proofs.lemmas.Option.{same_Some}
use Rattle.std.proofs.Math.Seq.{take-append-add}
use borrow.Rule.Slice.PartMut.{put_mid, post_of}
use Rattle.command_devices.specs.Devices.{Gave, Took, Rises, Rose, CountsStall, IsAll, IsEnd}

pub took_more : (a b c : Option (List ℕ)) (x y : List ℕ) → Took a b x → Took b c y → Took a c (x ++ y)
took_more a b c x y first second before e = second (before ++ x) (first before e) ∙ ap (λ (bytes : List ℕ). Some bytes) (append_assoc before x y)

pub gave_more : (a b c : Option (List ℕ)) (x y : List ℕ) → Gave a b x → Gave b c y → Gave a c (x ++ y)
gave_more a b c x y first second before e =
    let one = first before e in
    let two = second one.0 one.1 in
    (two.0, two.1, one.2 ∙ ap (λ (bytes : List ℕ). x ++ bytes) two.2 ∙ sym (append_assoc x y two.0))

pub rises_is_rose : (old new : ℕ) → Rises old new → Rose old new
rises_is_rose old new (inl e) = inl (omega (arith, e.1))
rises_is_rose old new (inr e) = inr (e.1 ∙ e.0)

-- some bytes were taken, so no stall is counted
pub no_stall : (taken length old new : ℕ) → 0 < taken → CountsStall taken length old new → new ≡ old
no_stall taken length old new some (inl e) = absurd (omega (arith, e.0))
no_stall taken length old new some (inr e) = e.1

-- none of a piece were taken, so one is
pub stall_rises : (taken length old new : ℕ) → taken ≤ 0 → 0 < length → CountsStall taken length old new → Rises old new
stall_rises taken length old new none some (inl e) = e.2
stall_rises taken length old new none some (inr (inl h, e)) = absurd (omega (arith, h))
stall_rises taken length old new none some (inr (inr h, e)) = absurd (omega (arith, h))

-- what `&bytes[i..]` is
pub rest_is : (i : ℕ) (bytes : List ℕ) → take (length bytes - i) (drop i bytes) ≡ drop i bytes
rest_is i bytes = take_all (length bytes - i) (drop i bytes) (omega (arith, length-drop i bytes))

-- what follows the first bytes after a write there
pub part_written : (had k n : ℕ) (bytes piece : List ℕ) → had ≤ length bytes → n ≤ length piece
    → drop had (take (had + n) (put_mid had k bytes piece)) ≡ take n piece
part_written had k n bytes piece h le =
    let front : length (take had bytes) ≡ had = omega (arith, length-take had bytes) in
    let cut : take (had + n) (take had bytes ++ (piece ++ post_of had k bytes)) ≡ take had bytes ++ take n (piece ++ post_of had k bytes) =
    subst (λ (i : ℕ). take (i + n) (take had bytes ++ (piece ++ post_of had k bytes)) ≡ take had bytes ++ take n (piece ++ post_of had k bytes)) front
    (take-append-add (take had bytes) (piece ++ post_of had k bytes) n) in
    rw (cut, take-append-le n piece (post_of had k bytes) le) (drop_at (take had bytes) (take n piece) had front)

-- the bytes read so far, and those that came after them
pub read_more : (had n : ℕ) (old new : List ℕ) → had ≤ length new → take had new ≡ take had old
    → take (had + n) new ≡ take had old ++ drop had (take (had + n) new)
read_more had n old new h kept =
    let split = sym (take-append-drop had (take (had + n) new)) in
    let front : take had (take (had + n) new) ≡ take had old =
    rw (take-add had n new) (take_at (take had new) (take n (drop had new)) had (omega (arith, length-take had new))) ∙ kept in
    split ∙ ap (λ (x : List ℕ). x ++ drop had (take (had + n) new)) front

-- what more was put after bytes changes none of their first
pub front_kept : (had : ℕ) (old new : List ℕ) → had ≤ length old → take (length old) new ≡ old → take had new ≡ take had old
front_kept had old new h kept = sym (take-take had (length old) new h) ∙ ap (λ (x : List ℕ). take had x) kept

-- what is copied from the front of what a source has left was given
pub cut_gave : (left given rest : List ℕ) (n : ℕ) (later : List ℕ) → given ≡ take n left → rest ≡ drop n left → n ≤ length left
    → Gave (Some left) (Some rest) (take n (given ++ later))
cut_gave left given rest n later front back within before e =
    let long : length given ≡ n = ap (λ (x : List ℕ). length x) front ∙ omega (arith, length-take n left) in
    let all : take n (given ++ later) ≡ take n left = take_at given later n long ∙ front in
    (rest, refl, rw (all, back) (sym (same_Some left before e) ∙ sym (take-append-drop n left)))

-- bytes fewer than the limit, with which reading ended, are all of them
pub all_read : (limit : ℕ) (old new : Option (List ℕ)) (bytes : List ℕ) → Gave old new bytes → (length bytes ≡ limit) ⊎ IsEnd new → length bytes < limit
    → IsAll old bytes
all_read limit old new bytes given (inl e) below input h = absurd (omega (arith, e, below))
all_read limit old new bytes given (inr end) below input e =
    let gave = given input e in
    gave.2 ∙ ap (λ (rest : List ℕ). bytes ++ rest) (end gave.0 gave.1) ∙ append-nil bytes
