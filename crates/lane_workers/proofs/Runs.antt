-- What stands before the numbers at the end of a list.
use Rattle.std.proofs.Common.{◌≡◌, ◌≤◌, ℕ, List, ◌++◌, ◌+◌, ◌-◌, length, take, drop, arith, sym, ap, ◌∙◌, length-append}
use Rattle.std.proofs.lemmas.List.{append_assoc, drop-drop}
use Rattle.std.proofs.Math.Seq.{take-add, take-append_seam}
use Rattle.lane_workers.specs.Runs.{before}

pub before_append : (front last : List ℕ) → before (front ++ last) last ≡ front
before_append front last =
    let e : length (front ++ last) - length last ≡ length front = omega (arith, length-append front last) in
    rw e (take-append_seam front last)

-- some of the numbers at the end are handed on
pub before_run : (all front last run later : List ℕ) → all ≡ front ++ last → last ≡ run ++ later
    → (before all later ≡ front ++ run) × (all ≡ before all later ++ later)
before_run all front last run later e parts =
    let parted : all ≡ (front ++ run) ++ later = e ∙ ap (λ ns. front ++ ns) parts ∙ sym (append_assoc front run later) in
    let here : before all later ≡ front ++ run = ap (λ ns. before ns later) parted ∙ before_append (front ++ run) later in
    (here, parted ∙ ap (λ ns. ns ++ later) (sym here))

-- of the numbers from one place up to another, the first are copied to the front of a run
pub first_of_room : (numbers copied rest : List ℕ) (first end count : ℕ) → count ≤ end - first → length copied ≡ count
    → copied ≡ take count (drop first numbers)
    → take (end - first) (drop first numbers) ≡ take count (copied ++ rest) ++ take (end - (first + count)) (drop (first + count) numbers)
first_of_room numbers copied rest first end count within long same =
    let left : end - (first + count) ≡ end - first - count = omega arith in
    let parts : end - first ≡ count + (end - first - count) = omega (arith, within) in
    let front : take count (copied ++ rest) ≡ copied = ap (λ n. take n (copied ++ rest)) (sym long) ∙ take-append_seam copied rest in
    ap (λ n. take n (drop first numbers)) parts ∙ take-add count (end - first - count) (drop first numbers)
    ∙ ap (λ ns. take count (drop first numbers) ++ take (end - first - count) ns) (drop-drop count first numbers)
    ∙ ap (λ ns. ns ++ take (end - first - count) (drop (first + count) numbers)) (sym same ∙ sym front)
    ∙ ap (λ n. take count (copied ++ rest) ++ take n (drop (first + count) numbers)) (sym left)
