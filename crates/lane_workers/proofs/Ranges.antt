-- Numbers that were received are of the list that was sent from.
use Rattle.std.proofs.Common.{◌≡◌, ℕ, ◌≤◌, List, [], ◌++◌, ◌+◌, length, take, ◌∙◌, ap, sym, subst, All, arith, length-append}
use Rattle.std.proofs.Math.Seq.{take-append_seam}
use Rattle.std.proofs.lemmas.List.{take_all, append-nil, nil_from_length}
use Rattle.std.proofs.lemmas.List.Elements.{All-take}

-- of a list whose numbers are at most so great, a part was sent, and of that some were received
pub received_is_within : (most : ℕ) (items sent received rest : List ℕ) → All (λ i. i ≤ most) items → sent ≡ take (length sent) items → sent ≡ received ++ rest
    → All (λ i. i ≤ most) received
received_is_within most items sent received rest within prefix parted =
    let all : All (λ i. i ≤ most) sent = rw prefix (All-take (λ i. i ≤ most) (length sent) items within) in
    let front : take (length received) sent ≡ received = ap (λ ns. take (length received) ns) parted ∙ take-append_seam received rest in
    subst (λ ns. All (λ i. i ≤ most) ns) front (All-take (λ i. i ≤ most) (length received) sent all)

-- as many numbers as the list has were received: the list was sent, and nothing is left
pub all_is_received : (items sent received rest : List ℕ) → sent ≡ take (length sent) items → sent ≡ received ++ rest → length received ≡ length items
    → (sent ≡ items) × (received ≡ items) × (rest ≡ [])
all_is_received items sent received rest prefix parted same =
    let parts : length sent ≡ length received + length rest = ap length parted ∙ length-append received rest in
    let whole : sent ≡ items = prefix ∙ take_all (length sent) items (omega (arith, parts, same)) in
    let left : rest ≡ [] = nil_from_length rest (omega (arith, parts, same, ap length whole)) in
    (whole, sym (append-nil received) ∙ ap (λ r. received ++ r) (sym left) ∙ sym parted ∙ whole, left)
