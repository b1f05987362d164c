use Rattle.std.proofs.Common.{◌≡◌, ℕ, ◌+◌, ◌-◌, ◌≤◌, List, ◌++◌, length, get_or, drop, replicate, arith, ap, ◌∙◌}
use Rattle.std.proofs.lemmas.List.{get_or-append-add, get_or-drop, length-take-le}
use Rattle.predict_core.proofs.Quads.{zero_at}
use Rattle.std.proofs.lemmas.Grind.{common_steps}
use Rattle.predict_core.proofs.mapping.copy_offsets.Goals as goal

-- what comes after those that were written
later : (xs ys : List ℕ) (n k : ℕ) → length xs ≡ n → n ≤ k → ys ≡ replicate 64 0 → ◌≡◌ {A = ℕ} (get_or (xs ++ drop n ys) k 0) 0
later xs ys n k e h f =
    let place : k ≡ length xs + (k - n) = omega (arith, e, h) in
    ap (λ j. get_or (xs ++ drop n ys) j 0) place ∙ get_or-append-add xs (drop n ys) (k - n) 0 ∙ get_or-drop n ys (k - n) 0 ∙ rw f (zero_at 64 (n + (k - n)))

pub returns-else-count-eq-PIECE-clause-rest : goal.returns-else-count-eq-PIECE-clause-rest
returns-else-count-eq-PIECE-clause-rest c k l =
    let long : length c.copy_from_slice-else-count-eq-PIECE.new.self ≡ c.args.count =
    c.copy_from_slice-else-count-eq-PIECE.ensures.len ∙ length-take-le _ _ (omega arith) in
    later c.copy_from_slice-else-count-eq-PIECE.new.self c.args.offsets.now c.args.count k long l c.requires.clear

pub returns-else-count-eq-PIECE-clause-written : goal.returns-else-count-eq-PIECE-clause-written
returns-else-count-eq-PIECE-clause-written c = grind (arith, common_steps)
