use Rattle.std.proofs.Common.{◌≡◌, refl, subst, sym, w16, ◌∷◌, [], ap, ◌∙◌, to_z, map, rules}
use Rattle.lanes.specs.Lanes.{lane}
use Rattle.lanes.proofs.Ranges.{vector}
use Rattle.lanes.proofs.Moves.{AreFrom, from_1, from_2, from_3, from_4, from_5, from_6, from_7, moved_low, moved_high}
use Rattle.lanes.proofs.narrow.moved.Goals as goal

pub returns-clause-first : goal.returns-clause-first
returns-clause-first c k l =
    let a = vector w16 8 c.args.first _ c.well_formed.0 in elim c.match-by.branch [
      | goal.in-1 w ↦ ap (λ v. lane (map (to_z w16) v) k) w.result-is ∙ moved_low w16 c.args.first c.args.second (7 ∷ 8 ∷ 9 ∷ 10 ∷ 11 ∷ 12 ∷ 13 ∷ 14 ∷ []) c.args.by k (subst (λ n. AreFrom n (7 ∷ 8 ∷ 9 ∷ 10 ∷ 11 ∷ 12 ∷ 13 ∷ 14 ∷ [])) (sym w.in-1.is) from_1) c.requires.1 refl a.0 a.1 l
      | goal.in-2 w ↦ ap (λ v. lane (map (to_z w16) v) k) w.result-is ∙ moved_low w16 c.args.first c.args.second (6 ∷ 7 ∷ 8 ∷ 9 ∷ 10 ∷ 11 ∷ 12 ∷ 13 ∷ []) c.args.by k (subst (λ n. AreFrom n (6 ∷ 7 ∷ 8 ∷ 9 ∷ 10 ∷ 11 ∷ 12 ∷ 13 ∷ [])) (sym w.in-2.is) from_2) c.requires.1 refl a.0 a.1 l
      | goal.in-3 w ↦ ap (λ v. lane (map (to_z w16) v) k) w.result-is ∙ moved_low w16 c.args.first c.args.second (5 ∷ 6 ∷ 7 ∷ 8 ∷ 9 ∷ 10 ∷ 11 ∷ 12 ∷ []) c.args.by k (subst (λ n. AreFrom n (5 ∷ 6 ∷ 7 ∷ 8 ∷ 9 ∷ 10 ∷ 11 ∷ 12 ∷ [])) (sym w.in-3.is) from_3) c.requires.1 refl a.0 a.1 l
      | goal.in-4 w ↦ ap (λ v. lane (map (to_z w16) v) k) w.result-is ∙ moved_low w16 c.args.first c.args.second (4 ∷ 5 ∷ 6 ∷ 7 ∷ 8 ∷ 9 ∷ 10 ∷ 11 ∷ []) c.args.by k (subst (λ n. AreFrom n (4 ∷ 5 ∷ 6 ∷ 7 ∷ 8 ∷ 9 ∷ 10 ∷ 11 ∷ [])) (sym w.in-4.is) from_4) c.requires.1 refl a.0 a.1 l
      | goal.in-5 w ↦ ap (λ v. lane (map (to_z w16) v) k) w.result-is ∙ moved_low w16 c.args.first c.args.second (3 ∷ 4 ∷ 5 ∷ 6 ∷ 7 ∷ 8 ∷ 9 ∷ 10 ∷ []) c.args.by k (subst (λ n. AreFrom n (3 ∷ 4 ∷ 5 ∷ 6 ∷ 7 ∷ 8 ∷ 9 ∷ 10 ∷ [])) (sym w.in-5.is) from_5) c.requires.1 refl a.0 a.1 l
      | goal.in-6 w ↦ ap (λ v. lane (map (to_z w16) v) k) w.result-is ∙ moved_low w16 c.args.first c.args.second (2 ∷ 3 ∷ 4 ∷ 5 ∷ 6 ∷ 7 ∷ 8 ∷ 9 ∷ []) c.args.by k (subst (λ n. AreFrom n (2 ∷ 3 ∷ 4 ∷ 5 ∷ 6 ∷ 7 ∷ 8 ∷ 9 ∷ [])) (sym w.in-6.is) from_6) c.requires.1 refl a.0 a.1 l
      | goal.in_default w ↦ ap (λ v. lane (map (to_z w16) v) k) w.result-is ∙ moved_low w16 c.args.first c.args.second (1 ∷ 2 ∷ 3 ∷ 4 ∷ 5 ∷ 6 ∷ 7 ∷ 8 ∷ []) c.args.by k (subst (λ n. AreFrom n (1 ∷ 2 ∷ 3 ∷ 4 ∷ 5 ∷ 6 ∷ 7 ∷ 8 ∷ [])) (sym (let e : c.args.by ≡ 7 = search rules in e)) from_7) c.requires.1 refl a.0 a.1 l
    ]

pub returns-clause-second : goal.returns-clause-second
returns-clause-second c k low l =
    let a = vector w16 8 c.args.first _ c.well_formed.0 in let b = vector w16 8 c.args.second _ c.well_formed.1.0 in elim c.match-by.branch [
      | goal.in-1 w ↦ ap (λ v. lane (map (to_z w16) v) k) w.result-is ∙ moved_high w16 c.args.first c.args.second (7 ∷ 8 ∷ 9 ∷ 10 ∷ 11 ∷ 12 ∷ 13 ∷ 14 ∷ []) c.args.by k (subst (λ n. AreFrom n (7 ∷ 8 ∷ 9 ∷ 10 ∷ 11 ∷ 12 ∷ 13 ∷ 14 ∷ [])) (sym w.in-1.is) from_1) c.requires.1 refl a.0 b.0 b.1 low l
      | goal.in-2 w ↦ ap (λ v. lane (map (to_z w16) v) k) w.result-is ∙ moved_high w16 c.args.first c.args.second (6 ∷ 7 ∷ 8 ∷ 9 ∷ 10 ∷ 11 ∷ 12 ∷ 13 ∷ []) c.args.by k (subst (λ n. AreFrom n (6 ∷ 7 ∷ 8 ∷ 9 ∷ 10 ∷ 11 ∷ 12 ∷ 13 ∷ [])) (sym w.in-2.is) from_2) c.requires.1 refl a.0 b.0 b.1 low l
      | goal.in-3 w ↦ ap (λ v. lane (map (to_z w16) v) k) w.result-is ∙ moved_high w16 c.args.first c.args.second (5 ∷ 6 ∷ 7 ∷ 8 ∷ 9 ∷ 10 ∷ 11 ∷ 12 ∷ []) c.args.by k (subst (λ n. AreFrom n (5 ∷ 6 ∷ 7 ∷ 8 ∷ 9 ∷ 10 ∷ 11 ∷ 12 ∷ [])) (sym w.in-3.is) from_3) c.requires.1 refl a.0 b.0 b.1 low l
      | goal.in-4 w ↦ ap (λ v. lane (map (to_z w16) v) k) w.result-is ∙ moved_high w16 c.args.first c.args.second (4 ∷ 5 ∷ 6 ∷ 7 ∷ 8 ∷ 9 ∷ 10 ∷ 11 ∷ []) c.args.by k (subst (λ n. AreFrom n (4 ∷ 5 ∷ 6 ∷ 7 ∷ 8 ∷ 9 ∷ 10 ∷ 11 ∷ [])) (sym w.in-4.is) from_4) c.requires.1 refl a.0 b.0 b.1 low l
      | goal.in-5 w ↦ ap (λ v. lane (map (to_z w16) v) k) w.result-is ∙ moved_high w16 c.args.first c.args.second (3 ∷ 4 ∷ 5 ∷ 6 ∷ 7 ∷ 8 ∷ 9 ∷ 10 ∷ []) c.args.by k (subst (λ n. AreFrom n (3 ∷ 4 ∷ 5 ∷ 6 ∷ 7 ∷ 8 ∷ 9 ∷ 10 ∷ [])) (sym w.in-5.is) from_5) c.requires.1 refl a.0 b.0 b.1 low l
      | goal.in-6 w ↦ ap (λ v. lane (map (to_z w16) v) k) w.result-is ∙ moved_high w16 c.args.first c.args.second (2 ∷ 3 ∷ 4 ∷ 5 ∷ 6 ∷ 7 ∷ 8 ∷ 9 ∷ []) c.args.by k (subst (λ n. AreFrom n (2 ∷ 3 ∷ 4 ∷ 5 ∷ 6 ∷ 7 ∷ 8 ∷ 9 ∷ [])) (sym w.in-6.is) from_6) c.requires.1 refl a.0 b.0 b.1 low l
      | goal.in_default w ↦ ap (λ v. lane (map (to_z w16) v) k) w.result-is ∙ moved_high w16 c.args.first c.args.second (1 ∷ 2 ∷ 3 ∷ 4 ∷ 5 ∷ 6 ∷ 7 ∷ 8 ∷ []) c.args.by k (subst (λ n. AreFrom n (1 ∷ 2 ∷ 3 ∷ 4 ∷ 5 ∷ 6 ∷ 7 ∷ 8 ∷ [])) (sym (let e : c.args.by ≡ 7 = search rules in e)) from_7) c.requires.1 refl a.0 b.0 b.1 low l
    ]
