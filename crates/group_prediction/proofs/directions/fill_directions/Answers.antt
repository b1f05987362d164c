use Rattle.std.proofs.Common.{◌≡◌, ℕ, ◌+◌, ◌^◌, ◌<◌, ◌||◌, ◌==◌, ℤ, pos, unsigned_abs, List, [], ◌∷◌, get_or, ◌∙◌, sym, ap, subst, refl, arith, inl, inr}
use Rattle.std.proofs.lemmas.Int.{ints}
use Rattle.std.proofs.lemmas.Bool.{cases_eq}
use Rattle.cube_core.specs.Image.{IsPlace}
use Rattle.lanes.specs.Lanes.{place}
use Rattle.sample_prediction.specs.Differences.{directional_differences}
use Rattle.sample_prediction.specs.Lines.{line_sum}
use Rattle.sample_prediction.specs.OffsetSum.{offset_difference}
use Rattle.sample_prediction.proofs.Directions.{directional_first, directional_length}
use Rattle.group_prediction.proofs.GroupLines.{directional_small, difference_told}
use Rattle.predict_core.proofs.Components.{three}
use Rattle.group_prediction.specs.GroupLines.{IsToldDifference}
use Rattle.group_prediction.proofs.directions.fill_directions.Goals as goal
use Rattle.group_prediction.proofs.directions.fill_directions.Goals.{After-fill_three}

pub returns-then-y-eq0 : goal.returns-then-y-eq0
returns-then-y-eq0 c = λ i k l h m.
    let s = c.args.settings.now in let within : i < 64 = (let f = c.requires.run.few in omega (arith, l, f)) in
    let none = directional_first s.predictor c.args.run.now.image s.band c.args.run.now.y (c.args.run.now.x + i) (sym c.y.ensures ∙ c.if-y-eq0.true) in
    let first = c.clear.ensures in let second = c.clear-then-y-eq0.ensures in let third = c.clear-then-y-eq0-2.ensures in
    three (λ k. place c.clear-then-y-eq0-2.new.components k i
    ≡ get_or (directional_differences s.predictor c.args.run.now.image s.band c.args.run.now.y (c.args.run.now.x + i)) k (pos 0))
    (third.others 0 i (omega arith) ∙ second.others 0 i (omega arith) ∙ first.zeros i within ∙ ap (λ xs. get_or xs 0 (pos 0)) (sym none))
    (third.others 1 i (omega arith) ∙ second.zeros i within ∙ ap (λ xs. get_or xs 1 (pos 0)) (sym none))
    (third.zeros i within ∙ ap (λ xs. get_or xs 2 (pos 0)) (sym none)) k m

-- a difference that is told by the local sum there
told_is : (sum offset : ℕ) (s d out : ℤ) → s ≡ pos sum → IsToldDifference offset s out → d ≡ offset_difference offset sum → unsigned_abs d < 2 ^ 15 → out ≡ d
told_is sum offset s d out e h f g = difference_told sum offset offset s d out e refl f g (h (rw e (omega (arith, ints))))

-- the three directions of a place that isn't in the first column
module _ (c : After-fill_three) (i : ℕ) (l : i < c.args.run.now.count) (h : 0 < c.args.run.now.y + (c.args.run.now.x + i)) where
  there : IsPlace c.args.run.now.image.shape c.args.settings.now.band c.args.run.now.y (c.args.run.now.x + i)
  there = record { band = c.requires.run.place.band; row = c.requires.run.place.row; column = omega (arith, l, c.requires.run.inside) }

  abbrev directions : List ℤ
  directions = directional_differences c.args.settings.now.predictor c.args.run.now.image c.args.settings.now.band c.args.run.now.y (c.args.run.now.x + i)

  within : i < 64
  within = let f = c.requires.run.few in omega (arith, l, f)

  small : (k : ℕ) → k < 3 → unsigned_abs (get_or directions k (pos 0)) < 2 ^ 15
  small k m =
      let s = c.args.settings.now in
      directional_small s.predictor c.args.run.now.image c.prove_is_row.ensures.cube c.requires.bits s.band c.args.run.now.y (c.args.run.now.x + i) h (rw c.requires.columns s.wide) there k
      (let e = directional_length s.predictor c.args.run.now.image s.band c.args.run.now.y (c.args.run.now.x + i) in omega (arith, e, m))

  inside : 0 < c.args.run.now.x + i → (k : ℕ) → k < 3 → place c.fill_three.new.components k i ≡ get_or directions k (pos 0)
  inside q =
      let along = c.requires.lines.directions i l (let n = c.if-y-eq0.false in omega (arith, n)) q in let sum = c.requires.sums i l h in
      three (λ k. place c.fill_three.new.components k i ≡ get_or directions k (pos 0))
      (told_is _ _ _ _ _ sum (c.fill_three.ensures.north i within) (ap (λ xs. get_or xs 0 (pos 0)) along) (small 0 (omega arith)))
      (told_is _ _ _ _ _ sum (c.fill_three.ensures.west i within) (ap (λ xs. get_or xs 1 (pos 0)) along) (small 1 (omega arith)))
      (told_is _ _ _ _ _ sum (c.fill_three.ensures.north_west i within) (ap (λ xs. get_or xs 2 (pos 0)) along) (small 2 (omega arith)))

  -- and those of the first place of a row
  first : c.args.run.now.x ≡ 0 → i ≡ 0 → (directions ≡ get_or directions 0 (pos 0) ∷ get_or directions 0 (pos 0) ∷ get_or directions 0 (pos 0) ∷ [])
      × (place c.fill_three.new.components 0 0 ≡ get_or directions 0 (pos 0))
  first e f =
      let s = c.args.settings.now in let at : c.args.run.now.x + i ≡ c.args.run.now.x = omega (arith, f) in
      let same = ap (λ k. directional_differences s.predictor c.args.run.now.image s.band c.args.run.now.y k) at
      ∙ c.requires.lines.first_directions (let n = c.if-y-eq0.false in omega (arith, n)) e in
      let north = ap (λ xs. get_or xs 0 (pos 0)) same in
      let sum = subst (λ k. get_or c.args.sums.now k (pos 0) ≡ pos (line_sum (s.predictor.column || c.args.run.now.y == 0) c.args.lines.now.current c.args.lines.now.above k)) f
      (c.requires.sums i l h) in
      (same ∙ rw (← north) refl, told_is _ _ _ _ _ sum (c.fill_three.ensures.north 0 (omega arith)) north (small 0 (omega arith)))

pub returns-else-x-eq0 : goal.returns-else-x-eq0
returns-else-x-eq0 c = λ i k l h m.
    let d = (goal.at.returns-else-x-eq0 c).After-fill_three in inside d i l h (let n = c.if-x-eq0.false in omega (arith, n)) k m

pub returns-then-x-eq0 : goal.returns-then-x-eq0
returns-then-x-eq0 c = λ i k l h m.
    let d = (goal.at.returns-then-x-eq0 c).After-fill_three in let s = c.args.settings.now in elim (cases_eq i 0) [
      | inl e ↦
          (let f = first d i l h (sym c.x.ensures ∙ c.if-x-eq0.true) e in let dirs = directions d i l h in let again = c.repeat_north.ensures in
          let zero = ap (λ j. place c.repeat_north.new.components k j) e in
          zero ∙ three (λ k. place c.repeat_north.new.components k 0 ≡ get_or dirs k (pos 0)) (again.north ∙ f.1)
          (again.west ∙ f.1 ∙ ap (λ xs. get_or xs 1 (pos 0)) (sym f.0)) (again.north_west ∙ f.1 ∙ ap (λ xs. get_or xs 2 (pos 0)) (sym f.0)) k m)
      | inr n ↦ c.repeat_north.ensures.others k i (omega (arith, n)) ∙ inside d i l h (omega (arith, n)) k m
    ]
