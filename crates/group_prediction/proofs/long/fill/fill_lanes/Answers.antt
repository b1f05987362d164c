use Rattle.std.proofs.Common.{◌≡◌, refl, ◌-◌, ◌<◌, ℕ, ◌++◌, length, get_or, set, slice_get, Some, min, arith, inl, inr, sym, ap, ◌∙◌, subst, length-append, length-set, get_or-set_same}
use Rattle.std.proofs.lemmas.Bool.{cases_eq}
use Rattle.std.proofs.lemmas.List.{get_or_append_left, get_or-append_right}
use Rattle.std.proofs.lemmas.Option.{get_or_from_slice_get, slice_get_read, slice_get-get_or}
use Rattle.predict_core.specs.Following.{PredictorState}
use Rattle.group_prediction.specs.GroupLines.{AreLongLines, HoldsCentral, HoldsComponents, no_long_lines}
use Rattle.group_prediction.proofs.long.fill.fill_lanes.Goals as goal
use Rattle.group_prediction.proofs.long.fill.fill_lanes.Goals.{After-split_at_mut-before}

-- the band at a lane's place
module _ (c : After-split_at_mut-before) where
  at : slice_get c.args.bands.now c.loop-i.i ≡ Some c.index-bands-i.result
  at = slice_get_read c.args.bands.now (length c.args.bands.now) c.loop-i.i c.index-bands-i.result refl c.loop-i-test.true c.index-bands-i.is

  front_at : (j : ℕ) → j < c.loop-i.i → get_or c.loop-i.out j no_long_lines ≡ get_or c.split_at_mut-before.result.0.now j no_long_lines
  front_at j l =
      ap (λ xs. get_or xs j no_long_lines) c.split_at_mut-before.ensures.value
      ∙ get_or_append_left c.split_at_mut-before.result.0.now c.split_at_mut-before.result.1.now no_long_lines j
      (let e = c.split_at_mut-before.ensures.front_len in omega (arith, e, l))

pub fill_lane-requires-clause-before : goal.fill_lane-requires-clause-before
fill_lane-requires-clause-before c j l =
    let d = (goal.at.fill_lane-requires-clause-before c).After-split_at_mut-before in
    let within : j < c.loop-i.i = (let e = c.split_at_mut-before.ensures.front_len in omega (arith, e, l)) in
    let other = get_or c.args.bands.now j c.index-bands-i.result in
    let there = slice_get-get_or c.args.bands.now j c.index-bands-i.result (let some = c.loop-i-test.true in omega (arith, within, some)) in
    let told = c.loop-i.invariant.done j other within there in let same = c.requires.alike _ _ _ _ (at d) there in
    subst (λ l. HoldsCentral c.index-bands-i.result.predictor l.band c.args.run.now l.own) (front_at d j within)
    (subst (λ z. HoldsCentral c.index-bands-i.result.predictor z c.args.run.now (get_or c.loop-i.out j no_long_lines).own) (sym told.band)
    (subst (λ p. HoldsCentral p other.band c.args.run.now (get_or c.loop-i.out j no_long_lines).own) same told.own))

pub fill_lane-requires-clause-lower : goal.fill_lane-requires-clause-lower
fill_lane-requires-clause-lower c j l =
    let d = (goal.at.fill_lane-requires-clause-lower c).After-split_at_mut-before in
    let within : j < c.loop-i.i = (let e = c.split_at_mut-before.ensures.front_len in omega (arith, e, l)) in
    let other = get_or c.args.bands.now j c.index-bands-i.result in
    let there = slice_get-get_or c.args.bands.now j c.index-bands-i.result (let some = c.loop-i-test.true in omega (arith, within, some)) in
    let told = c.loop-i.invariant.done j other within there in let same = c.requires.alike _ _ _ _ (at d) there in
    subst (λ l. HoldsComponents c.args.n c.index-bands-i.result.predictor l.band c.args.run.now l.components) (front_at d j within)
    (subst (λ z. HoldsComponents c.args.n c.index-bands-i.result.predictor z c.args.run.now (get_or c.loop-i.out j no_long_lines).components) (sym told.band)
    (subst (λ p. HoldsComponents c.args.n p other.band c.args.run.now (get_or c.loop-i.out j no_long_lines).components) same told.components))

pub loop-i-preserved : goal.loop-i-preserved
loop-i-preserved c =
    let d = (goal.at.loop-i-preserved c).After-split_at_mut-before in
    let front = c.split_at_mut-before.result.0.now in let back = c.split_at_mut-before.result.1.now in
    let long : length front ≡ c.loop-i.i = c.split_at_mut-before.ensures.front_len in
    let rest : length back ≡ 8 - c.loop-i.i = (let v = ap length c.split_at_mut-before.ensures.value in let a = length-append front back in
    let o = c.loop-i.invariant.long in omega (arith, v, a, o, long)) in
    let many = c.requires.some_bands.1 in let test = c.loop-i-test.true in let some : c.loop-i.i < 8 = omega (arith, many, test) in record {
      done = λ j b l e. elim (cases_eq j c.loop-i.i) [
        | inl h ↦
            (let written : get_or (front ++ set back 0 c.fill_lane.new.out) j no_long_lines ≡ c.fill_lane.new.out =
            get_or-append_right front (set back 0 c.fill_lane.new.out) c.loop-i.i j no_long_lines long (omega (arith, h))
            ∙ ap (λ k. get_or (set back 0 c.fill_lane.new.out) k no_long_lines) (omega (arith, h))
            ∙ get_or-set_same back 0 c.fill_lane.new.out no_long_lines (omega (arith, rest, some)) in
            let same : c.index-bands-i.result ≡ b =
            sym (get_or_from_slice_get c.args.bands.now c.loop-i.i c.index-bands-i.result b (at d))
            ∙ get_or_from_slice_get c.args.bands.now c.loop-i.i b b
            (subst (λ k. slice_get c.args.bands.now k ≡ Some b) h e) in
            subst (λ l. AreLongLines c.args.n b.predictor b.band c.args.run.now l) (sym written)
            (subst (λ (v : PredictorState). AreLongLines c.args.n v.predictor v.band c.args.run.now c.fill_lane.new.out) same
            c.fill_lane.ensures))
        | inr n ↦
            (let within : j < c.loop-i.i = omega (arith, l, n) in
            let kept : get_or (front ++ set back 0 c.fill_lane.new.out) j no_long_lines ≡ get_or c.loop-i.out j no_long_lines =
            get_or_append_left front (set back 0 c.fill_lane.new.out) no_long_lines j (omega (arith, long, within)) ∙ sym (front_at d j within) in
            subst (λ l. AreLongLines c.args.n b.predictor b.band c.args.run.now l) (sym kept)
            (c.loop-i.invariant.done j b within e))
      ];
      long = length-append front (set back 0 c.fill_lane.new.out)
          ∙ (let s = length-set back 0 c.fill_lane.new.out in omega (arith, long, rest, s, some));
    }

pub returns : goal.returns
returns c i b l e =
    let some = c.requires.some_bands.0 in let end = c.loop-i-test.false in
    let last : min i (length c.args.bands.now - 1) < c.loop-i.i = omega (arith, some, end) in
    subst (λ v. AreLongLines c.args.n b.predictor b.band c.args.run.now v) (sym (c.repeat_last.ensures i l))
    (c.loop-i.invariant.done (min i (length c.args.bands.now - 1)) b last e)
