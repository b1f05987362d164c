use Rattle.std.proofs.Common.{◌≡◌, ◌+◌, ◌*◌, length, arith, rules, ◌∙◌}
use Rattle.predict_core.proofs.LaneVectors.{weights_are, weights_same}
use Rattle.predict_core.proofs.lane_weights.put_weights.Goals as goal

pub returns-clause-held : goal.returns-clause-held
returns-clause-held g c h =
    let done : c.loop-j.j ≡ g.row.Q = search rules in let kept = c.loop-j.invariant in let few = c.requires.few in let long = kept.long in
    let long_weights : length c.args.weights.now ≡ 18 = search rules in
    weights_are g.row.Q c.args.b c.loop-j.rows c.args.weights.now (omega (arith, few, long)) (omega (arith, few, long_weights))
    (λ j l. kept.even j (omega (arith, l, done))) (λ j l. kept.odd j (omega (arith, l, done)))

pub returns-clause-others : goal.returns-clause-others
returns-clause-others g c k n =
    let kept = c.loop-j.invariant in let long = kept.long in
    let long_rows : length c.args.rows.now ≡ 9 = search rules in
    weights_same g.row.Q k c.loop-j.rows c.args.rows.now (omega (arith, long, long_rows))
    (λ j. kept.others j (2 * k) (λ e. n (omega (arith, e))) (λ e. absurd (omega (arith, e))))
    (λ j. kept.others j (2 * k + 1) (λ e. absurd (omega (arith, e))) (λ e. n (omega (arith, e))))

pub returns-then-not-put_pair-clause-others : goal.returns-then-not-put_pair-clause-others
returns-then-not-put_pair-clause-others g c k n =
    let kept = c.loop-j.invariant in let long = c.put_pair.array_long in let lanes = c.put_pair.ensures.lanes in
    let long_rows : length c.args.rows.now ≡ 9 = search rules in
    weights_same g.row.Q k c.put_pair.new.rows c.args.rows.now (omega (arith, long, long_rows))
    (λ j. lanes j (2 * k) (λ e. n (omega (arith, e))) (λ e. absurd (omega (arith, e)))
    ∙ kept.others j (2 * k) (λ e. n (omega (arith, e))) (λ e. absurd (omega (arith, e))))
    (λ j. lanes j (2 * k + 1) (λ e. absurd (omega (arith, e))) (λ e. n (omega (arith, e)))
    ∙ kept.others j (2 * k + 1) (λ e. absurd (omega (arith, e))) (λ e. n (omega (arith, e))))
