use Rattle.std.proofs.Common.{◌≡◌, ◌*◌, length, arith, rules}
use Rattle.group_prediction.proofs.LongLanes.{column_is, column_same}
use Rattle.group_prediction.proofs.long.weights.put_weights.Goals as goal

pub returns-clause-held : goal.returns-clause-held
returns-clause-held g c =
    let done : c.loop-j.j ≡ 2 * g.row.Q = search rules in let kept = c.loop-j.invariant in let few = c.requires.few in let long = kept.long in
    let long_weights : length c.args.weights.now ≡ 18 = search rules in
    column_is (2 * g.row.Q) c.args.b c.loop-j.rows c.args.weights.now (omega (arith, few, long)) (omega (arith, few, long_weights))
    (λ j l. kept.done j (omega (arith, l, done)))

pub returns-clause-others : goal.returns-clause-others
returns-clause-others g c k n =
    let kept = c.loop-j.invariant in let long = kept.long in let long_rows : length c.args.rows.now ≡ 18 = search rules in
    column_same (2 * g.row.Q) k c.loop-j.rows c.args.rows.now (omega (arith, long, long_rows)) (λ j. kept.others j k n)
