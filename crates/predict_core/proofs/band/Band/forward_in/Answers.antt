use Rattle.std.proofs.Common.{arith}
use Rattle.predict_core.proofs.Following.{follows_by, follows_first, residual_by, first_residual_is}
use Rattle.predict_core.proofs.band.Band.forward_in.Goals as goal

pub returns-then-t-eq0-clause-residual : goal.returns-then-t-eq0-clause-residual
returns-then-t-eq0-clause-residual c p f =
    let g = rw (← c.self.view_is) at f in let place = rw (← c.self.view_is, c.if-t-eq0.true) at c.requires.next in
    let e = rw g.made.predictor at c.first_residual.ensures.value in
    rw (← c.self.view_is, c.if-t-eq0.true) (first_residual_is p c.args.rows.now.image _ c.args.y c.args.x _ place c.requires.place.column e)

pub returns-then-t-eq0-clause-follows : goal.returns-then-t-eq0-clause-follows
returns-then-t-eq0-clause-follows c p f =
    let g = rw (← c.self.view_is) at f in let w = rw c.if-t-eq0.true at g.weights in record {
      made = record { predictor = g.made.predictor; shape = g.made.shape; kind = g.made.kind };
      weights = rw c.if-t-eq0.true (follows_first p c.args.rows.now.image _ _ w);
    }

pub returns-else-t-eq0-clause-residual : goal.returns-else-t-eq0-clause-residual
returns-else-t-eq0-clause-residual c p f =
    let g = rw (← c.self.view_is) at f in let place = rw (← c.self.view_is) at c.requires.next in let s = c.self.inside.settings in rw (← c.self.view_is)
    (residual_by p s.predictor c.args.rows.now.image s.band c.self.inside.next c.args.y c.args.x _ g.made.predictor (omega arith) place c.requires.place.column
    (rw s.count_is at g.weights) _ c.next_residual.ensures.value)

pub returns-else-t-eq0-clause-follows : goal.returns-else-t-eq0-clause-follows
returns-else-t-eq0-clause-follows c p f =
    let g = rw (← c.self.view_is) at f in let place = rw (← c.self.view_is) at c.requires.next in let s = c.self.inside.settings in
    let next = follows_by p s.predictor c.args.rows.now.image s.band c.self.inside.next c.args.y c.args.x _ g.made.predictor (omega arith) place
    c.requires.place.column (rw s.count_is at g.weights) _ c.next_residual.ensures.weights in
    record { made = record { predictor = g.made.predictor; shape = g.made.shape; kind = g.made.kind }; weights = rw s.count_is next }
