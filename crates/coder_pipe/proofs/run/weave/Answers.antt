use Rattle.std.proofs.Common.{◌≡◌, ◌≤◌, List, ℕ, length, take, length-take, arith, rules, IfErr, IfOk, refl, ◌∙◌, vec_len}
use Rattle.file_encoding.specs.Ends.{MayCodeAll}
use Rattle.coder_pipe.specs.Standings.{feeds_of, gates_of, handed_of, IsAhead}
use Rattle.coder_pipe.specs.Stops.{MayStopAt}
use Rattle.coder_pipe.proofs.Taking.{woven_first, woven_ahead}
use Rattle.coder_pipe.proofs.run.weave.Goals as goal
use Rattle.coder_pipe.proofs.run.weave.Goals.{Joined-along_rows, then-along_rows, else-along_rows}
use Rattle.coder_pipe.proofs.run.weave.Given.{Over}

module _ (g : Over) (c : Joined-along_rows g) where
  -- what both ways of gathering say
  gathered : (feeds_of c.if-along_rows.stages.items ≡ feeds_of c.args.stages.now.items)
      × (gates_of c.if-along_rows.stages.items ≡ gates_of c.args.stages.now.items)
      × (vec_len c.if-along_rows.stages ≡ vec_len c.args.stages.now)
      × IfOk c.if-along_rows.gathered (λ n. IsAhead c.args.plan.now.params c.args.plan.now.deal c.loop-taken.weaver (handed_of c.if-along_rows.stages.items)
      c.loop-taken.taken (take n c.if-along_rows.run))
      × IfOk c.if-along_rows.gathered (λ n. MayCodeAll c.loop-taken.weaver.end (take n c.if-along_rows.run))
      × IfErr c.if-along_rows.gathered (λ at. MayStopAt g.G.Gate.may_stop g.F.Feed.items
      (feeds_of c.loop-taken.stages.items) (gates_of c.loop-taken.stages.items) at.0 at.1)
  gathered =
      let kept = c.loop-taken.invariant in
      elim c.if-along_rows.branch [
        | then-along_rows w ↦ (let e = w.next_of_row-gathered.ensures in
            rw (w.stages-is, w.run-is, w.gathered-is) (e.feeds ∙ kept.feeds, e.gates ∙ kept.gates, e.len ∙ kept.many, e.ahead, e.may, e.stopped))
        | else-along_rows w ↦ (let e = w.next_of_column-gathered.ensures in
            rw (w.stages-is, w.run-is, w.gathered-is) (e.feeds ∙ kept.feeds, e.gates ∙ kept.gates, e.len ∙ kept.many, e.ahead, e.may, e.stopped))
      ]

pub loop-taken-init : goal.loop-taken-init
loop-taken-init g c = record { feeds = refl; gates = refl; many = refl; woven = woven_first _ _ _ _ c.requires.woven c.requires.fresh }

pub loop-taken-preserved : goal.loop-taken-preserved
loop-taken-preserved g c =
    let here = gathered g (goal.at.loop-taken-preserved g c).Joined-along_rows in
    let run : List ℕ = take c.in-Ok.count c.if-along_rows.run in
    let within : c.in-Ok.count ≤ length c.if-along_rows.run = search rules in
    let long : length run ≡ c.in-Ok.count = omega (arith, within, length-take c.in-Ok.count c.if-along_rows.run) in
    let woven = rw long at (woven_ahead _ _ _ _ _ _ run (rw c.in-Ok.is at here.3) c.in-Ok-take_all.ensures.woven) in
    record { feeds = here.0; gates = here.1; many = here.2; woven = woven }

pub take_all-requires : goal.take_all-requires
take_all-requires g c = rw c.in-Ok.is at (gathered g (goal.at.take_all-requires g c).Joined-along_rows).4

pub returns-in_default-clause-feeds : goal.returns-in_default-clause-feeds
returns-in_default-clause-feeds g c = (gathered g (goal.at.returns-in_default-clause-feeds g c).Joined-along_rows).0

pub returns-in_default-clause-gates : goal.returns-in_default-clause-gates
returns-in_default-clause-gates g c = (gathered g (goal.at.returns-in_default-clause-gates g c).Joined-along_rows).1

pub returns-in-Err-clause-feeds : goal.returns-in-Err-clause-feeds
returns-in-Err-clause-feeds g c = (gathered g (goal.at.returns-in-Err-clause-feeds g c).Joined-along_rows).0

pub returns-in-Err-clause-gates : goal.returns-in-Err-clause-gates
returns-in-Err-clause-gates g c = (gathered g (goal.at.returns-in-Err-clause-gates g c).Joined-along_rows).1

pub returns-in-Err-clause-stopped : goal.returns-in-Err-clause-stopped
returns-in-Err-clause-stopped g c =
    let here = gathered g (goal.at.returns-in-Err-clause-stopped g c).Joined-along_rows in
    rw (c.in-Err.is, c.loop-taken.invariant.feeds, c.loop-taken.invariant.gates) at here.5
