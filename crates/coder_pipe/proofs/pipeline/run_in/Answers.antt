use Rattle.std.proofs.Common.{ℕ, map, sym, ◌∙◌}
use Rattle.std.proofs.lemmas.List.{length-map}
use Rattle.std.proofs.lemmas.Result.{IfErr-weaker}
use Rattle.coder_pipe.specs.Piping.{MayStop}
use Rattle.coder_pipe.specs.Standings.{feeds_of, gates_of}
use Rattle.coder_pipe.specs.Stops.{MayStopAt}
use Rattle.coder_pipe.proofs.Pipelines.{one_gate, early}
use Rattle.coder_pipe.proofs.pipeline.run_in.Goals as goal

pub returns-clause-piped : goal.returns-clause-piped
returns-clause-piped g c = rw (c.start_all-stages.ensures.feeds c.if-not-all.false) at c.weave_all.ensures.piped

pub returns-clause-early : goal.returns-clause-early
returns-clause-early g c =
    let ss = c.start_all-stages.result.0.items in
    let stops = λ (q n : ℕ) (at : MayStopAt g.G.Gate.may_stop g.F.Feed.items (feeds_of ss) (gates_of ss) q n).
    one_gate g.G.Gate.may_stop _ g.F.Feed.items (feeds_of ss) _ (gates_of ss) q n (c.start_all-stages.ensures.feeds c.if-not-all.false)
    c.start_all-stages.ensures.gates (length-map ss (λ s. s.gate) ∙ sym (length-map ss (λ s. s.feed))) at in
    let all = map (λ r. r.feed) c.args.prepared.items in
    IfErr-weaker c.weave_all.result _ _ (λ e h. early e _ (λ q n. MayStop g.G.Gate.may_stop c.args.gate.now g.F.Feed.items all q n) stops h)
    c.weave_all.ensures.early
