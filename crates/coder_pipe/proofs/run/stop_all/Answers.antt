use Rattle.std.proofs.Common.{◌≡◌, ◌<◌, length, get_or, arith, ap, sym, ◌∙◌, subst, Some, IfSome, Option}
use Rattle.std.proofs.lemmas.List.{length-map}
use Rattle.coder_pipe.specs.Standings.{feeds_of, gates_of}
use Rattle.coder_pipe.proofs.Heads.{drop_head, head_map, some_step}
use Rattle.coder_pipe.proofs.run.stop_all.Goals as goal

if_some : {R : Type 0} (o : Option R) (x : R) (P : R → Type 0) → o ≡ Some x → IfSome o P → P x
if_some o x P e h = subst (λ u. IfSome u P) e h

pub loop-stage-preserved : goal.loop-stage-preserved
loop-stage-preserved g c =
    let was = c.loop-stage.invariant in let q = c.loop-stage.q in let xs = c.args.stages.items in
    let h = drop_head xs _ q c.in-Some.stage (sym was.left ∙ c.in-Some.ensures.steps.0) in
    let below : q < length (feeds_of xs) = rw length-map h.below in
    let feed_at : (f : _) → get_or (feeds_of xs) q f ≡ c.in-Some.stage.feed = λ f. head_map h (λ s. s.feed) f in
    let gate_at : (w : _) → get_or (gates_of xs) q w ≡ c.in-Some.stage.gate = λ w. head_map h (λ s. s.gate) w in
    let pred : g.F.Feed.predictor c.in-Some.stage.feed ≡ q =
    ap g.F.Feed.predictor (sym (feed_at c.in-Some.stage.feed)) ∙ c.requires.named q c.in-Some.stage.feed (omega (arith, h.below)) in
    record {
      left = h.left;
      count = omega (arith, h.below);
      first = some_step _ _ _ _ c.first_of-first.ensures.from was.first (λ r k.
          let at = if_some c.stop.result r.1 _ k.1 c.stop.ensures in
          rw k.0 (below, λ f w. rw (gate_at, feed_at) (rw pred at at.0, at.1)));
    }
