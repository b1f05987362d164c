use Rattle.std.proofs.Common.{◌≡◌, [], arith, ap}
use Rattle.std.proofs.lemmas.Grind.{common_steps}
use Rattle.std.proofs.lemmas.List.Elements.{All-push}
use Rattle.std.proofs.lemmas.List.{map-append}
use Rattle.coder_pipe.proofs.run.start_all.Goals as goal

pub loop-ready-preserved : goal.loop-ready-preserved
loop-ready-preserved g c =
    record {
      feeds = grind (arith, common_steps);
      room = grind (arith, common_steps);
      count = grind (arith, common_steps);
      gates = rw (c.push_reserved.ensures.items, map-append)
          (All-push (λ w. w ≡ c.args.gate.now) _ _ c.loop-ready.invariant.gates (ap (λ s. s.gate) c.in-Ok.ensures.stage));
      none = rw (c.push_reserved.ensures.items, map-append) (All-push (λ r. r ≡ []) _ _ c.loop-ready.invariant.none (ap (λ s. s.handed) c.in-Ok.ensures.stage));
    }

pub returns-clause-feeds : goal.returns-clause-feeds
returns-clause-feeds g c = grind (arith, common_steps)

pub returns-in_default-clause-some : goal.returns-in_default-clause-some
returns-in_default-clause-some g c = omega arith
