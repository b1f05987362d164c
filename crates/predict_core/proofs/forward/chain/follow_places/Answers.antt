use Rattle.std.proofs.Common.{◌≡◌, arith, rules}
use Rattle.predict_core.proofs.RunChains.{first_of_run}
use Rattle.predict_core.proofs.forward.chain.follow_places.Goals as goal

pub follow_place-requires : goal.follow_place-requires
follow_place-requires g c =
    let run = first_of_run _ _ _ _ _ _ _ _ _ _ _ _ (omega arith) c.requires.known in
    (omega arith, (run, (omega (arith, c.requires.later), (c.requires.steps c.loop-i.i (omega arith) (omega arith), c.loop-i.invariant.bound))))

pub loop-i-preserved : goal.loop-i-preserved
loop-i-preserved g c = search rules

pub returns-clause-followed : goal.returns-clause-followed
returns-clause-followed g c start begun h = let done : c.loop-i.i ≡ c.args.last = omega arith in rw (← done) (c.loop-i.invariant.followed start begun h)

pub returns-clause-bound : goal.returns-clause-bound
returns-clause-bound g c = c.loop-i.invariant.bound
