use Rattle.sample_adaptive.proofs.stats.Stats.get.Goals as goal

pub returns-clause-taken : goal.returns-clause-taken
returns-clause-taken c = search
