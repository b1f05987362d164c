use Rattle.sample_adaptive.proofs.short_run.take_few_on_copies.Goals as goal

pub returns-clause-taken : goal.returns-clause-taken
returns-clause-taken c = λ v z t k index first within settings some was.
    c.take_few_rarely-taken.ensures.taken v z t k index first within settings some (rw c.fork-rest.ensures was)
