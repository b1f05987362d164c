use Rattle.sample_adaptive.proofs.read_run.take_some_on_copies.Goals as goal

pub returns-clause-taken : goal.returns-clause-taken
returns-clause-taken c = λ v z t k begun first within settings some at was.
    c.take_some-taken.ensures.taken v z t k begun first within settings some at (rw c.fork-rest.ensures was)
