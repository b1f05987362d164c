use Rattle.sample_adaptive.proofs.written_column.put_words_of.Goals as goal

pub returns-then-t-eq0-clause-written : goal.returns-then-t-eq0-clause-written
returns-then-t-eq0-clause-written c = λ v same has. rw (← same, c.if-t-eq0.true) (c.put_firsts.ensures.written v c.args.z has.bits_are)
