use Rattle.header_bits.proofs.refusal.disagree_if.Goals as goal

pub returns : goal.returns
returns c = c.refuse_if.ensures
