use Rattle.std.proofs.Common.{◌≡◌, [], sym, ◌∙◌, arith}
use Rattle.std.proofs.lemmas.Result.{err_from_is_err_and}
use Rattle.block_adaptive.specs.Settings.{IsCut}
use Rattle.block_adaptive.proofs.Calls.{next_refused}
use Rattle.block_adaptive.proofs.Counts.{data_set_left}
use Rattle.block_adaptive.proofs.Runs.{taken_run, taken_kept, held_run}
use Rattle.block_adaptive.proofs.block_reader.BlockReader.next_some.Goals.{then-self-eq0+then-self+in_ok-take_data_set, else-self-eq0}
use Rattle.block_adaptive.proofs.Places.{empty_hand}
use Rattle.std.proofs.lemmas.Grind.{common_steps}
use Rattle.block_adaptive.proofs.block_reader.BlockReader.next_some.Goals as goal

pub take_data_set-requires-clause-empty : goal.take_data_set-requires-clause-empty
take_data_set-requires-clause-empty c = grind (arith, common_steps)

pub take_data_set-requires-clause-more : goal.take_data_set-requires-clause-more
take_data_set-requires-clause-more c = grind (arith, common_steps)

pub returns-in_err-take_data_set-clause-body : goal.returns-in_err-take_data_set-clause-body
returns-in_err-take_data_set-clause-body c =
    let cut : IsCut c.args.self.now.cut = rw (← c.self.view_is) c.self.invariant.cut in
    let none : c.args.self.now.held ≡ [] = (λ i. ((sym c.self.view_is) i).held) ∙ empty_hand c.self.inside.size c.self.inside.at c.self.inside.zeros
    c.self.inside.values c.if-self.true c.if-self-eq0.true in
    let p = err_from_is_err_and c.from_residual.result c.from_residual.ensures.1 in
    rw (p.1, p.2) (next_refused c.args.self.now c.args.reader.now c.in_err-take_data_set.field-0.0 cut c.requires.more none c.in_err-take_data_set.ensures.read)

pub give_run-requires-clause-held : goal.give_run-requires-clause-held
give_run-requires-clause-held c = grind (arith, common_steps)

pub returns-clause-given : goal.returns-clause-given
returns-clause-given c =
    let cut : IsCut c.args.self.now.cut = rw (← c.self.view_is) c.self.invariant.cut in
    elim c.if-self-eq0.branch [
      | then-self-eq0+then-self+in_ok-take_data_set w ↦
          (let none : c.args.self.now.held ≡ [] = (λ i. ((sym c.self.view_is) i).held) ∙ empty_hand _ _ _ _ w.if-self.true w.if-self-eq0.true in
          rw w.reader-is (taken_run _ _ _ _ _ _ cut (data_set_left c.args.self.now c.requires.more none) none w.in_ok-take_data_set.ensures.read
          (rw w.self-is at c.give_run.ensures.front)))
      | else-self-eq0 w ↦ rw w.reader-is (held_run _ _ _ c.args.reader.now.left (rw w.self-is at c.give_run.ensures.front))
    ]

pub returns-clause-working : goal.returns-clause-working
returns-clause-working c =
    elim c.if-self-eq0.branch [
      | then-self-eq0+then-self+in_ok-take_data_set w ↦
          (λ i. (c.give_run.ensures.front.1 i).refused) ∙ (λ i. (w.self-is i).refused) ∙ taken_kept c.args.self.now _ _ _ w.in_ok-take_data_set.ensures.read
      | else-self-eq0 w ↦ (λ i. (c.give_run.ensures.front.1 i).refused) ∙ (λ i. (w.self-is i).refused)
    ]
