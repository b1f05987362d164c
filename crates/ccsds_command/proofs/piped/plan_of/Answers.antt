use Rattle.std.proofs.Common.{◌∙◌, rules}
use Rattle.ccsds_command.proofs.Planned.{planned, told_first}
use Rattle.ccsds_command.proofs.piped.plan_of.Goals as goal

pub returns-clause-plan : goal.returns-clause-plan
returns-clause-plan c = search rules

pub returns-clause-refused : goal.returns-clause-refused
returns-clause-refused c = search rules

pub returns-in_err-deal-clause-first : goal.returns-in_err-deal-clause-first
returns-in_err-deal-clause-first c = λ fault none. absurd (planned c.args.settings.now fault c.in_err-deal.ensures.refused.1 none)

pub returns-clause-first : goal.returns-clause-first
returns-clause-first c = λ fault none.
    told_first c.new.result c.args.settings.now _ fault (c.deref.ensures.value ∙ c.in_ok-deal.ensures.deal) c.new.ensures.may c.new.ensures.refused none
