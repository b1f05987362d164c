use Rattle.header_bits.proofs.Lawfulness.{lawful_where_ok}
use Rattle.header_bits.proofs.params.Params.check.Goals as goal

pub returns-clause-lawful : goal.returns-clause-lawful
returns-clause-lawful c = lawful_where_ok c.args.self.now c.first_fault.result c.first_fault.ensures.ranges c.first_fault.ensures.fault

pub returns-clause-fault : goal.returns-clause-fault
returns-clause-fault c = c.first_fault.ensures.fault
