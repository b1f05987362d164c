use Rattle.header_bits.proofs.tables.ConstantTable.into_vec.Goals as goal

pub returns : goal.returns
returns c = c.self.view_is
