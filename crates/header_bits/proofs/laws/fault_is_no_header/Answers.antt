use Rattle.header_bits.proofs.Later.{fault_is_no_header}
use Rattle.header_bits.proofs.laws.fault_is_no_header.Goals as goal

pub returns : goal.returns
returns c = fault_is_no_header
