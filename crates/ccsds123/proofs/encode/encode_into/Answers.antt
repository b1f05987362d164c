use Rattle.ccsds123.proofs.Refused.{raw_refused}
use Rattle.ccsds123.proofs.encode.encode_into.Goals as goal

pub returns : goal.returns
returns c = raw_refused _ c.in_ok-asked.asked c.in_ok-laid.laid _ c.in-Err.fault c.in_ok-asked.ensures c.in_ok-laid.ensures.layout.0
    c.in_ok-laid.ensures.layout.2 c.in-Err.ensures.refused
