use Rattle.file_decoding.proofs.Found.{head_first, none_else, only_one, header_first}
use Rattle.std.proofs.Common.{rules}
use Rattle.file_decoding.proofs.decode.decode.Goals as goal

pub returns-clause-file : goal.returns-clause-file
returns-clause-file c = c.read_file.ensures.file

pub returns-clause-only : goal.returns-clause-only
returns-clause-only c = only_one _ _ c.read_file.ensures

pub returns-clause-header : goal.returns-clause-header
returns-clause-header c = header_first _ _ c.read_file.ensures

pub returns-clause-head : goal.returns-clause-head
returns-clause-head c = head_first _ _ c.read_file.ensures

pub returns-clause-fault : goal.returns-clause-fault
returns-clause-fault c = search rules

pub returns-clause-none : goal.returns-clause-none
returns-clause-none c = none_else _ _ c.read_file.ensures
