use Rattle.std.proofs.Common.{inl, rules}
use Rattle.std.proofs.lemmas.Result.{err_from_is_err_and}
use Rattle.ccsds_command.proofs.Inspecting.{header_is, refusal_is}
use Rattle.ccsds_command.proofs.inspect.header_of_source.Goals as goal

pub returns-clause-header : goal.returns-clause-header
returns-clause-header g c =
    header_is (g.S.Source.left c.args.source.now) c.in_ok-bytes.bytes.items (c.in_ok-bytes.ensures.front, c.in_ok-bytes.ensures.limited) c.read_header.result
    (rw c.deref.ensures.value at c.read_header.ensures.within) (rw c.deref.ensures.value at c.read_header.ensures.reads)

pub returns-clause-refused : goal.returns-clause-refused
returns-clause-refused g c =
    refusal_is (g.S.Source.left c.args.source.now) c.in_ok-bytes.bytes.items (c.in_ok-bytes.ensures.front, c.in_ok-bytes.ensures.limited) c.read_header.result
    _ _ (rw c.deref.ensures.value at c.read_header.ensures.reads)

pub returns-in_err-bytes-clause-refused : goal.returns-in_err-bytes-clause-refused
returns-in_err-bytes-clause-refused g c =
    let p = err_from_is_err_and c.from_residual.result c.from_residual.ensures.1 in
    rw (p.1, p.2) (inl c.in_err-bytes.ensures.refused)

pub returns-in_err-bytes-clause-told : goal.returns-in_err-bytes-clause-told
returns-in_err-bytes-clause-told g c = search rules
