use Rattle.std.proofs.Common.{sym, ◌∙◌, rules}
use Rattle.file_encoding.proofs.Runs.{rows_follow}
use Rattle.file_encoding.proofs.file_encoder.FileEncoder.new.Goals as goal

pub invariant_of-result-2 : goal.invariant_of-result-2
invariant_of-result-2 c =
    let rows = rows_follow c.args.params.now.shape c.args.params.now.order c.requires.order in
    (c.requires.word, λ by. rw (c.new-2.ensures, c.from.ensures, c.columns.ensures.value) (rows (sym c.goes_along_rows.ensures ∙ by)))

pub returns-clause-coded : goal.returns-clause-coded
returns-clause-coded c = search rules
