use Rattle.std.proofs.Common.{◌≡◌, ◌⊎◌, ℕ, [], subst, ◌∙◌, arith, inr}
use Rattle.std.proofs.lemmas.Result.{err_from_is_err_and}
use Rattle.cube_core.specs.declared.fault.Fault.TheVariants.{WantOfMemory}
use Rattle.raw_streams.specs.Rows.{IsRowRefusal}
use Rattle.raw_streams.proofs.Streams.{gave_none, gave_within, within_more}
use Rattle.raw_streams.proofs.RowStreams.{rows_end, rows_fit}
use Rattle.ccsds_command.proofs.by_rows.code_next.Goals as goal

pub returns-in_err-read_rows-clause-refused : goal.returns-in_err-read_rows-clause-refused
returns-in_err-read_rows-clause-refused g c =
    let p = err_from_is_err_and c.from_residual.result c.from_residual.ensures.1 in
    rw (p.1, p.2) (inr (rows_end c.args.settings.now.params.shape c.args.settings.now.params.kind c.args.settings.now.layout c.args.y c.args.count _ _ _ _ _
    c.requires.inside c.in_err-read_rows.ensures.refused))

pub returns-in_err-read_rows-clause-bounded : goal.returns-in_err-read_rows-clause-bounded
returns-in_err-read_rows-clause-bounded g c = within_more _ _ _ [] _ _ (gave_none (g.S.Source.left c.args.source.now))
    c.in_err-read_rows.ensures.bounded (omega (arith, rows_fit c.args.settings.now.params.shape c.args.settings.now.layout c.args.y c.args.count c.requires.inside))

pub returns-in-Ok-clause-bounded : goal.returns-in-Ok-clause-bounded
returns-in-Ok-clause-bounded g c = gave_within _ _ c.read_rows.new.bytes _ c.in_ok-read_rows.ensures.given
    (rw (c.in_ok-read_rows.ensures.long ∙ c.requires.bytes) (rows_fit c.args.settings.now.params.shape c.args.settings.now.layout c.args.y c.args.count c.requires.inside))

pub returns-in-Err-clause-refused : goal.returns-in-Err-clause-refused
returns-in-Err-clause-refused g c =
    subst (λ (f : ℕ). (c.refusal.result ≡ WantOfMemory) ⊎ IsRowRefusal c.args.settings.now.params.shape c.args.settings.now.params.kind
    c.args.settings.now.layout c.args.y (g.S.Source.left c.args.source.now) (g.S.Source.left c.refusal.new.source) f
    (g.S.Source.failures c.refusal.new.source) c.refusal.result) c.in_ok-read_rows.ensures.worked
    (c.refusal.ensures.refused (g.S.Source.left c.args.source.now) c.in_ok-read_rows.ensures.given)

pub returns-in-Err-clause-bounded : goal.returns-in-Err-clause-bounded
returns-in-Err-clause-bounded g c = c.refusal.ensures.bounded (g.S.Source.left c.args.source.now) c.in_ok-read_rows.ensures.given
