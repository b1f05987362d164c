use Rattle.std.proofs.Common.{sym, subst, ◌∙◌}
use Rattle.file_encoding.proofs.Encoding.{own_all}
use Rattle.file_encoding.proofs.Groups.{line_alone}
use Rattle.file_encoding.proofs.all_bands.send_all_bands.Goals as goal

pub send_each_row-requires-clause-may : goal.send_each_row-requires-clause-may
send_each_row-requires-clause-may g c =
    subst (g.T.Taker.may c.args.taker.now) (line_alone _ _ _ _ _ _ _ c.if-depth-eq1.true (c.requires.own ∙ sym (own_all _))) c.requires.may

pub send_line-requires-clause-own : goal.send_line-requires-clause-own
send_line-requires-clause-own g c = c.requires.own ∙ sym (own_all _)

pub returns-then-depth-eq1-clause-sent : goal.returns-then-depth-eq1-clause-sent
returns-then-depth-eq1-clause-sent g c =
    subst (g.T.Taker.takes c.args.taker.now c.send_each_row.new.taker c.send_each_row.result)
    (sym (line_alone _ _ _ _ _ _ _ c.if-depth-eq1.true (c.requires.own ∙ sym (own_all _)))) c.send_each_row.ensures.sent
