use Rattle.std.proofs.Common.{sym, subst}
use Rattle.cube_core.specs.declared.layout.Layout.{Layout}
use Rattle.header_bits.specs.declared.params.Params.{Params}
use Rattle.raw_rows.specs.Together.{GoTogether}
use Rattle.ccsds123.specs.Asked.{AsksParams, order_by}
use Rattle.ccsds123.proofs.Together.{goes_together}
use Rattle.ccsds123.proofs.encoder.new_scene.Goals as goal

pub new-requires-clause-together : goal.new-requires-clause-together
unfolding AsksParams
new-requires-clause-together c =
    subst (λ (p : Params). GoTogether c.in_ok-laid.laid.order p.order) (sym c.in_ok-asked.ensures.2)
    (subst (λ (l : Layout). GoTogether l.order (order_by c.args.params.now.order c.args.params.now.depth)) (sym c.in_ok-laid.ensures.layout.2)
    (goes_together c.args.params.now c.args.layout.now (sym c.in_ok-test_together.ensures)))
