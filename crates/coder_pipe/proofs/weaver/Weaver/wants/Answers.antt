use Rattle.std.proofs.Common.{arith, ◌∙◌}
use Rattle.coder_pipe.proofs.WeaverState.{place_within, wants_none, wants_some}
use Rattle.coder_pipe.proofs.weaver.Weaver.wants.Goals as goal

pub returns-in_err-place : goal.returns-in_err-place
returns-in_err-place c = rw (c.from_residual.ensures, ← c.self.view_is) (wants_none _ c.in_err-place.ensures)

pub returns : goal.returns
returns c =
    rw (← c.self.view_is) (wants_some _ _ _ c.in_ok-place.place c.from.result _ c.self.invariant c.in_ok-place.ensures (c.from.ensures ∙ c.index.ensures))

pub index-requires : goal.index-requires
index-requires c =
    let within =
    (place_within _ c.self.inside.order _ 0 c.in_ok-place.place c.self.invariant c.in_ok-place.ensures).1 in omega (arith, within, c.self.inside.deal.ok.0)
