use Rattle.std.proofs.Common.{◌∙◌, ◌^◌, List, ℕ, length, ap, ap₂, sym, subst, arith}
use Rattle.header_bits.specs.declared.params.Params.{Params}
use Rattle.lane_workers.specs.Feeds.{Keeps}
use Rattle.file_encoding.specs.Own.{own_residuals}
use Rattle.coder_pipe.specs.Sends.{MaySend}
use Rattle.file_encoding.proofs.Owning.{own_is_part}
use Rattle.coder_pipe.proofs.Parts.{own_few, keeps_part}
use Rattle.coder_pipe.proofs.predict_lane.predict_with_room.Goals as goal

pub send_own-all-requires-clause-may : goal.send_own-all-requires-clause-may
send_own-all-requires-clause-may g c =
    let none = ap (λ (s : List ℕ). length s) (ap (λ s. s.taken) c.new-taker.ensures ∙ c.requires.sent) in
    let count = rw (c.sample_count-count.ensures.value, c.shape.ensures) at c.sample_count-count.ensures.range.1 in
    let few = own_few _ _ c.args.predictor c.args.plan.now.deal (2 ^ 48) c.requires.image c.prove_is_plan.ensures.lawful.order count in
    let same = ap₂ (λ (p : Params) (deal : List ℕ). own_residuals p c.args.cube.now c.args.predictor deal p.order)
    c.params-params.ensures c.deal-deal.ensures in
    subst (MaySend c.new-taker.result) (sym same) (record { ready = ap (λ s. s.ready) c.new-taker.ensures; few = omega (arith, few, none) })

pub returns : goal.returns
returns g c =
    let told = c.send_own-all.ensures in
    let same = ap₂ (λ (p : Params) (deal : List ℕ). own_residuals p c.args.cube.now c.args.predictor deal p.order)
    c.params-params.ensures c.deal-deal.ensures in
    subst (λ items. Keeps (g.G.Gate.may_stop c.args.gate.now) c.args.predictor items c.args.sender.lane c.end.result)
    (same ∙ sym (own_is_part _ _ _ _ c.requires.image.shape))
    (keeps_part (g.G.Gate.may_stop c.args.gate.now) _ _ _ _ _ _ _ (ap (λ s. s.taken) c.new-taker.ensures ∙ c.requires.sent) told
    (rw (told.gate, told.predictor, told.lane, c.new-taker.ensures) at c.end.ensures.keeps) c.end.ensures.stopped)

pub send_own-all-requires-clause-bands : goal.send_own-all-requires-clause-bands
send_own-all-requires-clause-bands g c = rw (c.params-params.ensures, c.deal-deal.ensures, c.deref_mut.ensures.value) c.requires.bands
