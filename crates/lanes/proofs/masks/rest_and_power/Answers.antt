use Rattle.std.proofs.Common.{ℕ, ◌-◌, ◌∙◌, ◌+◌, ◌%◌, replicate, ap, bit_and}
use Rattle.std.proofs.lemmas.Simd.{get_or-replicate, length-replicate}
use Rattle.lanes.specs.Lanes.{number}
use Rattle.lanes.proofs.MaskSteps.{step, long, rest_and_power_is}
use Rattle.lanes.proofs.masks.rest_and_power.Goals as goal

pub returns : goal.returns
returns c k by within few is =
    let a = c.fits-a in let p = c.fits-power in
    let one = length-replicate {A = ℕ} 8 1 in
    let x : ℕ = number c.args.a k in
    let power : ℕ = number c.args.power k in
    step _ _ c.args.power 8 k (long _ c.args.a _ 8 a.0 (long _ c.args.power (replicate 8 1) 8 p.0 one)) p.0 within
    ∙ ap (λ y. (y + power) % 65536) (step _ c.args.a _ 8 k a.0 (long _ c.args.power (replicate 8 1) 8 p.0 one) within)
    ∙ ap (λ y. (bit_and x y + power) % 65536) (step _ c.args.power (replicate 8 1) 8 k p.0 one within)
    ∙ ap (λ y. (bit_and x ((power + (65536 - y)) % 65536) + power) % 65536) (get_or-replicate 8 k 1 0 within)
    ∙ rest_and_power_is x power by few is
