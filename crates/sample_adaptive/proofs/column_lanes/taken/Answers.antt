use Rattle.std.proofs.Common.{ℕ, ◌+◌, ◌-◌, ◌≡◌, take, drop, ap, ◌∙◌, arith}
use Rattle.std.proofs.lemmas.Simd.{get_or-chunk}
use lib.Lanes.{chunk}
use Rattle.lanes.specs.Lanes.{number}
use Rattle.sample_adaptive.proofs.column_lanes.taken.Goals as goal

pub returns : goal.returns
returns c j lt =
    let i : ℕ = c.args.i in
    let eight : i + 8 - i ≡ 8 = omega arith in
    let here : 0 + j ≡ j = omega arith in
    ap (λ n. number (chunk 0 8 (take n (drop i c.args.residuals.now))) j) eight
    ∙ get_or-chunk 0 8 (chunk i 8 c.args.residuals.now) j 0 lt ∙ ap (λ n. number (chunk i 8 c.args.residuals.now) n) here
    ∙ get_or-chunk i 8 c.args.residuals.now j 0 lt
