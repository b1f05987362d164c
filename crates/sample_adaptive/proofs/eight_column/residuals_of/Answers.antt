use Rattle.std.proofs.Common.{ℕ, ◌≡◌, ◌+◌, ◌*◌, ◌%◌, ◌^◌, ◌<◌, ◌≤◌, ◌-◌, min, subst, ap₂, ◌∙◌, arith}
use Rattle.std.proofs.lemmas.Nat.{mul-le, pow_pos}
use Rattle.std.proofs.Math.Nat.{mod-lt}
use Rattle.std.proofs.Math.Pow.{pow_mono}
use Rattle.lanes.specs.Lanes.{number}
use Rattle.sample_adaptive.specs.WordParts.{spelt_by, zeros_of}
use Rattle.sample_adaptive.proofs.eight_column.residuals_of.Goals as goal
use Rattle.sample_adaptive.proofs.eight_column.residuals_of.Goals.{After-short}

spelt : (c : After-short) (j : ℕ) → j < 8 → zeros_of c.args.parts j < 32 → number c.sum-numbers.result j ≡ spelt_by (number c.args.k j) (zeros_of c.args.parts j) (number c.args.parts.endings j)
spelt c j lt small =
    let k : ℕ = number c.args.k j in
    let zeros : ℕ = zeros_of c.args.parts j in
    let ending : ℕ = number c.args.parts.endings j in
    let few = c.requires.parameters j lt in
    let power : number c.powers-powers.result j ≡ 2 ^ k = c.powers-powers.ensures j lt in
    let most : 2 ^ k ≤ 2 ^ 14 = pow_mono {i = k} {j = 14} (omega (arith, few, c.args.settings.bits_in)) in
    let held : number c.capped-places.result j ≡ min (number c.args.parts.places j) 63 = c.capped-places.ensures j lt in
    let place : number c.long.result j ≡ number c.capped-places.result j = c.long.ensures j lt in
    let less : number c.less-zeros.result j ≡ 63 - number c.long.result j = c.less-zeros.ensures j lt (omega (arith, held, place)) in
    let long : number c.less-zeros.result j ≡ zeros = omega (arith, held, place, less) in
    let all = mul-le zeros (2 ^ k) 32 16384 (omega (arith, small)) (omega (arith, most)) in
    let whole : number c.less-zeros.result j * number c.powers-powers.result j ≡ zeros * 2 ^ k = ap₂ (λ (x y : ℕ). x * y) long power in
    let product : number c.product.result j ≡ zeros * 2 ^ k = c.product.ensures j lt (omega (arith, whole, all)) ∙ whole in
    let low : number c.rests-low.result j ≡ ending % 2 ^ k = c.rests-low.ensures j k lt power in
    let rest : ending % 2 ^ k < 2 ^ k = mod-lt ending (pow_pos k) in
    c.sum-numbers.ensures j lt (omega (arith, product, low, rest, most, all)) ∙ ap₂ (λ (x y : ℕ). x + y) product low

pub short-requires : goal.short-requires
short-requires c j lt =
    let most : 2 ^ c.args.settings.bits ≤ 2 ^ 16 = pow_mono (c.args.settings.bits_in).1 in
    omega (arith, c.are_lawful.ensures.few c.if-not-are_lawful.false j lt, most)

pub returns-clause-lawful : goal.returns-clause-lawful
returns-clause-lawful c j lt =
    let plain : zeros_of c.args.parts j < c.args.settings.limit = omega (arith, c.are_lawful.ensures.plain c.if-not-are_lawful.false j lt, c.capped-places.ensures j lt) in (
      plain,
      subst (λ n. n < 2 ^ c.args.settings.bits) (spelt c.before j lt (omega (arith, plain, c.args.settings.limit_in))) (c.are_lawful.ensures.few c.if-not-are_lawful.false j lt),
    )

pub returns-clause-numbers : goal.returns-clause-numbers
returns-clause-numbers c j lt =
    c.short.ensures j lt ∙ spelt c.before j lt (omega (arith, c.are_lawful.ensures.plain c.if-not-are_lawful.false j lt, c.capped-places.ensures j lt, c.args.settings.limit_in))
