use Rattle.std.proofs.Common.{ℕ, ◌≡◌, ◌+◌, ◌-◌, ◌/◌, ◌^◌, ◌≤◌, sym, ◌∙◌, arith}
use Rattle.std.proofs.lemmas.Nat.{pow_pos}
use Rattle.std.proofs.Math.Nat.{lt-div-mul-add}
use Rattle.lanes.specs.Lanes.{number}
use Rattle.lanes.proofs.Plain.{splat}
use Rattle.sample_adaptive.proofs.eight_column.are_lawful.Goals as goal

pub returns-clause-few : goal.returns-clause-few
returns-clause-few c = λ true j lt.
    let none : number c.args.numbers j / 2 ^ c.args.settings.bits ≡ 0 = sym (c.shifted.ensures j lt) ∙ c.are_all.ensures c.if-not-are_all.false j lt in
    let x : ℕ = number c.args.numbers j in
    let below = lt-div-mul-add {a = x} (pow_pos c.args.settings.bits) in
    omega (arith, rw none at below)

pub returns-clause-plain : goal.returns-clause-plain
returns-clause-plain c = λ true j lt.
    let limit : ℕ = c.args.settings.limit in
    let within : 63 - limit + 1 ≤ number c.args.places j = rw (splat 8 j (63 - limit + 1) lt) at (c.are_within.ensures true j lt) in
    omega (arith, within, c.requires j lt, c.args.settings.limit_in)
