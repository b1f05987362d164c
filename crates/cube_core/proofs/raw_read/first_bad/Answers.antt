use Rattle.std.proofs.Common.{◌≡◌, ◌+◌, ◌*◌, ◌-◌, ◌∙◌, arith, ap, take, drop, SFits, w32, to_z-of_z, subst, ℕ, refl}
use Rattle.std.proofs.lemmas.Bool.{false≢true}
use Rattle.cube_core.proofs.Words.{IsSample, raw_value, bytes_at}
use Rattle.cube_core.proofs.Raws.{samples_more, bytes_there}
use Rattle.cube_core.proofs.raw_read.first_bad.Goals as goal
use Rattle.cube_core.proofs.raw_read.first_bad.Goals.{After-value}

value_is : (c : After-value) → c.value.result ≡ raw_value c.args.layout c.args.kind (bytes_at c.args.layout c.args.bytes.now c.loop-i.i)
value_is c =
    let size : c.loop-i.i * c.args.layout.bytes + c.args.layout.bytes - c.loop-i.i * c.args.layout.bytes ≡ c.args.layout.bytes = omega arith in
    c.value.ensures.value ∙ ap (λ (n : ℕ). raw_value c.args.layout c.args.kind (take n (drop (c.loop-i.i * c.args.layout.bytes) c.args.bytes.now))) size

pub overflow_mul-from : goal.overflow_mul-from
overflow_mul-from c = omega (arith, c.requires.whole, bytes_there c.args.layout c.loop-i.i c.args.count c.requires.layout c.loop-i-test.true)

pub overflow_add-from : goal.overflow_add-from
overflow_add-from c = omega (arith, c.requires.whole, bytes_there c.args.layout c.loop-i.i c.args.count c.requires.layout c.loop-i-test.true)

pub returns-then-not-has-clause-first : goal.returns-then-not-has-clause-first
returns-then-not-has-clause-first c =
    let d = (goal.at.returns-then-not-has-clause-first c).After-value in
    let g : SFits w32 c.value.result = record { sfits = c.value.type_inv } in
    let there = bytes_there c.args.layout c.loop-i.i c.args.count c.requires.layout c.loop-i-test.true in
    record { there = omega (arith, there); bad = λ h. false≢true (c.if-not-has.ensures.1 (rw (to_z-of_z g, value_is d) h)); first = c.loop-i.invariant }

pub loop-i-preserved : goal.loop-i-preserved
loop-i-preserved c =
    let d = (goal.at.loop-i-preserved c).After-value in
    let g : SFits w32 c.value.result = record { sfits = c.value.type_inv } in
    let sample : IsSample c.args.kind c.value.result = simp (to_z-of_z g) at (c.if-not-has.ensures.0 refl) in
    samples_more c.args.kind c.args.layout c.args.bytes.now c.loop-i.i (subst (λ v. IsSample c.args.kind v) (value_is d) sample) c.loop-i.invariant
