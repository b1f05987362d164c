use Rattle.std.proofs.Common.{rules, SFits, w32, to_z-of_z, ◌≡◌, ◌+◌, ◌*◌, ◌%◌, ◌≤◌, ◌^◌, ℕ, ap, ◌∙◌, subst, arith}
use Rattle.cube_core.specs.declared.order.Place.{Place}
use Rattle.cube_core.specs.Shape.{sample_count}
use Rattle.cube_core.specs.Kind.{sample_of}
use Rattle.cube_core.specs.Image.{IsPlace, index_in, put}
use Rattle.speed.specs.Numbers.{next_state, highest}
use Rattle.speed.proofs.Powers.{power_is, rest_fits}
use Rattle.speed.proofs.Scene.{IsBegun, begun_first, begun_more, begun_whole}
use Rattle.speed.proofs.predictor.synthetic_cube.Goals as goal

pub overflow_cast-offset : goal.overflow_cast-offset
overflow_cast-offset c =
    let lt = rest_fits (16 * c.loop-z.z + 4 * c.loop-y.y + 2 * c.loop-x.x + c.from-noise.result) c.bits.result c.bits.ensures.range.1 in
    omega (arith, lt)

pub loop-z-init : goal.loop-z-init
loop-z-init c =
    let none : 0 ≡ index_in c.args.shape.columns c.args.shape.rows 0 0 0 = omega arith in
    subst (λ (n : ℕ). IsBegun c.args.shape c.args.kind n c.in_ok-cube.cube c.new-generator.result) none
    (begun_first c.args.shape c.args.kind c.in_ok-cube.cube c.new-generator.result c.in_ok-cube.ensures.zeros c.new-generator.ensures)

pub loop-x-preserved : goal.loop-x-preserved
loop-x-preserved c =
    let place : IsPlace c.args.shape c.loop-z.z c.loop-y.y c.loop-x.x = record {
      band = omega (arith, c.loop-z-test.true, c.bands-z-end.ensures.value);
      row = omega (arith, c.loop-y-test.true, c.rows-y-end.ensures.value);
      column = omega (arith, c.loop-x-test.true, c.columns-x-end.ensures.value);
    } in
    let noise : c.from-noise.result ≡ highest 6 (next_state c.loop-x.generator) =
    c.from-noise.ensures ∙ c.number.ensures.number ∙ ap (highest 6) c.number.ensures.state in
    let power : 1 * 2 ^ c.bits.result % 4294967296 ≡ 2 ^ c.args.kind.bits =
    power_is c.bits.result c.bits.ensures.range.1 ∙ ap (λ (n : ℕ). 2 ^ n) c.bits.ensures.value in
    let slow : ℕ = 16 * c.loop-z.z + 4 * c.loop-y.y + 2 * c.loop-x.x in
    let sample : c.sample_of.result
    ≡ sample_of c.args.kind ((16 * c.loop-z.z + 4 * c.loop-y.y + 2 * c.loop-x.x + highest 6 (next_state c.loop-x.generator)) % 2 ^ c.args.kind.bits) =
    c.sample_of.ensures.value
    ∙ ap (λ (n : ℕ). sample_of c.args.kind ((slow + n) % (1 * 2 ^ c.bits.result % 4294967296))) noise
    ∙ ap (λ (n : ℕ). sample_of c.args.kind ((slow + highest 6 (next_state c.loop-x.generator)) % n)) power in
    let fits : SFits w32 c.sample_of.result = search rules in
    let image : c.set.new.self ≡ put c.loop-x.cube c.loop-z.z c.loop-y.y c.loop-x.x c.sample_of.result = simp (to_z-of_z fits) at c.set.ensures in
    let p : Place = record { z = c.loop-z.z; y = c.loop-y.y; x = c.loop-x.x } in
    let more = begun_more c.args.shape c.args.kind p c.loop-x.cube c.loop-x.generator c.sample_of.result place c.loop-x.invariant sample in
    let next : index_in c.args.shape.columns c.args.shape.rows c.loop-z.z c.loop-y.y c.loop-x.x + 1
    ≡ index_in c.args.shape.columns c.args.shape.rows c.loop-z.z c.loop-y.y (c.loop-x.x + 1) = omega arith in
    subst (λ (n : ℕ). IsBegun c.args.shape c.args.kind n c.set.new.self c.number.new.self) next (rw (image, c.number.ensures.state) more)

pub loop-y-preserved : goal.loop-y-preserved
loop-y-preserved c =
    let columns : c.loop-x.x ≡ c.args.shape.columns = omega (arith, c.loop-x-test.false, c.loop-x.auto, c.columns-x-end.ensures.value) in
    let next : index_in c.args.shape.columns c.args.shape.rows c.loop-z.z c.loop-y.y c.loop-x.x
    ≡ index_in c.args.shape.columns c.args.shape.rows c.loop-z.z (c.loop-y.y + 1) 0 = omega (arith, columns) in
    subst (λ (n : ℕ). IsBegun c.args.shape c.args.kind n c.loop-x.cube c.loop-x.generator) next c.loop-x.invariant

pub loop-z-preserved : goal.loop-z-preserved
loop-z-preserved c =
    let rows : c.loop-y.y ≡ c.args.shape.rows = omega (arith, c.loop-y-test.false, c.loop-y.auto, c.rows-y-end.ensures.value) in
    let next : index_in c.args.shape.columns c.args.shape.rows c.loop-z.z c.args.shape.rows 0
    ≡ index_in c.args.shape.columns c.args.shape.rows (c.loop-z.z + 1) 0 0 = omega arith in
    subst (λ (n : ℕ). IsBegun c.args.shape c.args.kind n c.loop-y.cube c.loop-y.generator)
    (ap (λ (y : ℕ). index_in c.args.shape.columns c.args.shape.rows c.loop-z.z y 0) rows ∙ next) c.loop-y.invariant

pub returns-clause-cube : goal.returns-clause-cube
returns-clause-cube c =
    let bands : c.loop-z.z ≡ c.args.shape.bands = omega (arith, c.loop-z-test.false, c.loop-z.auto, c.bands-z-end.ensures.value) in
    let all : sample_count c.args.shape ≤ index_in c.args.shape.columns c.args.shape.rows c.args.shape.bands 0 0 = omega arith in
    begun_whole c.args.shape c.args.kind (index_in c.args.shape.columns c.args.shape.rows c.args.shape.bands 0 0) c.loop-z.cube c.loop-z.generator all
    (subst (λ (z : ℕ). IsBegun c.args.shape c.args.kind (index_in c.args.shape.columns c.args.shape.rows z 0 0) c.loop-z.cube c.loop-z.generator) bands
    c.loop-z.invariant)
