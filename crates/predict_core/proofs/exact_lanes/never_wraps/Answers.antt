use Rattle.std.proofs.Common.{◌≡◌, ◌+◌, ◌-◌, ◌*◌, ◌%◌, ◌^◌, ◌<◌, ◌≤◌, arith, le_trans, mul-le-mul, mod-eq_of_lt, pow_mono, le_refl}
use Rattle.std.proofs.lemmas.Bool.{leb-true}
use Rattle.std.proofs.lemmas.Nat.{pow_below}
use Rattle.sample_prediction.specs.Predictor.{component_count}
use Rattle.predict_core.proofs.exact_lanes.never_wraps.Goals as goal

pub returns : goal.returns
returns c h z =
    let s = c.args.settings.now in let count = c.most_components-count.result in let few = c.most_components-count.ensures.few in
    let fraction = s.lawful.omega.1 in let bits : s.range.bits ≤ 16 = rw s.range.bits_is s.range.lawful.1 in let wide = s.lawful.register.1 in
    let exponent : s.predictor.omega + s.range.bits + 4 ≤ 39 = omega (arith, fraction, bits) in
    let power : 2 ^ (s.predictor.omega + s.range.bits + 4) ≤ 2 ^ 39 = pow_mono exponent in
    let counted : count + 1 ≤ 19 = omega (arith, few) in
    let room : (count + 1) * 2 ^ (s.predictor.omega + s.range.bits + 4) ≤ 19 * 2 ^ 39 = mul-le-mul counted power in
    let first : (count + 1) * 2 ^ (s.predictor.omega + s.range.bits + 4) % 18446744073709551616 ≡ (count + 1) * 2 ^ (s.predictor.omega + s.range.bits + 4) =
    mod-eq_of_lt (omega (arith, room)) in
    let top : 2 ^ (s.predictor.register - 1) < 18446744073709551616 = pow_below (s.predictor.register - 1) 64 (omega (arith, wide)) in
    let second : 1 * 2 ^ (s.predictor.register - 1) % 18446744073709551616 ≡ 2 ^ (s.predictor.register - 1) = (let e : 1 * 2 ^ (s.predictor.register - 1) ≡ 2 ^ (s.predictor.register - 1) = omega arith in rw e (mod-eq_of_lt top)) in
    let told : (count + 1) * 2 ^ (s.predictor.omega + s.range.bits + 4) ≤ 2 ^ (s.predictor.register - 1) = rw (first, second) at (leb-true _ _ h) in
    let fewer : component_count s.predictor z + 1 ≤ count + 1 = (let most = c.most_components-count.ensures.most z in omega (arith, most)) in
    le_trans (mul-le-mul fewer (le_refl (2 ^ (s.predictor.omega + s.range.bits + 4)))) told
