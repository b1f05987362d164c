use Rattle.std.proofs.Common.{refl, ap, arith}
use Rattle.header_bits.specs.declared.params.Params.{Params}
use Rattle.sample_adaptive.proofs.ForSamples.{with_constant}
use Rattle.coder_tests.proofs.sample_coder.params_of_bands.Goals as goal

pub returns-clause-lawful : goal.returns-clause-lawful
returns-clause-lawful g c =
    let bits = ap (λ (p : Params). p.kind.bits) c.plain.ensures in
    with_constant _ _ _ _ _ refl (omega (arith, bits), omega (arith, bits)) (omega arith, omega arith) (omega arith, omega arith) (omega arith, omega arith)
    (omega arith) (omega (arith, bits))
