use Rattle.std.proofs.Common.{SFits, w32, to_z-of_z, refl, arith}
use Rattle.std.proofs.lemmas.Int.{ints}
use Rattle.header_bits.proofs.Held.{flag_byte}
use Rattle.header_bits.proofs.predictor_part.PredictorPart.numbers.Goals as goal

pub returns : goal.returns
returns c =
    let p = c.args.self.now in
    let least : SFits w32 p.vmin = omega (arith, ints, c.requires.least) in
    let greatest : SFits w32 p.vmax = omega (arith, ints, c.requires.greatest) in
    rw (
      c.from.ensures,
      flag_byte p.reduced,
      c.from-2.ensures,
      flag_byte p.column,
      c.exponent_code.ensures,
      c.exponent_code-2.ensures,
      c.from-3.ensures,
      c.from-4.ensures,
      flag_byte p.custom,
      to_z-of_z least,
      to_z-of_z greatest,
    ) refl
