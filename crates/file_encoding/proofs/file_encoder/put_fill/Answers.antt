use Rattle.std.proofs.Common.{◌∙◌, refl}
use Rattle.std.proofs.lemmas.Result.{on_ok_weaker}
use Rattle.header_bits.proofs.Numbers.{bits_of_zero}
use Rattle.file_encoding.proofs.file_encoder.put_fill.Goals as goal

pub returns-clause-filled : goal.returns-clause-filled
returns-clause-filled c = on_ok_weaker c.push.result (λ new. new ∙ rw (bits_of_zero, c.bit_count.ensures.count, c.from.ensures) refl) c.push.ensures.appended
