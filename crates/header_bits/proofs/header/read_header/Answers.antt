use Rattle.std.proofs.Common.{◌-◌, ◌/◌, length, refl, arith}
use Rattle.std.proofs.lemmas.Result.{err_from_is_err_and}
use Rattle.header_bits.specs.Bits.{bits_of_bytes}
use Rattle.header_bits.proofs.Bytes.{length-bits_of_bytes}
use Rattle.header_bits.proofs.HeaderTexts.{header_stands, left_within}
use Rattle.header_bits.proofs.header.read_header.Goals as goal

pub returns-in_err-params : goal.returns-in_err-params
returns-in_err-params c =
    let p = err_from_is_err_and c.from_residual.result c.from_residual.ensures.1 in
    let refused = rw c.new-reader.ensures.left at c.in_err-params.ensures in
    record {
      reads = rw (p.1, p.2) refused.takes;
      lawful = rw p.1 tt;
      spelt = rw p.1 tt;
      within = rw p.1 tt;
      none = rw (p.1, p.2) refused.none;
    }

pub returns : goal.returns
returns c =
    let header = rw c.new-reader.ensures.left at c.in_ok-params.ensures.takes in
    let stands = header_stands _ (bits_of_bytes c.args.bytes.now) _ (length c.args.bytes.now) (length c.args.bytes.now - c.left.result / 8) header
    (length-bits_of_bytes c.args.bytes.now) (rw c.left.ensures refl) in
    record { reads = stands.reads; lawful = c.in_ok-params.ensures.lawful; spelt = stands.spelt; within = omega arith; none = tt }

pub overflow_sub-result : goal.overflow_sub-result
overflow_sub-result c =
    let header = rw c.new-reader.ensures.left at c.in_ok-params.ensures.takes in
    omega (arith, left_within _ (bits_of_bytes c.args.bytes.now) _ header, length-bits_of_bytes c.args.bytes.now, c.left.ensures)
