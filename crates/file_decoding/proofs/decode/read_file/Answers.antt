use Rattle.std.proofs.Common.{◌≡◌, ◌∙◌, Ok, length, sym}
use Rattle.header_bits.specs.Bits.{bits_of_bytes}
use Rattle.header_bits.specs.Header.{header_at}
use Rattle.header_bits.proofs.Bytes.{length-bits_of_bytes}
use Rattle.file_decoding.proofs.Found.{told, stopped, short_refused, body_refused, fill_refused, found_file}
use Rattle.file_decoding.proofs.decode.read_file.Goals as goal
use Rattle.file_decoding.proofs.decode.read_file.Goals.{In_ok-params}

pub returns-in_err-params : goal.returns-in_err-params
returns-in_err-params c = told _ _ _ c.from_residual.ensures.1 (stopped _ _ (rw c.new-reader.ensures.left at c.in_err-params.ensures.takes))

-- ---- after the header

module _ (c : In_ok-params) where
  header : header_at (bits_of_bytes c.args.bytes.now) ≡ Ok (c.in_ok-params.params, c.take_header.new.reader.left)
  header = rw c.new-reader.ensures.left at c.in_ok-params.ensures.takes

  all : c.take_header.new.reader.count ≡ length (bits_of_bytes c.args.bytes.now)
  all = c.in_ok-params.ensures.count ∙ c.new-reader.ensures.count ∙ sym (length-bits_of_bytes c.args.bytes.now)

pub returns-in_err-test_length : goal.returns-in_err-test_length
returns-in_err-test_length c =
    let here = (goal.at.returns-in_err-test_length c).In_ok-params in
    told _ _ _ c.from_residual-in_err-test_length.ensures.1 (short_refused _ _ _ _ (header here) (rw (all here) at c.in_err-test_length.ensures))

pub returns-in_err-cube : goal.returns-in_err-cube
returns-in_err-cube c =
    let here = (goal.at.returns-in_err-cube c).In_ok-params in
    told _ _ _ c.from_residual-in_err-cube.ensures.1
    (body_refused _ _ _ _ (header here) (rw (all here) at c.in_ok-test_length.ensures) (rw (all here) at c.in_err-cube.ensures.refused))

pub returns-in_err-test_fill : goal.returns-in_err-test_fill
returns-in_err-test_fill c =
    let here = (goal.at.returns-in_err-test_fill c).In_ok-params in
    told _ _ _ c.from_residual-in_err-test_fill.ensures.1
    (fill_refused _ _ _ _ (header here) (rw (all here) at c.in_ok-test_length.ensures) _ _ c.in_ok-params.ensures.lawful c.in_ok-cube.ensures.taken
    c.in_err-test_fill.ensures)

pub returns : goal.returns
returns c =
    let here = (goal.at.returns c).In_ok-params in
    let file = found_file _ _ _ _ _ (header here) c.in_ok-cube.ensures.taken (sym c.in_ok-test_fill.ensures) in
    record { lawful = c.in_ok-params.ensures.lawful; file = file; refused = tt }
