-- Bytes without a fault are a file.
use Rattle.std.proofs.Common.{◌≡◌, Bool, true, false, List, ◌++◌, length, Ok, sym, ap, ◌∙◌}
use Rattle.cube_core.specs.declared.fault.Fault.{Fault}
use Rattle.cube_core.specs.Steps.{◌>>◌, refuse_if}
use Rattle.header_bits.specs.declared.params.Params.{Params}
use Rattle.header_bits.specs.Bits.{bits_of_bytes}
use Rattle.header_bits.specs.Header.{header_at}
use Rattle.header_bits.proofs.Fronts.{bind_ok}
use Rattle.header_bits.proofs.HeaderTexts.{read_lawful}
use Rattle.header_bits.proofs.Reading.{ok_is}
use Rattle.file_format.specs.Files.{after_body, fill_test, body_test, head_at, file_test}
use Rattle.file_format.specs.MinimumLength.{minimum_length_test}
use Rattle.file_format.specs.Laws.{FineIsFile}
use Rattle.file_format.proofs.FileLaws.{numbers_at, are_bodies, whole_file}
use Rattle.predict_core.proofs.Built.{built}

passes_on : {X : Type 0} (b : Bool) (fault : Fault) (x y : X) → (refuse_if b fault >> Ok x) ≡ Ok y → x ≡ y
passes_on true fault x y e = absurd (cc)
passes_on false fault x y e = ok_is x y e

head_read : (bits : List Bool) (x : Params × List Bool) → head_at bits ≡ Ok x → header_at bits ≡ Ok x
unfolding head_at
head_read bits x e =
    let a = bind_ok (header_at bits) (λ header. minimum_length_test (length bits) header.0 header.1 >> Ok header) x e in
    a.1 ∙ ap (λ (y : Params × List Bool). Ok y) (passes_on _ _ a.0 x a.2)

pub fine_is_file : FineIsFile
unfolding file_test body_test after_body
fine_is_file bytes e =
    let bits : List Bool = bits_of_bytes bytes in
    let a = bind_ok (head_at bits) (λ header. body_test (length bits) header.0 header.1) tt e in
    let p : Params = a.0.0 in
    let header = head_read bits a.0 a.1 in
    let lawful = read_lawful p bits a.0.1 header in
    let bodies = are_bodies p lawful in
    let b = bind_ok (after_body (length bits) p a.0.1) (λ rest. fill_test p.word rest) tt a.2 in
    let d = bind_ok (numbers_at p.coder (length bits) p a.0.1) (λ read. Ok read.1) b.0 (sym (bodies.left_over (length bits) a.0.1) ∙ b.1) in
    let read = (bodies.exact (length bits)).found d.0.0 a.0.1 d.0.1 d.1 in
    let made = built p d.0.0 lawful read.1.0 read.1.1 in
    let text = read.2 ∙ ap (λ (left : List Bool). read.0 ++ left) (ok_is d.0.1 b.0 d.2) in (
      p,
      made.image,
      lawful,
      whole_file bytes p made.image a.0.1 b.0 read.0 header made.cube (rw made.same read.1.2) text b.2,
    )
