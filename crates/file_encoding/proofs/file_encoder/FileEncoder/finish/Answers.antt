use Rattle.std.proofs.Common.{◌∙◌, ap}
use Rattle.file_format.specs.File.{packed}
use Rattle.file_encoding.proofs.Endings.{is_file}
use Rattle.file_encoding.proofs.file_encoder.FileEncoder.finish.Goals as goal

pub returns-clause-file : goal.returns-clause-file
returns-clause-file c =
    rw (← c.self.view_is)
    (is_file _ _ _ _ (rw (← c.self.view_is) at c.requires) c.in_ok-end.ensures.ended c.in_ok-put_fill.ensures.filled
    ((rw c.deref.ensures.value at c.prove_packed.ensures) ∙ ap packed c.into_bytes-bytes.ensures.bytes))
