use Rattle.std.proofs.Common.{◌≡◌, ◌∙◌, inl, inr, arith}
use Rattle.std.proofs.lemmas.Bool.{cases_eq}
use Rattle.std.proofs.lemmas.List.{get_or-take}
use Rattle.file_decoding.proofs.eight_bands.put_column.Goals as goal

pub loop-b-preserved : goal.loop-b-preserved
loop-b-preserved c = record {
  here = λ d lt. elim (cases_eq d c.loop-b.b) [
    | inl last ↦ rw last (c.put_number.ensures.here ∙ get_or-take 8 c.args.column.now c.loop-b.b 0 c.loop-b-test.true)
    | inr apart ↦ c.put_number.ensures.lines d c.args.i apart ∙ c.loop-b.invariant.here d (omega (arith, lt, apart))
  ];
  others = λ d k apart. c.put_number.ensures.places d k apart ∙ c.loop-b.invariant.others d k apart;
}
