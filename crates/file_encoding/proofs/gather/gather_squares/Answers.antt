use Rattle.std.proofs.Common.{◌≡◌, ◌+◌, ◌-◌, ◌*◌, ◌∙◌, inl, inr, length, refl, sym, arith}
use Rattle.std.proofs.lemmas.Bool.{cases_lt}
use Rattle.std.proofs.lemmas.List.{take_all}
use Rattle.file_encoding.proofs.GatheredSquares.{columns_are}
use Rattle.file_encoding.proofs.gather.gather_squares.Goals as goal

pub loop-k-preserved : goal.loop-k-preserved
loop-k-preserved c i b in-i in-b in-bands =
    let many = length c.args.bands.now in let at = c.min.result in
    elim (cases_lt b at) [
      | inl before ↦ c.gather_square.ensures.before i b in-i before ∙ c.loop-k.invariant i b in-i (omega (arith, before, c.min.ensures)) in-bands
      | inr here ↦ let there : at + (b - at) ≡ b = omega (arith, here) in
          rw there at (c.gather_square.ensures.here i (b - at) in-i (omega (arith, here, in-b, in-bands, c.min.ensures)))
    ]

pub returns : goal.returns
returns c =
    let many = length c.args.bands.now in let room : length c.loop-k.residuals ≡ 8 * many = c.loop-k.auto.residuals ∙ c.requires.room in
    sym (take_all (8 * many) c.loop-k.residuals (omega (arith, room)))
    ∙ columns_are c.args.bands.now c.args.first 8 many c.loop-k.residuals refl (omega (arith, room))
    (λ i b in-i in-b. c.loop-k.invariant i b in-i (omega (arith, in-b, c.loop-k-test.false, c.div_ceil-k-end.ensures)) in-b)
