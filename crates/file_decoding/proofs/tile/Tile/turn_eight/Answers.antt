use Rattle.std.proofs.Common.{◌≡◌, ◌+◌, ◌-◌, ◌<◌, ◌∙◌, inl, inr, arith}
use Rattle.std.proofs.lemmas.Bool.{cases_lt}
use Rattle.file_decoding.proofs.tile.Tile.turn_eight.Goals as goal

pub loop-i-preserved : goal.loop-i-preserved
loop-i-preserved c = record {
  within = omega (arith, c.loop-i-test.true);
  turned = λ j b in-j in-b. elim (cases_lt j c.loop-i.i) [
    | inl before ↦ c.put_square.ensures.before b j in-b before ∙ c.loop-i.invariant.turned j b before in-b
    | inr here ↦ let there : c.loop-i.i + (j - c.loop-i.i) ≡ j = omega (arith, here) in
        let within : j - c.loop-i.i < 8 = omega (arith, here, in-j) in
        rw there at (c.put_square.ensures.here b (j - c.loop-i.i) in-b within ∙ c.turned.ensures b (j - c.loop-i.i) in-b within
        ∙ c.square_of-square.ensures (j - c.loop-i.i) b within in-b)
  ];
}
