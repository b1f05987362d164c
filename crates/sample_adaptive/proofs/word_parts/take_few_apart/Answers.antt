use Rattle.std.proofs.Common.{◌≡◌, ◌+◌, ◌-◌, drop, ◌∙◌, arith}
use Rattle.std.proofs.lemmas.List.{drop-drop, length-set}
use Rattle.sample_adaptive.proofs.WordParts.{one_part_more}
use Rattle.sample_adaptive.proofs.word_parts.take_few_apart.Goals as goal

pub loop-j-preserved : goal.loop-j-preserved
loop-j-preserved c =
    let was = c.loop-j.invariant in
    let part = c.first_part-part in
    let l = part.result.length in
    let before = c.loop-j.length in
    let left = c.args.reader.now.left in
    let there = drop-drop l before left in
    let parts = c.loop-j.parts in
    let j = c.loop-j.j in
    record {
      ahead = λ within.
          let rest : 57 - (before + l) ≡ 57 - before - l = omega arith in
          rw (rest, ← there) (part.ensures.rest (drop before left) (57 - before) (omega (arith, within)) (omega arith) (was.ahead (omega (arith, within))));
      words = λ within bits h.
          rw (← there) (one_part_more c.args.ends.now parts j part.result.place part.result.ending bits (drop before left) (drop l (drop before left))
          (omega (arith, was.places, c.loop-j-test.true, c.requires.within)) (omega (arith, was.endings, c.loop-j-test.true, c.requires.within)) (was.words (omega (arith, within)) bits h)
          (part.ensures.word (drop before left) (57 - before) (omega (arith, within)) (omega arith) (was.ahead (omega (arith, within)))));
      places = length-set parts.places j part.result.place ∙ was.places;
      endings = length-set parts.endings j part.result.ending ∙ was.endings;
      few = omega (arith, was.few, part.ensures.few, c.loop-j.auto.j);
    }
