use Rattle.std.proofs.Common.{◌≡◌, ◌+◌, ◌/◌, ◌^◌, ◌<◌, ℕ, ap, ◌∙◌, get_or, arith}
use Rattle.header_bits.specs.Bits.{fundamental}
use Rattle.word_lanes.specs.EightWords.{word_text}
use Rattle.block_adaptive.proofs.Emits.{quotient_end}
use Rattle.block_adaptive.proofs.Gathers.{goes_room, goes_step, goes_end, quotients_of_some}
use Rattle.block_adaptive.proofs.LaneTexts.{quotients_of_eight}
use Rattle.block_adaptive.proofs.written_split.append_quotients.Goals as goal
use Rattle.block_adaptive.proofs.written_split.append_quotients.Goals.{After-sequences_of, then-are_short, else-are_short}

-- the word of a lane is the fundamental sequence of a quotient
word : (c : After-sequences_of) (j : ℕ) → j < 8
    → word_text c.sequences_of.result j ≡ fundamental (get_or c.args.block.now (c.loop-first.first + j) 0 / 2 ^ c.args.k)
word c j lt =
    c.sequences_of.ensures.text j lt
    ∙ ap fundamental (c.shifted-quotients.ensures j lt ∙ ap (λ n. n / 2 ^ c.args.k) (c.numbers_at.ensures.same j lt))

pub push_eight-writer-requires-clause-room : goal.push_eight-writer-requires-clause-room
push_eight-writer-requires-clause-room c =
    goes_room _ _ c.requires.room c.loop-first.invariant.goes
    (quotients_of_eight (word_text c.sequences_of.result) c.args.k c.loop-first.first c.args.block.now (λ j lt. word c j lt)
    (omega (arith, c.loop-first.invariant.eights, c.requires.eights, c.loop-first-test.true)))

pub append_long_codes-writer-requires-clause-room : goal.append_long_codes-writer-requires-clause-room
append_long_codes-writer-requires-clause-room c =
    goes_room _ _ c.requires.room c.loop-first.invariant.goes (quotients_of_some c.args.k c.loop-first.first 8 c.args.block.now)

pub loop-first-preserved : goal.loop-first-preserved
loop-first-preserved c =
    record {
      goes = elim c.if-are_short.branch [
        | then-are_short w ↦ rw w.writer-is (goes_step _ c.loop-first.invariant.goes
            (quotients_of_eight (word_text w.sequences_of.result) c.args.k c.loop-first.first c.args.block.now
            (λ j lt. w.sequences_of.ensures.text j lt ∙ ap fundamental (c.shifted-quotients.ensures j lt ∙ ap (λ n. n / 2 ^ c.args.k) (c.numbers_at.ensures.same j lt)))
            (omega (arith, c.loop-first.invariant.eights, c.requires.eights, c.loop-first-test.true)))
            (record { appended = w.push_eight-writer.ensures.text; spent = w.push_eight-writer.ensures.room }))
        | else-are_short w ↦ rw w.writer-is
            (goes_step _ c.loop-first.invariant.goes (quotients_of_some _ c.loop-first.first 8 c.args.block.now) w.append_long_codes-writer.ensures)
      ];
      eights = omega (arith, c.loop-first.invariant.eights);
      within = omega (arith, c.loop-first.invariant.eights, c.requires.eights, c.loop-first-test.true);
    }

pub returns : goal.returns
returns c = goes_end c.loop-first.invariant.goes (quotient_end c.args.k c.loop-first.first c.args.block.now (omega arith))
