use Rattle.std.proofs.Common.{◌≡◌, ◌+◌, ◌-◌, ◌*◌, ◌≤◌, ◌++◌}
use Rattle.word_lanes.specs.EightWords.{texts, word_text}
use Rattle.word_lanes.proofs.eight_words.push_long_eight.Given as goal

abbrev pub invariant-loop-i : goal.invariant-loop-i
invariant-loop-i l = record {
  text : l.writer.bits ++ texts (word_text l.words) l.i (8 - l.i) ≡ l.fn.writer.bits ++ texts (word_text l.words) 0 8;
  room : l.fn.writer.room ≤ l.writer.room + 48 * l.i;
  still : l.writer.room ≤ l.fn.writer.room;
}
