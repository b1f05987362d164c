use Rattle.std.proofs.Common.{◌≡◌, ◌+◌, ◌*◌, ◌≤◌, ◌++◌, ℕ, get_or}
use Rattle.lanes.specs.Lanes.{number}
use Rattle.word_lanes.specs.EightWords.{texts}
use Rattle.sample_adaptive.specs.Words.{code_word}
use Rattle.sample_adaptive.proofs.written_singly.put_long_words.Given as goal

abbrev pub invariant-loop-j : goal.invariant-loop-j
invariant-loop-j l =
    record {
      text : l.writer.bits ≡ l.fn.writer.bits ++ texts (λ (j : ℕ). code_word (record { limit = l.settings.limit; k = number l.parameters j; bits = l.settings.bits }) (get_or l.residuals j 0)) 0 l.j;
      room : l.fn.writer.room ≤ l.writer.room + 48 * l.j;
      still : l.writer.room ≤ l.fn.writer.room;
    }
