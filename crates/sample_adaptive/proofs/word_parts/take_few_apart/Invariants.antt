use Rattle.std.proofs.Common.{◌-◌, ◌*◌, ◌≤◌, ◌≡◌, length, drop, List, Bool}
use Rattle.header_bits.specs.Windows.{IsAhead}
use Rattle.sample_adaptive.specs.WordParts.{InSteps, IsPartNext}
use Rattle.sample_adaptive.proofs.word_parts.take_few_apart.Given as goal

abbrev pub invariant-loop-j : goal.invariant-loop-j
invariant-loop-j l =
    record {
      ahead : l.length ≤ 57 → IsAhead (57 - l.length) (drop l.length l.initial.reader.left) l.bits;
      words : l.length ≤ 57 → (bits : List Bool) → InSteps (IsPartNext l.ends l.initial.parts) l.first bits l.initial.reader.left
          → InSteps (IsPartNext l.ends l.parts) l.j bits (drop l.length l.initial.reader.left);
      places : length l.parts.places ≡ 8;
      endings : length l.parts.endings ≡ 8;
      few : l.length ≤ 79 * (l.j - l.first);
    }
