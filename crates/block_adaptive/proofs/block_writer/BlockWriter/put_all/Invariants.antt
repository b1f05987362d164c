use Rattle.std.proofs.Common.{◌≡◌, ◌+◌, ◌-◌, ◌≤◌, length, take}
use Rattle.block_adaptive.specs.Taken.{GrowsByNeed, taken_count}
use Rattle.block_adaptive.proofs.Holds.{Puts}
use Rattle.block_adaptive.proofs.block_writer.BlockWriter.put_all.Given as goal

abbrev pub invariant-loop-first : goal.invariant-loop-first
invariant-loop-first l =
    record {
      puts : Puts (take l.first l.numbers) l.initial.self l.initial.writer.bits l.self l.writer.bits;
      counted : taken_count l.self ≡ taken_count l.initial.self + l.first;
      cut : l.self.cut ≡ l.initial.self.cut;
      within : l.first ≤ length l.numbers;
      grows : GrowsByNeed l.initial.writer l.writer;
    }

abbrev pub decreases-loop-first : goal.decreases-loop-first
decreases-loop-first l = length l.numbers - l.first
