use Rattle.std.proofs.Common.{◌≡◌, ◌+◌, ◌-◌, ◌≤◌, ℕ, List, Bool, None, length, take}
use Rattle.block_adaptive.specs.Given.{HasGiven, GivesAll, given_count}
use Rattle.block_adaptive.proofs.block_reader.BlockReader.next_run.Given as goal

abbrev pub invariant-loop-done : goal.invariant-loop-done
invariant-loop-done l =
    record {
      given : (given : List ℕ) (bits : List Bool) → HasGiven l.initial.self given bits → GivesAll l.initial.self given bits l.initial.reader.left l.self
          l.reader.left (take l.done l.numbers);
      counted : given_count l.self ≡ given_count l.initial.self + l.done;
      working : l.self.refused ≡ None;
      cut : l.self.cut ≡ l.initial.self.cut;
      inside : l.self.block ≤ l.self.cut.count;
      count : l.reader.count ≡ l.initial.reader.count;
      within : l.done ≤ length l.numbers;
      long : length l.numbers ≡ length l.initial.numbers;
    }

abbrev pub decreases-loop-done : goal.decreases-loop-done
decreases-loop-done l = length l.numbers - l.done
