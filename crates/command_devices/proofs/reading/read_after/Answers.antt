use Rattle.std.proofs.Common.{◌+◌, ◌-◌, ◌≤◌, ℕ, List, Option, Result, Ok, Err, IfOk, take, drop, length, sym, subst}
use borrow.Rule.Slice.PartMut.{put_mid}
use Rattle.command_devices.specs.declared.source.Failed.{Failed}
use Rattle.command_devices.specs.Devices.{Gave}
use Rattle.command_devices.proofs.Devices.{part_written}
use Rattle.command_devices.proofs.reading.read_after.Goals as goal

given_after : (r : Result ℕ Failed) (old new : Option (List ℕ)) (had k : ℕ) (bytes piece : List ℕ) → had ≤ length bytes → IfOk r (λ n. n ≤ length piece)
    → IfOk r (λ n. Gave old new (take n piece)) → IfOk r (λ n. Gave old new (drop had (take (had + n) (put_mid had k bytes piece))))
given_after (Ok n) old new had k bytes piece h le given = subst (λ (x : List ℕ). Gave old new x) (sym (part_written had k n bytes piece h le)) given
given_after (Err e) old new had k bytes piece h le given = tt

pub returns-clause-given : goal.returns-clause-given
returns-clause-given g c = given_after c.read.result _ _ c.args.had (length c.args.bytes.now - c.args.had) c.args.bytes.now c.read.new.buffer c.requires
    (subst (λ (k : ℕ). IfOk c.read.result (λ n. n ≤ k)) (sym c.read.auto.buffer) c.read.ensures.within) c.read.ensures.given
