use Rattle.std.proofs.Common.{◌≡◌, ◌≤◌, ◌-◌, length, take, drop, sym, rules, ◌∙◌}
use Rattle.lane_workers.proofs.Runs.{first_of_room}
use Rattle.lane_workers.proofs.room.Room.next_run.Goals as goal

pub returns-clause-handed : goal.returns-clause-handed
returns-clause-handed c =
    let within : c.min-count.result ≤ c.self.inside.end - c.self.inside.first = search rules in
    let long : length c.copy_from_slice.new.self ≡ c.min-count.result = search rules in
    let same : c.copy_from_slice.new.self ≡ take c.min-count.result (drop c.self.inside.first c.self.inside.numbers) = search rules in
    sym c.self.view_is ∙ first_of_room _ _ (drop c.min-count.result c.args.run.now) _ _ _ within long same
