use Rattle.std.proofs.Common.{rules, ◌*◌, ◌≤◌, vec_len}
use Rattle.file_encoding.proofs.walk.room_of_planes.Goals as goal

pub returns-then-eq : goal.returns-then-eq
returns-then-eq c =
    let few : vec_len c.resize-had.new.self ≤ c.args.kept * (c.rows.result * c.columns.result) = search rules in
    rw (← c.rows.ensures.value, ← c.columns.ensures.value) few
