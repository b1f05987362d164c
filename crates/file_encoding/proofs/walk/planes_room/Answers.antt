use Rattle.std.proofs.Common.{◌≡◌, ◌*◌, ◌≤◌, arith}
use Rattle.std.proofs.lemmas.Nat.{mul-le}
use Rattle.file_encoding.proofs.walk.planes_room.Goals as goal

pub returns-clause-half : goal.returns-clause-half
returns-clause-half c =
    let kept = c.most_planes.result in
    let plane = c.args.params.now.shape.rows * c.args.params.now.shape.columns in
    let all : 2 * kept * plane ≤ c.args.params.now.shape.bands * plane =
    mul-le (2 * kept) plane c.args.params.now.shape.bands plane c.most_planes.ensures.half (omega arith) in
    let twice : 2 * (kept * plane) ≡ 2 * kept * plane = grind arith in
    omega (arith, c.room_of_planes.ensures, all, twice)

pub returns-clause-seven : goal.returns-clause-seven
returns-clause-seven c =
    let kept = c.most_planes.result in
    let plane = c.args.params.now.shape.rows * c.args.params.now.shape.columns in
    let all : kept * plane ≤ 7 * plane = mul-le kept plane 7 plane c.most_planes.ensures.seven (omega arith) in
    omega (arith, c.room_of_planes.ensures, all)
