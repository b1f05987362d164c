use Rattle.std.proofs.Common.{◌≡◌, ◌*◌, ◌/◌, ◌≤◌, ap, vec_len, arith}
use Rattle.std.proofs.lemmas.Nat.{mul-le}
use Rattle.std.proofs.Math.Nat.{div-mul-le_self}
use Rattle.file_encoding.proofs.walk.shared_planes_room.Goals as goal

pub returns-clause-half : goal.returns-clause-half
returns-clause-half c =
    let kept = c.min.result / 2 in
    let n = c.args.predictors in
    let bands = c.args.params.now.shape.bands in
    let plane = c.args.params.now.shape.rows * c.args.params.now.shape.columns in
    let share : bands / n * n ≤ bands = div-mul-le_self bands n in
    let same_share : c.bands.result / n ≡ bands / n = ap (λ b. b / n) c.bands.ensures.value in
    let low : 2 * kept ≤ bands / n = omega (arith, same_share) in
    let each : 2 * kept * n ≤ bands / n * n = mul-le (2 * kept) n (bands / n) n low (omega arith) in
    let all : 2 * kept * n * plane ≤ bands * plane = mul-le (2 * kept * n) plane bands plane (omega (arith, each, share)) (omega arith) in
    let room : n * vec_len c.room_of_planes.result ≤ n * (kept * plane) =
    mul-le n (vec_len c.room_of_planes.result) n (kept * plane) (omega arith) c.room_of_planes.ensures in
    let same : 2 * (n * (kept * plane)) ≡ 2 * kept * n * plane = grind arith in
    omega (arith, room, all, same)

pub returns-clause-eight : goal.returns-clause-eight
returns-clause-eight c =
    let kept = c.min.result / 2 in
    let plane = c.args.params.now.shape.rows * c.args.params.now.shape.columns in
    let few : kept ≤ 8 = omega arith in
    let all : kept * plane ≤ 8 * plane = mul-le kept plane 8 plane few (omega arith) in
    omega (arith, c.room_of_planes.ensures, all)
