use Rattle.std.proofs.Common.{List, ℤ, pos, slice_index_or, SFits, w32, to_z-of_z, rules}
use Rattle.predict_core.proofs.Gathered.{gathered}
use Rattle.predict_core.proofs.forward.chain.differences_at.Goals as goal

-- the four components of a quad are words
abbrev FitFour : List ℤ → Type 0
FitFour xs =
    SFits w32 (slice_index_or xs 0 (pos 0)) × SFits w32 (slice_index_or xs 1 (pos 0)) × SFits w32 (slice_index_or xs 2 (pos 0))
    × SFits w32 (slice_index_or xs 3 (pos 0))

pub returns : goal.returns
returns g c =
    let first : FitFour c.quad_at-first.result = search rules in let second : FitFour c.quad_at-second.result = search rules in
    let third : FitFour c.quad_at-third.result = search rules in let fourth : FitFour c.quad_at-fourth.result = search rules in
    let fifth_0 : SFits w32 (slice_index_or c.quad_at-fifth.result 0 (pos 0)) = search rules in
    let fifth_1 : SFits w32 (slice_index_or c.quad_at-fifth.result 1 (pos 0)) = search rules in
    rw (to_z-of_z first.0, to_z-of_z first.1, to_z-of_z first.2, to_z-of_z first.3)
    (rw (to_z-of_z second.0, to_z-of_z second.1, to_z-of_z second.2, to_z-of_z second.3)
    (rw (to_z-of_z third.0, to_z-of_z third.1, to_z-of_z third.2, to_z-of_z third.3)
    (rw (to_z-of_z fourth.0, to_z-of_z fourth.1, to_z-of_z fourth.2, to_z-of_z fourth.3)
    (rw (to_z-of_z fifth_0, to_z-of_z fifth_1)
    (gathered g.row.Q c.args.quads.now c.args.i c.quad_at-first.result c.quad_at-second.result c.quad_at-third.result c.quad_at-fourth.result
    c.quad_at-fifth.result c.requires.few c.told-quads c.quad_at-first.ensures.long c.quad_at-second.ensures.long c.quad_at-third.ensures.long
    c.quad_at-fourth.ensures.long c.quad_at-fifth.ensures.long c.quad_at-first.ensures.value c.quad_at-second.ensures.value c.quad_at-third.ensures.value
    c.quad_at-fourth.ensures.value c.quad_at-fifth.ensures.value)))))
