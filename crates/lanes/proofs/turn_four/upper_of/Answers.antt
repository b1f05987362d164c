use Rattle.std.proofs.Common.{ℕ, ◌+◌, ◌<◌, ◌≡◌, ◌++◌, ◌∷◌, [], refl, arith, w32, map, to_z, of_z, get_or}
use Rattle.lanes.proofs.Ranges.{vector}
use Rattle.lanes.proofs.Steps.{at_first, at_second}
use Rattle.lanes.specs.Lanes.{lane}
use Rattle.lanes.proofs.turn_four.upper_of.Goals as goal

pub returns : goal.returns
returns c =
    let a = vector w32 4 c.args.a _ c.well_formed.0 in let b = vector w32 4 c.args.b _ c.well_formed.1.0 in
    let f : (i : ℕ) → i < 4 → to_z w32 (get_or (map (of_z w32) c.args.a ++ map (of_z w32) c.args.b) i 0) ≡ lane c.args.a i =
    (λ i h. at_first w32 c.args.a c.args.b 4 i a.0 a.1 h) in
    let s : (i j : ℕ) → i < 4 → j ≡ 4 + i → to_z w32 (get_or (map (of_z w32) c.args.a ++ map (of_z w32) c.args.b) j 0) ≡ lane c.args.b i =
    (λ i j h e. at_second w32 c.args.a c.args.b 4 i j a.0 b.0 b.1 h e) in
    λ x. f 2 (omega arith) x ∷ s 2 6 (omega arith) refl x ∷ f 3 (omega arith) x ∷ s 3 7 (omega arith) refl x ∷ []
