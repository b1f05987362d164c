use Rattle.std.proofs.Common.{◌≡◌, ℕ, ◌+◌, ◌<◌, ◌≤◌, pos, ◌≤ℤ◌, unsigned_abs, SFits, w32, to_z, of_z, to_z-of_z, rules, List, length, get_or, set, arith, inl}
use Rattle.std.proofs.Common.{inr, get_or-set_same, get_or-set_other, length-set}
use Rattle.std.proofs.lemmas.Bool.{cases_eq}
use Rattle.predict_core.specs.Rooms.{offset_number}
use Rattle.predict_core.proofs.mapping.map_places.Goals as goal

written : (P : ℕ → ℕ → Type 0) (out : List ℕ) (i v : ℕ) → i < length out → P i v → ((k : ℕ) → k < i → P k (get_or out k 0))
    → (k : ℕ) → k < i + 1 → P k (get_or (set out i v) k 0)
written P out i v h e b k l =
    elim (cases_eq k i) [ inl s ↦ rw (s, get_or-set_same out i v 0 h) e | inr n ↦ rw (get_or-set_other out i k v 0 n) (b k (omega arith)) ]

pub loop-i-preserved : goal.loop-i-preserved
loop-i-preserved c =
    let i : ℕ = c.loop-i.i in let kept = c.loop-i.invariant in let told = c.number_of_offset.ensures in
    let inside : i < length c.loop-i.out = omega (arith, kept.long) in
    let part : SFits w32 (get_or c.args.parts.now i (pos 0)) = search rules in let sum : SFits w32 (get_or c.args.sums.now i (pos 0)) = search rules in record {
      long = rw length-set kept.long;
      bound = written (λ k v. pos v ≤ℤ to_z w32 (of_z w32 c.args.greatest)) c.loop-i.out i c.number_of_offset.result inside told.bound kept.bound;
      values = written (λ k v. unsigned_abs (get_or c.args.parts.now k (pos 0)) ≤ 18874368 → pos 0 ≤ℤ get_or c.args.sums.now k (pos 0)
          → get_or c.args.sums.now k (pos 0) ≤ℤ pos 262140 → v ≡ offset_number (to_z w32 (of_z w32 c.args.greatest)) (get_or c.args.parts.now k (pos 0))
          (get_or c.args.sums.now k (pos 0)) (get_or c.args.offsets.now k 0)) c.loop-i.out i c.number_of_offset.result inside
          (simp (to_z-of_z part, to_z-of_z sum) at told.value) kept.values;
    }
