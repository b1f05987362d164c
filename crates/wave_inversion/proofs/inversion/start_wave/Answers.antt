use Rattle.std.proofs.Common.{◌≡◌, ◌+◌, ◌-◌, ◌*◌, ℕ, ap, inl, inr, arith}
use Rattle.std.proofs.lemmas.Bool.{cases_lt}
use Rattle.std.proofs.lemmas.Nat.{row_fits}
use Rattle.cube_core.specs.Shape.{Sizes}
use Rattle.wave_inversion.proofs.inversion.start_wave.Goals as goal

pub invert_run-requires-clause-ahead : goal.invert_run-requires-clause-ahead
invert_run-requires-clause-ahead c lower low =
    let kept = c.loop-b.invariant in let b : ℕ = c.loop-b.b in
    let columns = ap (λ (s : Sizes). s.columns) kept.alike.shape in let row = ap (λ (n : ℕ). c.args.y * n) columns in
    elim (cases_lt lower c.args.first) [
      | inl below ↦
          (let a = c.requires.ahead lower below in let same = ap (λ v. v.t) (kept.others lower (λ h. absurd (omega (arith, h, below)))) in
          let line = row_fits c.args.y c.args.cube.now.shape.columns (c.args.y + 1) c.args.cube.now.shape.columns (omega arith) (omega arith) in
          omega (arith, a, same, row, line, c.requires.columns))
      | inr not ↦
          (let here : c.args.first + (lower - c.args.first) ≡ lower = omega (arith, not) in
          let m = rw here at (kept.moved (lower - c.args.first) (omega (arith, low, not))) in omega (arith, m, row, low, not))
    ]
