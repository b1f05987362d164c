use Rattle.std.proofs.Common.{◌≡◌, ◌+◌, ◌*◌, ◌-◌, ◌≤◌, ◌++◌, ℕ, suc, List, length, take, ap, ap₂, arith, inl, inr, ◌∙◌}
use Rattle.std.proofs.lemmas.Bool.{cases_lt}
use Rattle.std.proofs.lemmas.List.{get_or_default}
use Rattle.std.proofs.lemmas.Nat.{mul-le}
use Rattle.predict_core.specs.Following.{PredictorState}
use Rattle.file_encoding.proofs.KeptRows.{past_piece, put_outside, row_more, row_before, rows_after}
use Rattle.file_encoding.proofs.side_by_side.keep_pieces.Goals as goal

pub loop-k-preserved : goal.loop-k-preserved
loop-k-preserved c =
    let was = c.loop-k.invariant in
    let told = c.piece_residuals.ensures in
    let numbers = c.copy_from_slice.new.self in
    let i = c.loop-k.k in let stretch = c.args.stretch in let start = i * stretch + c.args.first in
    let copied : numbers ≡ c.piece_residuals.result.now = c.copy_from_slice.ensures.after in
    let long : length numbers ≡ c.args.count = ap (λ (v : List ℕ). length v) copied ∙ told.long in
    let low : suc i * stretch ≤ (length c.args.bands.now - c.args.others) * stretch =
    mul-le (suc i) stretch (length c.args.bands.now - c.args.others) stretch (omega arith) (omega arith) in
    let fits : start ≤ length c.loop-k.room = omega (arith, low, c.requires.inside, c.requires.room, c.loop-k.auto.room) in
    let many = start + c.args.count - start in
    let size : many ≡ c.args.count = omega arith in
    let more = row_more stretch i c.args.first c.args.count many c.loop-k.room numbers c.requires.inside fits long size in
    let before = row_before stretch i c.args.first c.args.count many c.loop-k.room numbers c.requires.inside fits long size in
    let after = rows_after stretch i c.args.first c.args.count many c.loop-k.room numbers c.requires.inside fits long size in
    record {
      kept = λ k b lt. elim (cases_lt k i) [
        | inl h ↦ before k h ∙ was.kept k b h
        | inr h ↦ let here : k ≡ i = omega (arith, lt, h) in
            let band = c.index-bands-k.is ∙ get_or_default c.args.bands.now (i + c.args.others) c.index-bands-k.result b (omega arith) in
            rw here (more ∙ ap₂ (λ ns ms. ns ++ ms) (ap (λ (ns : List ℕ). take c.args.first ns) (was.left i (omega arith)))
            (copied ∙ told.value ∙ ap (λ (r : PredictorState). take c.args.count r.piece) band))
      ];
      left = λ k le. after k (omega (arith, le)) ∙ was.left k (omega (arith, le));
      later = λ k j past inside.
          put_outside start many c.loop-k.room numbers (k * stretch + j) fits (omega (arith, long, size))
          (λ le. omega (arith, size, past_piece stretch i k c.args.first c.args.count j past inside le))
          ∙ was.later k j past inside;
    }
