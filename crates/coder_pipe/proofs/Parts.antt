-- A predictor that keeps to what it took keeps to its part.
use Rattle.std.proofs.Common.{◌≡◌, ◌+◌, ◌≤◌, ℕ, suc, Bool, true, false, List, [], ◌∷◌, ◌++◌, length, IsTrue, IsFalse, refl, sym, subst}
use Rattle.std.proofs.Common.{append-nil, length-append, arith}
use Rattle.std.specs.Prelude.{◌==◌}
use Rattle.std.proofs.lemmas.Bool.{cond_both}
use Rattle.std.proofs.lemmas.List.{nil_from_length, take-append-le}
use Rattle.band_rings.specs.Lane.{LaneName}
use Rattle.cube_core.specs.Shape.{sample_count}
use Rattle.cube_core.specs.Image.{Image}
use Rattle.cube_core.specs.Order.{IsOrder}
use Rattle.header_bits.specs.declared.params.Params.{Params}
use Rattle.lane_workers.specs.declared.feed.LaneEnd.{LaneEnd}
use Rattle.lane_workers.specs.Feeds.{Keeps}
use Rattle.lane_workers.specs.Runs.{RunSending}
use Rattle.sample_prediction.specs.Residual.{residuals}
use Rattle.file_encoding.specs.Own.{own_residuals, owners, part}
use Rattle.file_encoding.specs.Walks.{IsSeen}
use Rattle.coder_pipe.specs.Sends.{Sends}
use Rattle.file_encoding.proofs.Owning.{own_is_part, length-residuals}

-- a part is no longer than the whole
part_few : (q : ℕ) (os ns : List ℕ) → length (part q os ns) ≤ length ns
unfolding part
part_few q [] ns = omega arith
part_few q (o ∷ os) [] = omega arith
part_few q (o ∷ os) (n ∷ ns) =
    let few = part_few q os ns in
    cond_both (o == q) (n ∷ part q os ns) (part q os ns) (λ xs. length xs ≤ suc (length ns)) (λ _. omega (arith, few)) (λ _. omega (arith, few))

-- so that it can be counted
pub own_few : (p : Params) (c : Image) (q : ℕ) (deal : List ℕ) (count : ℕ) → IsSeen p c → IsOrder p.shape p.order → sample_count c.shape ≤ count
    → length (own_residuals p c q deal p.order) ≤ count
own_few p c q deal count seen lawful few =
    let long = length-residuals p c (rw seen.shape lawful) in
    rw (← own_is_part p c q deal seen.shape) (omega (arith, part_few q (owners deal p) (residuals p c), long, few))

-- what a sender keeps to, of a list that it was to send
pub keeps_part : {G : Type 0} (may_stop : ℕ → ℕ → Bool) (q : ℕ) (old new : RunSending G) (all : Bool) (list : List ℕ) (lane : LaneName) (end : LaneEnd)
    → old.taken ≡ [] → Sends old new all list → Keeps may_stop q new.taken lane end → (IsTrue new.stopped → IsFalse end.whole) → Keeps may_stop q list lane end
keeps_part may_stop q old new true list lane end none sent keeps stopped =
    let same : list ≡ new.taken = rw (none, nil_from_length sent.rest (sent.whole refl).0, append-nil new.taken) at sent.taken in
    subst (λ items. Keeps may_stop q items lane end) (sym same) keeps
keeps_part may_stop q old new false list lane end none sent keeps stopped =
    let same : list ≡ new.taken ++ sent.rest = rw none at sent.taken in
    let halted : IsFalse end.whole = stopped (sent.stopped refl) in
    let at = keeps.stopped halted in
    let long : length list ≡ length new.taken + length sent.rest = rw (same, length-append) refl in
    record {
      lane_is = keeps.lane_is;
      prefix = rw (same, take-append-le (length end.closed.sent) new.taken sent.rest (omega (arith, at.1))) keeps.prefix;
      whole = λ h. absurd (cc);
      stopped = λ h. (at.0, omega (arith, at.1, long));
    }
