use Rattle.std.proofs.Common.{◌≡◌, ◌++◌, ℕ, Bool, List, [], true, IsTrue, IsFalse, refl, sym, append-nil, length-drop, take-add, arith}
use Rattle.std.proofs.lemmas.List.{take_rest}
use Rattle.lane_workers.specs.Runs.{RunSending}
use Rattle.coder_pipe.specs.Sends.{Sends}
use Rattle.coder_pipe.specs.LaneLaws.{sendings_are}
use Rattle.file_encoding.proofs.Sending.{none_yet, stepped, run_piece}
use Rattle.coder_pipe.proofs.lane_taker.LaneTakerTaker.take.Goals as goal

sent_some : {G : Type 0} {old new : RunSending G} {result : Bool} {ns : List ℕ}
    → (new.lane ≡ old.lane) × (new.predictor ≡ old.predictor) × (new.gate ≡ old.gate) → new.taken ≡ old.taken ++ ns → (IsTrue result → IsTrue new.ready)
    → (IsFalse result → IsTrue new.stopped) → Sends old new result ns
sent_some same taken ready stopped =
    record { lane = same.0; predictor = same.1; gate = same.2; rest = []; taken = rw append-nil (sym taken); whole = λ h. (refl, ready h); stopped = stopped }

pub returns-then-not-goes_on : goal.returns-then-not-goes_on
returns-then-not-goes_on g c =
    let told = c.send_some-first.ensures in
    rw (← c.self.view_is) ((stepped sendings_are c.loop-first.invariant.sent (rw (← c.self.view_is) at c.requires) (run_piece c.args.residuals.now c.loop-first.first c.send_some-first.result) refl).cut _ _ refl
    (sent_some told.same (rw take_rest at told.taken) (λ h. absurd (cc)) (λ h. c.goes_on.ensures.stopped c.if-not-goes_on.true)))

pub loop-first-preserved : goal.loop-first-preserved
loop-first-preserved g c =
    let told = c.send_some-first.ensures in
    let some = λ (h : IsTrue true). told.ready (c.goes_on.ensures.open c.if-not-goes_on.false) in
    record {
      within = omega (arith, told.within, length-drop c.loop-first.first c.args.residuals.now);
      sent = rw take-add (sendings_are.append _ _ _ true _ _ c.loop-first.invariant.sent
          (sent_some told.same (rw take_rest at told.taken) some (λ h. absurd (cc))));
    }

pub loop-first-init : goal.loop-first-init
loop-first-init g c = record { within = omega arith; sent = none_yet sendings_are (rw (← c.self.view_is) at c.requires) }
