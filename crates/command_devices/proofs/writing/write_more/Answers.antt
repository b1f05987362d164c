use Rattle.std.proofs.Common.{◌≡◌, ◌≤◌, ◌∙◌, ℕ, List, take, drop, take-add, length, inl, inr, refl, ap, arith, append-nil, length-drop, []}
use Rattle.std.proofs.lemmas.List.{take_all}
use Rattle.command_devices.proofs.Devices.{took_more, rises_is_rose, no_stall, stall_rises, rest_is}
use Rattle.command_devices.proofs.writing.write_more.Goals as goal
use Rattle.command_devices.proofs.writing.write_more.Goals.{In-Ok, in_default-via-in-Ok+else-n-gt0, in_default-via-in_default}

pub loop-written-preserved : goal.loop-written-preserved
loop-written-preserved g c =
    let rest = rest_is c.loop-written.written c.args.bytes.now in
    let took = took_more _ _ _ (take c.loop-written.written c.args.bytes.now)
    (take c.in-Ok.n (drop c.loop-written.written c.args.bytes.now)) c.loop-written.invariant.took (rw rest at c.in-Ok.ensures.took) in
    let within : c.in-Ok.n ≤ length (drop c.loop-written.written c.args.bytes.now) = rw rest at c.in-Ok.ensures.within in
    record {
      within = omega (arith, within, length-drop c.loop-written.written c.args.bytes.now);
      took = rw (take-add c.loop-written.written c.in-Ok.n c.args.bytes.now) took;
      failures = c.in-Ok.ensures.worked ∙ c.loop-written.invariant.failures;
      stalls = no_stall c.in-Ok.n _ _ _ c.if-n-gt0.true c.in-Ok.ensures.stalled ∙ c.loop-written.invariant.stalls;
    }

pub returns-in_default-clause-cut : goal.returns-in_default-clause-cut
returns-in_default-clause-cut g c = elim c.in_default.branch [
  | in_default-via-in-Ok+else-n-gt0 w ↦
      (let none : w.in-Ok.n ≡ 0 = omega (arith, w.if-n-gt0) in
      let rest = rest_is c.loop-written.written c.args.bytes.now in
      let took = took_more _ _ _ (take c.loop-written.written c.args.bytes.now) [] c.loop-written.invariant.took (rw none at w.in-Ok.ensures.took) in
      let rises = stall_rises w.in-Ok.n _ _ _ (omega arith)
      (omega (arith, length-drop c.loop-written.written c.args.bytes.now, ap (λ (x : List ℕ). length x) rest)) w.in-Ok.ensures.stalled in
      (c.loop-written.written, refl, omega arith, rw append-nil at took, inr (rises_is_rose _ _ (rw c.loop-written.invariant.stalls at rises))))
  | in_default-via-in_default w ↦
      (let took = took_more _ _ _ (take c.loop-written.written c.args.bytes.now) [] c.loop-written.invariant.took w.in_default.ensures.same in (
        c.loop-written.written,
        refl,
        omega arith,
        rw append-nil at took,
        inl (rises_is_rose _ _ (rw c.loop-written.invariant.failures at w.in_default.ensures.failed.0)),
      ))
]

pub returns-clause-whole : goal.returns-clause-whole
returns-clause-whole g c =
    rw (take_all c.loop-written.written c.args.bytes.now (omega arith)) at c.loop-written.invariant.took

pub returns-clause-worked : goal.returns-clause-worked
returns-clause-worked g c = search
