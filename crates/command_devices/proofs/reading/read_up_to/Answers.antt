use Rattle.std.proofs.Common.{◌≡◌, ◌+◌, ◌++◌, ◌∙◌, ℕ, List, take, drop, arith, ap, refl, inl, inr}
use Rattle.std.proofs.lemmas.List.{with_items_is}
use Rattle.std.specs.Vec.{with_items}
use Rattle.command_devices.proofs.Devices.{gave_more, read_more, front_kept, rises_is_rose}
use Rattle.command_devices.proofs.reading.read_up_to.Goals as goal
use Rattle.command_devices.proofs.reading.read_up_to.Goals.{then-had-len+in_ok-grow, else-had-len}

pub loop-had-preserved : goal.loop-had-preserved
loop-had-preserved g c =
    let had : ℕ = c.loop-had.had in
    let kept : take had c.if-had-len.bytes.items ≡ take had c.loop-had.bytes.items = elim c.if-had-len.branch [
      | then-had-len+in_ok-grow w ↦ rw w.bytes-is
          (front_kept had c.loop-had.bytes.items _ (omega (arith, c.loop-had.invariant.within)) w.in_ok-grow.ensures.kept)
      | else-had-len w ↦ rw w.bytes-is refl
    ] in
    let whole : (with_items c.if-had-len.bytes c.read_after.new.bytes).items ≡ c.read_after.new.bytes =
    with_items_is c.if-had-len.bytes c.read_after.new.bytes (omega (arith, c.read_after.auto.bytes, c.deref_mut.ensures.len)) in
    let before : take had c.read_after.new.bytes ≡ take had c.loop-had.bytes.items =
    c.in-Ok.ensures.kept ∙ ap (λ (x : List ℕ). take had x) c.deref_mut.ensures.value ∙ kept in
    let more : take (had + c.in-Ok.n) c.read_after.new.bytes ≡ take had c.loop-had.bytes.items ++ drop had (take (had + c.in-Ok.n) c.read_after.new.bytes) =
    read_more had c.in-Ok.n c.loop-had.bytes.items c.read_after.new.bytes (omega (arith, c.read_after.auto.bytes, c.in-Ok.ensures.within)) before in
    record {
      given = rw (whole, more) (gave_more _ _ _ (take had c.loop-had.bytes.items) _ c.loop-had.invariant.given c.in-Ok.ensures.given);
      within = omega (arith, c.in-Ok.ensures.within, c.deref_mut.ensures.len);
      limited = elim c.if-had-len.branch [
        | then-had-len+in_ok-grow w ↦ rw w.bytes-is (omega (arith, w.in_ok-grow.ensures.limited))
        | else-had-len w ↦ rw w.bytes-is c.loop-had.invariant.limited
      ];
      worked = c.in-Ok.ensures.worked ∙ c.loop-had.invariant.worked;
    }

pub returns-in_default-clause-front : goal.returns-in_default-clause-front
returns-in_default-clause-front g c = tt

pub returns-in_default-clause-whole : goal.returns-in_default-clause-whole
returns-in_default-clause-whole g c = tt

pub returns-in_default-clause-worked : goal.returns-in_default-clause-worked
returns-in_default-clause-worked g c = tt

pub returns-in_default-clause-refused : goal.returns-in_default-clause-refused
returns-in_default-clause-refused g c =
    inr (refl, rises_is_rose _ _ (rw c.loop-had.invariant.worked at c.in_default.ensures.failed))

pub returns-in_default-clause-told : goal.returns-in_default-clause-told
returns-in_default-clause-told g c = inl refl

pub returns-in_default-clause-unfilled : goal.returns-in_default-clause-unfilled
returns-in_default-clause-unfilled g c e = absurd cc
