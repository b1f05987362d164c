use Rattle.std.proofs.Common.{refl, arith}
use Rattle.std.proofs.lemmas.List.{with_items_is}
use Rattle.cube_core.proofs.Runs.{run_offsets, run_set}
use Rattle.cube_core.proofs.cube.Cube.set_run.Goals as goal

pub invariant_of-self : goal.invariant_of-self
invariant_of-self c =
    let did = rw c.deref_mut.ensures.value at c.put_run.ensures in let told = rw (← c.self.view_is) at c.requires in
    rw (with_items_is c.self.inside.offsets c.put_run.new.all (omega (arith, c.put_run.ensures.long, c.deref_mut.ensures.len))) (run_offsets c.self.inside.offsets.items c.put_run.new.all c.args.offsets.now c.self.invariant c.index_at.ensures.value told.place told.inside did.long did.put did.others told.range)

pub returns : goal.returns
returns c =
    let did = rw c.deref_mut.ensures.value at c.put_run.ensures in let told = rw (← c.self.view_is) at c.requires in
    rw (with_items_is c.self.inside.offsets c.put_run.new.all (omega (arith, c.put_run.ensures.long, c.deref_mut.ensures.len))) (run_set c.self.inside.offsets.items c.put_run.new.all c.args.offsets.now c.self.invariant c.index_at.ensures.value told.place told.inside did.long did.put did.others told.range c.self.view_is refl)
