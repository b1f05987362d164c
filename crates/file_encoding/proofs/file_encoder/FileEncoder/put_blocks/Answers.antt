use Rattle.std.proofs.Common.{refl, arith}
use Rattle.std.proofs.lemmas.List.{take_all}
use Rattle.file_encoding.proofs.Runs.{rows_after, may_put_blocks, coded_blocks}
use Rattle.file_encoding.proofs.file_encoder.FileEncoder.put_blocks.Goals as goal

pub put_blocks-taken-requires : goal.put_blocks-taken-requires
put_blocks-taken-requires c = may_put_blocks _ _ (rw (← c.self.view_is) at c.requires.may) (rw (← c.self.view_is) at c.requires.blocks)

pub invariant_of-self : goal.invariant_of-self
invariant_of-self c = (c.self.invariant.0, λ by. rows_after _ _ _ _ c.go_by.ensures (c.self.invariant.1 by))

pub invariant_of-self-2 : goal.invariant_of-self-2
invariant_of-self-2 c = (c.self.invariant.0, λ by. rows_after _ _ _ _ c.go_by.ensures (c.self.invariant.1 by))

pub returns-then-taken-residuals-clause-some : goal.returns-then-taken-residuals-clause-some
returns-then-taken-residuals-clause-some c =
    let told = c.put_blocks-taken.ensures in
    let some = coded_blocks _ _ _ _ (rw (← c.self.view_is) at c.requires.may) told.most c.go_by.ensures refl refl told.taken in
    (c.put_blocks-taken.result, c.if-taken-residuals.true, rw (← c.self.view_is) some)

pub returns-clause-coded : goal.returns-clause-coded
returns-clause-coded c =
    let told = c.put_blocks-taken.ensures in
    let all = coded_blocks _ _ _ _ (rw (← c.self.view_is) at c.requires.may) told.most c.go_by.ensures refl refl told.taken in
    rw (← c.self.view_is) (rw (take_all c.put_blocks-taken.result c.args.residuals.now (omega arith)) at all)
