use Rattle.std.proofs.Common.{◌≡◌, true, false, sym, ◌∙◌, refl, arith}
use Rattle.header_bits.specs.TableParts.{some_above}
use Rattle.header_bits.proofs.Entries.{above_found, above_next, above_none_left}
use Rattle.header_bits.proofs.check.check_constants.Goals as goal

pub returns-then-most-from : goal.returns-then-most-from
returns-then-most-from c =
    let over = above_found c.args.most c.loop-constant.constant-index c.args.constants.now c.loop-constant-test.true (omega arith) in
    let found : some_above c.args.most c.args.constants.now ≡ true = sym c.loop-constant.invariant ∙ over in
    rw found refl

pub loop-constant-preserved : goal.loop-constant-preserved
loop-constant-preserved c = above_next _ _ _ c.loop-constant-test.true (omega arith) ∙ c.loop-constant.invariant

pub returns : goal.returns
returns c =
    let none : some_above c.args.most c.args.constants.now ≡ false = sym c.loop-constant.invariant ∙ above_none_left _ _ _ c.loop-constant-test.false in
    rw none refl
