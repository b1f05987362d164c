use Rattle.std.proofs.Common.{◌≡◌, ◌+◌, ◌-◌, true, false, ap, sym, ◌∙◌, refl, arith}
use Rattle.header_bits.specs.Layout.{values}
use Rattle.header_bits.specs.TableParts.{number_fields, some_above}
use Rattle.header_bits.proofs.TableNumbers.{number_taken, number_there, numbers_none}
use Rattle.header_bits.proofs.Entries.{above_first, above_later, above_nothing}
use Rattle.header_bits.proofs.constant_part.pass_constants.Goals as goal

pub unwrap-constant-requires : goal.unwrap-constant-requires
unwrap-constant-requires c =
    c.take.ensures.enough.1 (number_there c.args.count c.loop.counter 4 _ (omega (arith, c.loop-test.true)) c.loop.invariant.whole)

pub returns-then-from-constant-clause-test : goal.returns-then-from-constant-clause-test
returns-then-from-constant-clause-test c =
    let next =
    number_taken c.args.count c.loop.counter 4 _ _ _ (omega (arith, c.loop-test.true)) (rw c.unwrap-constant.ensures at c.take.ensures.below)
    (rw c.unwrap-constant.ensures at c.take.ensures.taken) in
    let over = above_first _ _ (values (number_fields (c.args.count - (c.loop.counter + 1)) 4) c.take.new.self.left) (omega arith) in
    let found : some_above c.args.most (values (number_fields c.args.count 4) c.args.reader.now.left) ≡ true =
    sym c.loop.invariant.above ∙ ap (some_above c.args.most) next.numbers ∙ over in
    rw found refl

pub loop-preserved : goal.loop-preserved
loop-preserved c =
    let next =
    number_taken c.args.count c.loop.counter 4 _ _ _ (omega (arith, c.loop-test.true)) (rw c.unwrap-constant.ensures at c.take.ensures.below)
    (rw c.unwrap-constant.ensures at c.take.ensures.taken) in
    let later = above_later _ _ (values (number_fields (c.args.count - (c.loop.counter + 1)) 4) c.take.new.self.left) (omega arith) in
    record {
      above = sym (ap (some_above c.args.most) next.numbers ∙ later) ∙ c.loop.invariant.above;
      rest = next.rest ∙ c.loop.invariant.rest;
      whole = next.whole c.loop.invariant.whole;
    }

pub returns-clause-test : goal.returns-clause-test
returns-clause-test c =
    let none = numbers_none (c.args.count - c.loop.counter) 4 c.loop.reader.left (omega (arith, c.loop-test.false)) in
    let clear : some_above c.args.most (values (number_fields c.args.count 4) c.args.reader.now.left) ≡ false =
    sym c.loop.invariant.above ∙ ap (some_above c.args.most) none ∙ above_nothing c.args.most in
    rw clear refl
