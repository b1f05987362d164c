use Rattle.std.proofs.Common.{rules, SFits, w32, to_z-of_z, get_or, pos, arith}
use Rattle.header_bits.specs.Lawful.{IsSigned}
use Rattle.header_bits.proofs.TableWriting.{writing_enough, writing_next, writing_end, code_left, no_code_left, all_at}
use Rattle.header_bits.proofs.weight_part.put_weights.Goals as goal

pub signed_code-requires-clause-signed : goal.signed_code-requires-clause-signed
signed_code-requires-clause-signed c =
    let fits : SFits w32 (get_or c.args.weights.now c.loop-weight.weight-index (pos 0)) = search rules in
    rw (to_z-of_z fits) (all_at (IsSigned c.args.bits) c.args.weights.now c.loop-weight.weight-index (pos 0) c.loop-weight-test.true c.requires.signed)

pub unwrap-requires : goal.unwrap-requires
unwrap-requires c =
    c.push.ensures.within (writing_enough _ _ _ _ _ _ _ (code_left _ _ _ c.loop-weight-test.true) c.requires.room c.loop-weight.invariant)

pub loop-weight-preserved : goal.loop-weight-preserved
loop-weight-preserved c =
    let fits : SFits w32 (get_or c.args.weights.now c.loop-weight.weight-index (pos 0)) = search rules in
    let appended = rw (c.unwrap.ensures, c.signed_code.ensures.code, to_z-of_z fits) at c.push.ensures.appended in
    let room = rw c.unwrap.ensures at c.push.ensures.room in
    let fits = writing_enough _ _ _ _ _ _ _ (code_left _ _ _ c.loop-weight-test.true) c.requires.room c.loop-weight.invariant in
    writing_next _ _ _ _ _ _ _ _ (code_left _ _ _ c.loop-weight-test.true) c.loop-weight.invariant appended room
    (omega (arith, c.push.ensures.still fits))

pub returns-clause-bits : goal.returns-clause-bits
returns-clause-bits c = (writing_end _ _ _ _ _ (no_code_left _ _ _ c.loop-weight-test.false) c.loop-weight.invariant).0

pub returns-clause-room : goal.returns-clause-room
returns-clause-room c = (writing_end _ _ _ _ _ (no_code_left _ _ _ c.loop-weight-test.false) c.loop-weight.invariant).1

pub returns-clause-still : goal.returns-clause-still
returns-clause-still c = c.loop-weight.invariant.still
