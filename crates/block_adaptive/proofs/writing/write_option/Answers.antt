use Rattle.std.proofs.Common.{◌≡◌, ◌*◌, ◌%◌, ◌^◌, ◌++◌, arith}
use Rattle.std.proofs.lemmas.List.{length-append}
use Rattle.std.proofs.lemmas.Nat.{one_shl}
use Rattle.block_adaptive.specs.Options.{width, coded, low_groups, option_text, pair_codes, quotient_codes}
use Rattle.block_adaptive.proofs.Costs.{uncoded_cost, second_cost, split_cost}
use Rattle.block_adaptive.proofs.Emits.{identifier_uncoded, identifier_second, identifier_split}
use Rattle.block_adaptive.proofs.Gathers.{pushed, writes_both, second_fits}
use Rattle.block_adaptive.proofs.writing.write_option.Goals as goal

pub push_reserved-requires-clause-room : goal.push_reserved-requires-clause-room
push_reserved-requires-clause-room c = grind (arith, uncoded_cost)

pub append_lows-requires-clause-room : goal.append_lows-requires-clause-room
unfolding option_text coded
append_lows-requires-clause-room c =
    let width_is = c.identifier_width-width.ensures in
    let one : 1 * 2 ^ width c.args.coding.set % 18446744073709551616 ≡ 2 ^ width c.args.coding.set = one_shl _ 64 (omega (arith, width_is.value, width_is.most)) in
    let first = pushed _ _ c.push_reserved.ensures.appended c.push_reserved.ensures.room in
    second_fits (low_groups c.args.coding.set.bits c.args.coding.block.now) (rw c.in-Uncoded.is at c.requires.room)
    (rw (width_is.value, one, identifier_uncoded _) at first)

pub returns-in-Uncoded : goal.returns-in-Uncoded
unfolding option_text coded
returns-in-Uncoded c =
    let width_is = c.identifier_width-width.ensures in
    let one : 1 * 2 ^ width c.args.coding.set % 18446744073709551616 ≡ 2 ^ width c.args.coding.set = one_shl _ 64 (omega (arith, width_is.value, width_is.most)) in
    let first = pushed _ _ c.push_reserved.ensures.appended c.push_reserved.ensures.room in
    rw c.in-Uncoded.is (writes_both (rw (width_is.value, one, identifier_uncoded _) at first) c.append_lows.ensures)

pub push_reserved-requires-in-Second-clause-room : goal.push_reserved-requires-in-Second-clause-room
push_reserved-requires-in-Second-clause-room c = grind (arith, second_cost)

pub append_pairs-requires-clause-room : goal.append_pairs-requires-clause-room
unfolding option_text coded
append_pairs-requires-clause-room c =
    let first = pushed _ _ c.push_reserved-in-Second.ensures.appended c.push_reserved-in-Second.ensures.room in
    second_fits (pair_codes c.args.coding.block.now) (rw c.in-Second.is at c.requires.room)
    (rw (c.identifier_width-width.ensures.value, identifier_second _) at first)

pub returns-in-Second : goal.returns-in-Second
unfolding option_text coded
returns-in-Second c =
    let first = pushed _ _ c.push_reserved-in-Second.ensures.appended c.push_reserved-in-Second.ensures.room in
    rw c.in-Second.is (writes_both (rw (c.identifier_width-width.ensures.value, identifier_second _) at first) c.append_pairs.ensures)

pub push_reserved-requires-in-Split-clause-room : goal.push_reserved-requires-in-Split-clause-room
push_reserved-requires-in-Split-clause-room c = grind (arith, split_cost)

pub append_quotients-requires-clause-room : goal.append_quotients-requires-clause-room
unfolding option_text coded
append_quotients-requires-clause-room c =
    let first = pushed _ _ c.push_reserved-in-Split.ensures.appended c.push_reserved-in-Split.ensures.room in
    let quotients = quotient_codes c.in-Split.k c.args.coding.block.now in
    let lows = low_groups c.in-Split.k c.args.coding.block.now in
    let both = second_fits (quotients ++ lows) (rw c.in-Split.is at c.requires.room)
    (rw (c.identifier_width-width.ensures.value, c.from.ensures, identifier_split _ _) at first) in
    omega (arith, both, length-append quotients lows)

pub append_low_eights-requires-clause-room : goal.append_low_eights-requires-clause-room
unfolding option_text coded
append_low_eights-requires-clause-room c =
    let first = pushed _ _ c.push_reserved-in-Split.ensures.appended c.push_reserved-in-Split.ensures.room in
    let quotients = quotient_codes c.in-Split.k c.args.coding.block.now in
    let lows = low_groups c.in-Split.k c.args.coding.block.now in
    second_fits lows (second_fits (quotients ++ lows) (rw c.in-Split.is at c.requires.room)
    (rw (c.identifier_width-width.ensures.value, c.from.ensures, identifier_split _ _) at first)) c.append_quotients.ensures

pub returns-in-Split : goal.returns-in-Split
unfolding option_text coded
returns-in-Split c =
    let first = pushed _ _ c.push_reserved-in-Split.ensures.appended c.push_reserved-in-Split.ensures.room in
    rw c.in-Split.is (writes_both (rw (c.identifier_width-width.ensures.value, c.from.ensures, identifier_split _ _) at first)
    (writes_both c.append_quotients.ensures c.append_low_eights.ensures))
