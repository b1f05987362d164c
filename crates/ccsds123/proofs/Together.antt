-- What passes the test of order and layout brings the rows that the order codes.
use Rattle.std.proofs.Common.{◌≡◌, ◌==◌, ◌||◌, ℕ, Bool, true, false, not, if◌then◌else◌, Ok}
use Rattle.cube_core.specs.declared.layout.RawOrder.TheVariants as raw
use Rattle.cube_core.specs.declared.order.Order.TheVariants.{Bsq, Bi}
use Rattle.raw_rows.specs.Together.{GoTogether}
use Rattle.ccsds123.specs.declared.records.ParamsRecord.{ParamsRecord}
use Rattle.ccsds123.specs.declared.records.LayoutRecord.{LayoutRecord}
use Rattle.ccsds123.specs.declared.refusal.Refusal.{Refusal}
use Rattle.ccsds123.specs.Asked.{◌and◌, together_test, order_by, raw_order_by, unless}

by_choices : (a b c : Bool) (depth : ℕ) (e f : Refusal) → (unless (not a || b) e and unless (a || not b) f) ≡ Ok tt
    → GoTogether (if b then raw.Bsq else if c then raw.Bil else raw.Bip) (if a then Bsq else Bi depth)
by_choices true true c depth e f h = tt
by_choices true false c depth e f h = absurd (cc)
by_choices false true c depth e f h = absurd (cc)
by_choices false false true depth e f h = tt
by_choices false false false depth e f h = tt

pub goes_together : (r : ParamsRecord) (l : LayoutRecord) → together_test r l ≡ Ok tt → GoTogether (raw_order_by l.interleave) (order_by r.order r.depth)
unfolding together_test
goes_together r l h = by_choices (r.order == 0) (l.interleave == 0) (l.interleave == 1) r.depth _ _ h
