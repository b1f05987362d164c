use Rattle.std.proofs.Common.{◌≡◌, ◌+◌, ◌^◌, ◌<◌, ◌∙◌, ap, pos, length, length-set, SFits, to_z-of_z, w32, arith, get_or}
use Rattle.sample_prediction.specs.Weights.{table_weight}
use Rattle.sample_prediction.proofs.Products.{step_bound}
use Rattle.sample_prediction.proofs.Tables.{told_next, weight_fits, read_entry, entry_signed}
use Rattle.sample_prediction.proofs.start.table_start.Goals as goal

pub loop-i-preserved : goal.loop-i-preserved
loop-i-preserved c =
    let entries = c.args.entries.now in let f = c.args.omega in let q = c.args.q in let i = c.loop-i.i in let long = c.loop-i.invariant.long in
    let inside : i < length c.loop-i.weights = omega (arith, long, c.requires.few, c.loop-i-test.true) in
    let is : c.table_weight.result ≡ table_weight f q (get_or entries i (pos 0)) =
    c.table_weight.ensures.value
    ∙ ap (table_weight f q) (read_entry f q entries i c.requires.omega_in.1 c.requires.bits.1 c.requires.signed c.loop-i-test.true) in
    let fits : SFits w32 c.table_weight.result = rw is (weight_fits f q (get_or entries i (pos 0)) c.requires.omega_in.1 c.requires.bits.0 c.requires.bits.1
    (entry_signed q entries i c.requires.signed c.loop-i-test.true)) in
    rw (to_z-of_z fits)
    (record {
      told = told_next f q i c.loop-i.weights entries c.table_weight.result inside c.loop-i-test.true is c.loop-i.invariant.told;
      long = rw length-set long;
      bounded = step_bound (2 ^ (f + 2)) c.loop-i.weights i c.table_weight.result c.loop-i.invariant.bounded c.table_weight.ensures.bound;
    })
