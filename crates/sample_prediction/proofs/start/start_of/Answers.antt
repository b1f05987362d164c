use Rattle.std.proofs.Common.{◌≡◌, ◌+◌, refl, arith}
use Rattle.sample_prediction.specs.Predictor.{predictor_of, component_count}
use Rattle.sample_prediction.proofs.Starting.{count_is, default_told}
use Rattle.sample_prediction.proofs.Tables.{table_long, table_told}
use Rattle.sample_prediction.proofs.start.start_of.Goals as goal

pub entries_from-entries-requires : goal.entries_from-entries-requires
entries_from-entries-requires c =
    let p = c.args.params.now in let z = c.args.z in let long = table_long p c.requires.lawful z c.requires.band c.in-Table.q c.in-Table.values c.in-Table.is in
    let count = count_is (predictor_of p) z c.args.first c.requires.directions in
    let from = c.entries_before-from.ensures (predictor_of p) refl c.requires.directions in
    rw (c.as_slice.ensures, c.requires.below, from) (omega (arith, long, count))

pub returns-in-Usual-clause-value : goal.returns-in-Usual-clause-value
returns-in-Usual-clause-value c =
    default_told c.args.params.now c.args.z c.in-Usual.is c.args.first c.args.near c.default_weights.result c.requires.directions c.requires.below
    c.default_weights.ensures.value

pub returns-in-Table-clause-value : goal.returns-in-Table-clause-value
returns-in-Table-clause-value c =
    let p = c.args.params.now in let z = c.args.z in let long = table_long p c.requires.lawful z c.requires.band c.in-Table.q c.in-Table.values c.in-Table.is in
    let count = count_is (predictor_of p) z c.args.first c.requires.directions in
    let all_of : c.args.first + c.args.near ≡ component_count (predictor_of p) z = rw c.requires.below count in
    let from = c.entries_before-from.ensures (predictor_of p) refl c.requires.directions in
    let entries = rw c.as_slice.ensures at c.entries_from-entries.ensures in
    table_told p z _ _ c.in-Table.is _ _ _ _ _ all_of from entries (rw (from, all_of) long)
    c.table_start.ensures.value
