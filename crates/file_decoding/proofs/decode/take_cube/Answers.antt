use Rattle.std.proofs.Common.{arith}
use Rattle.wave_inversion.specs.Inversion.{IsAtStart}
use Rattle.wave_inversion.proofs.Coded.{coded_residuals}
use Rattle.file_decoding.proofs.decode.take_cube.Goals as goal
use Rattle.file_decoding.proofs.decode.take_cube.Goals.{After-deref_mut}

start : (c : After-deref_mut) → IsAtStart c.args.params.now c.take_residuals.new.cube c.deref_mut.result.now
start c =
    let taken = c.in_ok-take_residuals.ensures.taken in
    let bands = c.in_ok-predictors.ensures in
    rw c.deref_mut.ensures.value (record {
      lawful = c.requires;
      shape = taken.shape;
      kind = taken.kind;
      many = omega (arith, bands.len, c.in_ok-predictors.predictors.ok.0);
      along = bands.along;
      first = bands.first;
    })

pub invert-requires : goal.invert-requires
invert-requires c = record { start = (c.args.params.now, start (goal.at.invert-requires c).After-deref_mut) }

pub returns-clause-taken : goal.returns-clause-taken
returns-clause-taken c =
    let taken = c.in_ok-take_residuals.ensures.taken in
    let coded = c.invert.ensures.inverted c.args.params.now (start (goal.at.returns-clause-taken c).After-deref_mut) in
    record {
      cube = coded.cube;
      body = taken.body;
      coded = rw (coded_residuals c.args.params.now c.take_residuals.new.cube c.invert.new.cube c.requires taken.shape coded) taken.coded;
      text = taken.text;
    }
