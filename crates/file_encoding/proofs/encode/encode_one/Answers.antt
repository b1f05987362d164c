use Rattle.std.proofs.Common.{◌≡◌, [], length, arith}
use Rattle.std.proofs.lemmas.Result.{IfOk-weaker}
use Rattle.sample_prediction.specs.Residual.{residuals}
use Rattle.file_encoding.specs.Ends.{HasCoded}
use Rattle.file_format.specs.File.{file_of}
use Rattle.file_encoding.proofs.Encoding.{all_fresh, all_residuals, may_take, none_left}
use Rattle.file_encoding.proofs.encode.encode_one.Goals as goal
use Rattle.file_encoding.proofs.encode.encode_one.Goals.{In_ok-send_all}

pub send_all-requires-clause-bands : goal.send_all-requires-clause-bands
send_all-requires-clause-bands c =
    let made = c.in_ok-bands.ensures in
    let many : length c.in_ok-bands.bands.items ≡ c.args.params.now.shape.bands = omega (arith, made.len, c.in_ok-bands.bands.ok.0) in
    rw c.deref_mut.ensures.value (all_fresh c.args.params.now c.args.cube.now _ many (made.along c.args.cube.now) made.first)

pub send_all-requires-clause-may : goal.send_all-requires-clause-may
send_all-requires-clause-may c =
    may_take _ _ _ c.requires.lawful (record { shape = c.requires.shape; kind = c.requires.kind }) c.prove_is_cube.ensures c.in_ok-end.ensures.coded

module _ (c : In_ok-send_all) where
  coded : HasCoded c.args.params.now c.send_all.new.end (residuals c.args.params.now c.args.cube.now)
  coded =
      rw (all_residuals c.args.params.now c.args.cube.now c.requires.lawful.order c.requires.shape) at
      (c.in_ok-send_all.ensures.sent c.args.params.now [] c.in_ok-end.ensures.coded)

pub finish-requires : goal.finish-requires
finish-requires c = none_left _ _ _ c.requires.lawful.order c.requires.shape (coded (goal.at.finish-requires c).In_ok-send_all)

pub returns-clause-file : goal.returns-clause-file
unfolding file_of
returns-clause-file c =
    let coded = coded (goal.at.returns-clause-file c).In_ok-send_all in
    IfOk-weaker c.finish.result _ _ (λ bytes h. h c.args.params.now (residuals c.args.params.now c.args.cube.now) coded) c.finish.ensures.file
