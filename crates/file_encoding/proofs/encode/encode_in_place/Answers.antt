use Rattle.std.proofs.Common.{◌≡◌, [], length, sym, ap, ◌∙◌, subst, arith}
use Rattle.std.proofs.lemmas.Result.{IfOk-weaker}
use Rattle.cube_core.specs.Image.{Image}
use Rattle.cube_core.specs.Shape.{Sizes}
use Rattle.sample_prediction.specs.Residual.{residuals}
use Rattle.file_encoding.specs.Ends.{HasCoded}
use Rattle.file_encoding.specs.InPlace.{AreTurned, all_offsets}
use Rattle.file_encoding.specs.Own.{own_residuals}
use Rattle.file_encoding.specs.Walks.{AreFresh}
use Rattle.file_format.specs.File.{file_of}
use Rattle.file_encoding.proofs.Encoding.{all_fresh, all_residuals, may_take, none_left, own_all}
use Rattle.file_encoding.proofs.InPlace.{all_turned}
use Rattle.file_encoding.proofs.encode.encode_in_place.Goals as goal
use Rattle.file_encoding.proofs.encode.encode_in_place.Goals.{After-deref_mut, In_ok-turn}

module _ (c : After-deref_mut) where
  fresh : (image : Image) → AreFresh c.args.params.now 0 [] image c.in_ok-bands.bands.items
  fresh image =
      let made = c.in_ok-bands.ensures in
      let many : length c.in_ok-bands.bands.items ≡ c.args.params.now.shape.bands = omega (arith, made.len, c.in_ok-bands.bands.ok.0) in
      all_fresh c.args.params.now image _ many (made.along image) made.first

pub turn-requires-clause-own : goal.turn-requires-clause-own
turn-requires-clause-own c =
    let d = (goal.at.turn-requires-clause-own c).After-deref_mut in
    rw c.deref_mut.ensures.value ((fresh d c.args.cube).own ∙ own_all _)

pub turn-requires-clause-fresh : goal.turn-requires-clause-fresh
turn-requires-clause-fresh c = λ image.
    let d = (goal.at.turn-requires-clause-fresh c).After-deref_mut in
    rw c.deref_mut.ensures.value ((fresh d image).at)

-- the cube holds the residuals of all places, band after band
module _ (c : In_ok-turn) where
  are : all_offsets c.turn.new.cube ≡ own_residuals c.args.params.now c.args.cube 0 [] c.args.params.now.order
  are =
      let rows : c.args.params.now.shape.rows ≡ c.args.cube.shape.rows = ap (λ (s : Sizes). s.rows) (sym c.requires.shape) in
      all_turned c.args.params.now c.args.cube c.turn.new.cube (subst (AreTurned c.args.params.now c.args.cube c.turn.new.cube) rows c.in_ok-turn.ensures.turned)
      ∙ ap (own_residuals c.args.params.now c.args.cube 0 []) (sym c.requires.order)

pub send_offsets-requires : goal.send_offsets-requires
send_offsets-requires c =
    let d = (goal.at.send_offsets-requires c).In_ok-turn in
    record {
      may = rw (are d) (may_take c.args.params.now c.args.cube c.in_ok-end.end c.requires.lawful (record { shape = c.requires.shape; kind = c.requires.kind }) c.prove_is_cube.ensures
          c.in_ok-end.ensures.coded);
    }

pub finish-requires : goal.finish-requires
finish-requires c =
    let d = (goal.at.finish-requires c).In_ok-turn in
    let order = c.requires.lawful.order in
    none_left c.args.params.now c.args.cube c.send_offsets.new.taker order c.requires.shape
    (rw (are d ∙ all_residuals c.args.params.now c.args.cube order c.requires.shape) at
    (c.send_offsets.ensures.sent c.if-not-send_offsets.false c.args.params.now [] c.in_ok-end.ensures.coded))

pub returns-clause-file : goal.returns-clause-file
unfolding file_of
returns-clause-file c =
    let d = (goal.at.returns-clause-file c).In_ok-turn in
    let p = c.args.params.now in
    let coded : HasCoded p c.send_offsets.new.taker (residuals p c.args.cube) =
    rw (are d ∙ all_residuals p c.args.cube c.requires.lawful.order c.requires.shape) at
    (c.send_offsets.ensures.sent c.if-not-send_offsets.false p [] c.in_ok-end.ensures.coded) in
    IfOk-weaker c.finish.result _ _ (λ bytes h. h p (residuals p c.args.cube) coded) c.finish.ensures.file
