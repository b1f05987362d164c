use Rattle.std.proofs.Common.{◌≡◌, ◌+◌, ◌^◌, length, sym, refl, subst, arith}
use Rattle.std.proofs.lemmas.Option.{slice_get_read, get_or_from_slice_get}
use Rattle.predict_core.specs.Following.{no_band}
use Rattle.wave_inversion.specs.Inversion.{band_at}
use Rattle.wave_inversion.specs.WaveForms.{narrow_form}
use Rattle.wave_inversion.proofs.WaveFound.{are_found, omega_same, weights_small, settings}
use Rattle.wave_inversion.proofs.WaveBegun.{IsBegun}
use Rattle.wave_inversion.specs.declared.lower.LowerRows.{LowerRows}
use Rattle.wave_inversion.specs.Wave.{AreLowerBelow, lower_of}
use Rattle.wave_inversion.proofs.tile.invert_lanes.Given as given
use Rattle.wave_inversion.proofs.tile.invert_lanes.Goals as goal
use Rattle.wave_inversion.proofs.tile.invert_lanes.Goals.{After-ended_of-lanes}

module _ (g : given.Over) (c : After-ended_of-lanes g) where
  here : c.index-bands-first.result ≡ band_at c.args.bands.now c.args.first
  here = sym (get_or_from_slice_get c.args.bands.now c.args.first c.index-bands-first.result no_band
      (slice_get_read c.args.bands.now (length c.args.bands.now) c.args.first c.index-bands-first.result refl c.requires.some c.index-bands-first.is))

  begun : IsBegun g.row.Q (narrow_form c.args.form) c.args.cube.now c.args.bands.now c.args.first c.args.y c.args.origin c.args.last
      c.constants_of-constants.result c.fill_room.new.room.above c.fill_room.new.room.numbers (lower_of c.fill_room.new.room.lower) c.fill_room.new.room.own
      c.fill_room.new.room.weights
  begun =
      let base = rw here at c.constants_of-constants.ensures in record {
        few = c.requires.pairs.1;
        pairs = c.requires.pairs.0;
        some = c.requires.some;
        row = c.requires.row;
        steps = c.requires.last;
        inside = c.requires.inside.1;
        stand = c.requires.stand;
        ahead = c.requires.ahead;
        form = c.requires.form;
        made = base.predictor;
        of-kind = base.kind;
        of-columns = base.columns;
        filled = c.fill_room.ensures c.if-not-fill_room.false;
      }

pub invert_steps-requires-clause-omega : goal.invert_steps-requires-clause-omega
invert_steps-requires-clause-omega g c b fits exists =
    omega_same (begun g (goal.at.invert_steps-requires-clause-omega g c).After-ended_of-lanes) c.requires.inverting.2 (c.args.first + b) exists

pub invert_steps-requires-clause-weights_in : goal.invert_steps-requires-clause-weights_in
invert_steps-requires-clause-weights_in g c = weights_small (begun g (goal.at.invert_steps-requires-clause-weights_in g c).After-ended_of-lanes) c.requires.inverting.2

pub end_lanes-requires-clause-lower_in : goal.end_lanes-requires-clause-lower_in
end_lanes-requires-clause-lower_in g c =
    subst (λ (rows : LowerRows). AreLowerBelow c.args.form.previous (2 ^ (c.args.form.step.bits + 2)) (lower_of rows))
    (sym (c.invert_steps.ensures.lower c.if-not-invert_steps.false)) (c.fill_room.ensures c.if-not-fill_room.false).lower_in

pub returns : goal.returns
returns g c said =
    let known = begun g (goal.at.returns g c).After-ended_of-lanes in
    let lanes = c.ended_of-lanes.ensures in let done = c.if-not-invert_steps.false in
    let did = rw lanes at c.invert_steps.ensures in let end = rw lanes at c.end_lanes.ensures in
    are_found known c.requires.inverting c.args.form.greatest_is c.requires.inside.0 c.requires.begun
    (λ p d l. did.inverted done p (settings known) d c.args.y c.args.last l (omega arith))
    (λ p d l. end.inverted p (settings known) d c.args.first c.args.y c.args.origin (rw (did.above done, did.lower done) l))
    (λ p d l. end.kept p (settings known) d c.args.first c.args.y c.args.origin (rw (did.above done, did.lower done) l))
    end.numbers_in end.ends_in end.weights_in (rw lanes at c.collect.ensures)
