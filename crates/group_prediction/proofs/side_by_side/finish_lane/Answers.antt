use Rattle.std.proofs.Common.{◌≡◌, sym, ap, get_or, set, get_or-set_same}
use Rattle.std.proofs.lemmas.Option.{slice_get-get_or, get_or_from_slice_get}
use Rattle.predict_core.specs.Following.{no_band}
use Rattle.group_prediction.proofs.side_by_side.finish_lane.Goals as goal

pub returns : goal.returns
returns g c =
    let told = c.requires.predicted in let same = get_or-set_same c.args.bands.now c.args.k c.finish_band.new.band no_band c.requires.band in
    let here : get_or c.args.bands.now c.args.k c.index-bands-k.result ≡ get_or c.args.bands.now c.args.k no_band =
    get_or_from_slice_get c.args.bands.now c.args.k (get_or c.args.bands.now c.args.k no_band) c.index-bands-k.result
    (slice_get-get_or c.args.bands.now c.args.k no_band c.requires.band) in
    let held = rw here at c.finish_band.ensures.held in record {
      held = rw same (held told.begun told.begun_is told.followed);
      others = ap (λ v. set c.args.bands.now c.args.k v) (sym same);
    }
