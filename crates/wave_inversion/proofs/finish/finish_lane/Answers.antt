use Rattle.std.proofs.Common.{◌≡◌, ◌∙◌, ◌+◌, ◌-◌, ◌*◌, ◌≤◌, ℕ, List, [], sym, ap, ap₂, arith, length, take, drop, length-take, length-drop, get_or, rules}
use Rattle.std.proofs.lemmas.List.{get_or-take, get_or-drop}
use Rattle.std.proofs.lemmas.Option.{slice_get-get_or, get_or_from_slice_get}
use Rattle.sample_prediction.specs.Prediction.{weight_vector}
use Rattle.predict_core.specs.Following.{no_band}
use Rattle.wave_inversion.specs.Inversion.{band_at}
use Rattle.predict_core.specs.Offsets.{number_at}
use Rattle.wave_inversion.specs.WaveLanes.{column_at, first_column, first_step}
use Rattle.wave_inversion.specs.WaveTiles.{end_column}
use Rattle.wave_inversion.proofs.Inverted.{known_inverted}
use Rattle.wave_inversion.proofs.finish.finish_lane.Goals as goal

pub returns-clause-inverted : goal.returns-clause-inverted
returns-clause-inverted g c p d inv lines weights =
    let z : ℕ = c.args.first + c.args.b in let from : ℕ = first_step c.args.origin c.args.b in let x : ℕ = first_column c.args.origin c.args.b in
    let columns : ℕ = c.args.cube.now.shape.columns in let end : ℕ = end_column columns c.args.origin c.args.last c.args.b in let n : ℕ = end - x in
    let ordered : x ≤ end = omega (arith, c.requires.last.0, c.requires.inside) in
    let begins : c.saturating_sub-from.result ≡ c.args.b - c.args.origin = c.saturating_sub-from.ensures in
    let stands : c.saturating_sub-x.result ≡ c.args.origin - c.args.b = c.saturating_sub-x.ensures in
    let ends : c.end_of.result ≡ end = c.end_of.ensures in
    let here : get_or c.args.bands.now z c.index-bands-z.result ≡ band_at c.args.bands.now z =
    get_or_from_slice_get c.args.bands.now z (band_at c.args.bands.now z) c.index-bands-z.result (slice_get-get_or c.args.bands.now z no_band c.requires.band) in
    let old = inv.each z (rw inv.many at c.requires.band) in
    let offsets : List ℕ = get_or c.args.found.now.offsets c.args.b [] in let m : ℕ = from + n - from in
    let many : length offsets ≡ 64 = search rules in
    let long : length (take m (drop from offsets)) ≡ n = omega (arith, length-take {A = ℕ}, length-drop {A = ℕ}, many, c.requires.last) in
    let did = rw (here, stands, ends) at c.advance.ensures in let written = rw (begins, stands, ends) at c.set_run.ensures in
    let moved = did.moved in
    known_inverted inv (inv.alike.shape ∙ inv.cube.shape) c.requires.place (omega (arith, ordered, c.requires.inside)) c.requires.next moved written long
    (λ i lt.
    let column : column_at c.args.origin (from + i) c.args.b ≡ x + i = omega arith in
    get_or-take m (drop from offsets) i 0 (omega (arith, lt)) ∙ get_or-drop from offsets i 0
    ∙ lines (from + i) (omega arith) (omega (arith, lt, c.requires.last)) (omega (arith, lt, column)) ∙ ap (number_at d z c.args.y) column)
    (record {
      made = record {
        predictor = moved.predictor ∙ old.follows.made.predictor;
        shape = moved.shape ∙ old.follows.made.shape;
        kind = moved.kind ∙ old.follows.made.kind;
      };
      weights = (let time : c.args.y * columns + end ≡ c.args.y * columns + x + n = omega (arith, ordered) in
          did.weights ∙ weights
          ∙ ap₂ (weight_vector p d) (sym (moved.band ∙ old.band)) (time ∙ ap (λ (t : ℕ). t + n) (sym c.requires.next) ∙ sym moved.t));
    })
