-- The walk from tile to tile: what is known where the next one begins, and after it.
use mathlib.Core.List.{map-append}
use Rattle.std.specs.List.{slice_get, slice_index}
use Rattle.std.proofs.Common.{◌≡◌, ◌+◌, ◌*◌, ◌/◌, ◌%◌, ◌<◌, ℕ, Bool, List, ◌++◌, length, refl, ap, ◌∙◌, length-append, arith, ap₂, ◌-◌, ◌≤◌, [], take, drop}
use Rattle.std.proofs.Common.{Some, sym, append_assoc, length-take, inl, inr, ℤ, ◌-ℤ◌, unsigned_abs}
use Rattle.std.proofs.lemmas.Bool.{cases_lt}
use Rattle.std.proofs.lemmas.List.{length-map}
use Rattle.std.proofs.lemmas.Nat.{row_fits, mul-le, div-mul-add, mod-mul-add}
use Rattle.std.proofs.Math.Path.{fun_ext}
use Rattle.std.proofs.Math.Nat.{div-one, mod-one}
use Rattle.cube_core.specs.Order.{IsOrder, IsPlaceOf, places, place_index}
use Rattle.cube_core.specs.Tiles.{place_in}
use Rattle.cube_core.specs.declared.order.Place.{Place}
use Rattle.cube_core.specs.Shape.{sample_count}
use Rattle.cube_core.specs.Kind.{SampleKind, smin}
use Rattle.cube_core.specs.Image.{Image}
use Rattle.cube_core.proofs.Come.{time_of}
use Rattle.cube_core.proofs.Tiles.{nth, item_in, within}
use Rattle.cube_core.proofs.Orders.{length-places}
use Rattle.cube_core.proofs.Keys.{index_of_item, order_is_by_key}
use Rattle.cube_core.proofs.Lists.{map_taken, map_taken_same}
use Rattle.header_bits.specs.declared.params.Params.{Params}
use Rattle.header_bits.specs.Lawful.{IsLawful}
use Rattle.sample_adaptive.proofs.Times.{number_of_place}
use Rattle.predict_core.specs.Offsets.{number_at}
use Rattle.predict_core.proofs.Walking.{all_places, gone_all, gone_by, gone_count, goes_by, next_place}
use Rattle.predict_core.proofs.Walking.{tile_fits, tile_item}
use Rattle.file_decoding.specs.declared.tile.Tile.{Tile}
use Rattle.file_decoding.specs.declared.decoder.EntropyDecoder.{EntropyDecoder}
use Rattle.file_decoding.specs.Decoding.{AreEach, MayAskEach, MayAskColumn, GivesAll, HasGiven, TakesResiduals, numbers_at}
use Rattle.file_decoding.specs.Tiles.{IsInOrder, HasStored, start_of, band_in, time_in}
use Rattle.file_decoding.proofs.Givers.{given_whole}

-- ---- the numbers of its places

pub numbers_in : (p : Params) (tile : Tile) (t n : ℕ) → IsOrder p.shape p.order → IsInOrder p tile → n ≡ start_of p tile → t ≡ time_of p.shape tile.place
    → AreEach p n (band_in tile) (time_in tile t) (tile.columns * tile.bands)
numbers_in p tile t n lawful is at time k numbers lt long =
    let item = ap (slice_get (places p.shape p.order)) (long ∙ ap (λ (m : ℕ). m + k) at) ∙ item_in lawful is k lt in
    (nth tile.place tile.bands k, item, refl, omega (arith, time, number_of_place p.shape p.order numbers (nth tile.place tile.bands k) lawful item))

-- a tile of one band is a run
pub run_bands : (tile : Tile) → tile.bands ≡ 1 → band_in tile ≡ (λ i. tile.place.z)
run_bands tile one = fun_ext (λ i. rw one (let none = mod-one i in omega (arith, none)))

pub run_times : (tile : Tile) (t : ℕ) → tile.bands ≡ 1 → time_in tile t ≡ (λ i. t + i)
run_times tile t one = fun_ext (λ i. rw one (ap (λ (k : ℕ). t + k) (div-one i)))

-- a column of a tile, after those before it
abbrev pub as_column : (tile : Tile) (t : ℕ) {index count : ℕ} {d : EntropyDecoder} (m : MayAskEach d (band_in tile) (time_in tile t) index count) (i size : ℕ)
    (mid : EntropyDecoder) (unread now : List Bool) (xs : List ℕ) → i < tile.columns → length xs ≡ i * tile.bands → size ≡ tile.bands
    → count ≡ tile.columns * tile.bands → GivesAll m.params mid m.numbers m.bits unread now xs
    → MayAskColumn mid tile.place.z (t + i) (index + i * tile.bands) size
as_column tile t m i size mid unread now xs column before whole all g = record {
  params = m.params;
  numbers = m.numbers ++ xs;
  bits = m.bits ++ g.1;
  lawful = m.lawful;
  given = g.3;
  stands = omega (arith, m.stands, before, length-append m.numbers xs);
  ask = λ j numbers lt long.
      let here : j < tile.bands = omega (arith, lt, whole) in
      let inside = row_fits i tile.bands tile.columns tile.bands column (omega arith) in
      rw (mod-mul-add i tile.bands j here, div-mul-add i tile.bands j here) at
      (m.ask (i * tile.bands + j) numbers (omega (arith, inside, here, all)) (omega (arith, long, before, length-append m.numbers xs)));
}

-- a place by how far it stands from another of its row
place_again : (a q : Place) → a.z ≤ q.z → q.y ≡ a.y → a.x ≤ q.x → place_in a (q.x - a.x) (q.z - a.z) ≡ q
place_again a q low row first =
    let z : a.z + (q.z - a.z) ≡ q.z = omega (arith, low) in let x : a.x + (q.x - a.x) ≡ q.x = omega (arith, first) in rw (z, x, ← row) refl

-- ---- where a tile begins

-- the reading end has given the numbers that the image holds at the places gone by, and has read the bits from `start` on
pub record IsWalked (p : Params) (c : Image) (left : List Place) (d : EntropyDecoder) (start now : List Bool) : Type 0 where
  pub shape : c.shape ≡ p.shape
  pub kind : c.kind ≡ p.kind
  pub rest : left ≡ drop (gone_count p left) (places p.shape p.order)
  pub read : List Bool
  pub text : start ≡ read ++ now
  pub given : HasGiven p d (numbers_at c (gone_by p left)) read

-- before the first place
pub walked_first : {p : Params} {c : Image} {d : EntropyDecoder} (start : List Bool) → IsLawful p → c.shape ≡ p.shape → c.kind ≡ p.kind → HasGiven p d [] []
    → IsWalked p c (places p.shape p.order) d start start
walked_first {p} start lawful shape kind given =
    let none : gone_count p (places p.shape p.order) ≡ 0 = omega (arith, length-places p.shape p.order lawful.order) in
    record { shape = shape; kind = kind; rest = rw none refl; read = []; text = refl; given = rw none given }

module _ {p : Params} {c : Image} {left : List Place} {d : EntropyDecoder} {start now : List Bool} (lawful : IsLawful p) (w : IsWalked p c left d start now) where
  pub numbers_long : length (numbers_at c (gone_by p left)) ≡ gone_count p left
  numbers_long =
      let all = all_places p lawful.order w.rest in
      omega (
        arith,
        length-map (gone_by p left) (λ q. number_at c q.z q.y q.x),
        length-take {A = Place},
        all,
        length-places p.shape p.order lawful.order,
      )

  pub walked_whole : left ≡ [] → TakesResiduals p c start now
  walked_whole none = record {
    shape = w.shape;
    kind = w.kind;
    body = w.read;
    coded = rw (gone_all p lawful.order) at (given_whole p d (numbers_at c (gone_by p [])) w.read lawful (rw none at w.given)
        (let long = rw none at numbers_long in omega (arith, long)));
    text = w.text;
  }

  -- the tile that comes next
  module _ {tile : Tile} (is : IsInOrder p tile) (next : slice_get left 0 ≡ Some tile.place) where
    pub at : gone_count p left ≡ start_of p tile
    at = sym (next_place p lawful.order w.rest tile.place next).index

    pub fits : (1 ≤ tile.columns * tile.bands) × (tile.columns * tile.bands ≤ length left)
    fits = (mul-le 1 1 tile.columns tile.bands is.some.0 is.some.1, tile_fits p lawful.order w.rest is next)

    -- its residuals may be asked for
    abbrev pub may_read : (t index count : ℕ) → t ≡ time_of p.shape tile.place → index ≡ sample_count p.shape - length left
        → count ≡ tile.columns * tile.bands → MayAskEach d (band_in tile) (time_in tile t) index count
    may_read t index count time stands whole = record {
      params = p;
      numbers = numbers_at c (gone_by p left);
      bits = w.read;
      lawful = lawful;
      given = w.given;
      stands = omega (arith, stands, numbers_long);
      ask = rw whole (numbers_in p tile t _ lawful.order is (numbers_long ∙ at) time);
    }

    -- the residuals of the tile were given and stored
    module _ {e : Image} (new : EntropyDecoder) {later : List Bool} (deltas : List ℕ) (stored : HasStored c e tile deltas tile.bands)
        (gives : GivesAll p new (numbers_at c (gone_by p left)) w.read now later deltas) (long : length deltas ≡ tile.columns * tile.bands) where
      value : (k : ℕ) → k < length deltas → (q : Place) × (slice_get left k ≡ Some q) × (number_at e q.z q.y q.x ≡ slice_index deltas k)
      value k lt =
          let v = within tile.columns tile.bands k is.some.1 (omega (arith, lt, long)) in (
            _,
            tile_item p lawful.order w.rest is next k (omega (arith, lt, long)),
            stored.stored _ _ v.column v.band ∙ ap (slice_index deltas) v.split,
          )

      -- nothing changes at places before the tile
      kept : (i : ℕ) (q : Place) → i < gone_count p left → slice_get (places p.shape p.order) i ≡ Some q → number_at c q.z q.y q.x ≡ number_at e q.z q.y q.x
      kept i q lt item =
          let place : IsPlaceOf c.shape q = rw w.shape ((order_is_by_key p.shape p.order lawful.order).only i q item) in
          let index = index_of_item p.shape p.order q i lawful.order item in
          let same = stored.others q.z q.y q.x place (λ low high row first. elim (cases_lt q.x (tile.place.x + tile.columns)) [
            | inr beyond ↦ beyond
            | inl inside ↦
                (let there = is.index (q.x - tile.place.x) (q.z - tile.place.z) (omega (arith, inside, first)) (omega (arith, low, high)) in
                let is_q : place_in tile.place (q.x - tile.place.x) (q.z - tile.place.z) ≡ q = place_again _ q low row first in
                absurd (let e = ap (place_index p.shape p.order) is_q in omega (arith, e, there, index, lt, at)))
          ]) in
          ap₂ (λ (v : ℤ) (k : SampleKind). unsigned_abs (v -ℤ smin k)) same stored.alike.kind

      pub walked_more : IsWalked p e (drop (length deltas) left) new start later
      walked_more =
          let goes = goes_by p lawful.order w.rest (length deltas) (omega (arith, long, fits.1)) in
          let before = map_taken_same (λ q. number_at c q.z q.y q.x) (λ q. number_at e q.z q.y q.x) (gone_count p left) (places p.shape p.order) kept in
          let all = ap (numbers_at e) goes.gone ∙ map-append _ (gone_by p left) (take (length deltas) left)
          ∙ ap₂ (λ (ms ns : List ℕ). ms ++ ns) (sym before) (map_taken _ _ _ value) in
          record {
            shape = sym stored.alike.shape ∙ w.shape;
            kind = sym stored.alike.kind ∙ w.kind;
            rest = goes.others;
            read = w.read ++ gives.1;
            text = w.text ∙ ap (λ (x : List Bool). w.read ++ x) gives.2 ∙ sym (append_assoc w.read gives.1 later);
            given = rw all gives.3;
          }
