-- One step of the walk along the encoding order.
use Rattle.std.proofs.Common.{◌≡◌, ◌≢◌, ◌+◌, ◌*◌, ◌-◌, ◌<◌, ◌≤◌, ℕ, List, [], ◌∷◌, ◌++◌, length, take, drop, set, Some, refl, sym, ap, ◌∙◌, subst, inl, inr}
use Rattle.std.proofs.Common.{length-drop, arith}
use Rattle.std.proofs.lemmas.List.{length-set, length-map, map-append, take_all, drop-drop}
use Rattle.std.proofs.Math.Seq.{take-add}
use Rattle.std.proofs.lemmas.Nat.{row_fits}
use Rattle.std.proofs.Math.Arith.{digits_lt}
use Rattle.std.specs.List.{slice_get}
use Rattle.cube_core.specs.declared.order.Place.{Place}
use Rattle.cube_core.specs.Shape.{Sizes, sample_count}
use Rattle.cube_core.specs.Image.{Image}
use Rattle.cube_core.specs.Order.{IsOrder, places, place_index}
use Rattle.cube_core.specs.Tiles.{IsTiled}
use Rattle.cube_core.proofs.Keys.{index_of_item, order_is_by_key}
use Rattle.cube_core.proofs.Lists.{get_set, get_drop, get-drop}
use Rattle.cube_core.proofs.Orders.{StandsAt, length-places}
use Rattle.cube_core.proofs.Come.{time_of, come_start, come_here, come_step, come_other}
use Rattle.cube_core.proofs.Tiles.{nth, item_in, room_for, time_at, come_within, come_beside}
use Rattle.header_bits.specs.declared.params.Params.{Params}
use Rattle.predict_core.specs.Following.{PredictorState, Follows, MovesOn, MovesBy}
use Rattle.sample_prediction.specs.Residual.{mapped_residual, residuals}
use Rattle.predict_core.specs.Walked.{IsAlong, AreAlong, residuals_at}

pub residuals_push : (p : Params) (c : Image) (gone : List Place) (q : Place)
    → residuals_at p c (gone ++ q ∷ []) ≡ residuals_at p c gone ++ mapped_residual p c q.z (q.y * c.shape.columns + q.x) ∷ []
residuals_push p c gone q = map-append _ gone (q ∷ [])

pub length-residuals_at : (p : Params) (c : Image) (gone : List Place) → length (residuals_at p c gone) ≡ length gone
length-residuals_at p c gone = length-map gone _

-- ---- the bands

-- a band at its first place
pub along_first : (p : Params) (c : Image) (z : ℕ) (b : PredictorState) → b.band ≡ z → b.t ≡ 0 → Follows p b c → IsAlong p c 0 z b
along_first p c z b band first follows =
    record { band = band; inside = omega (arith, first); follows = follows; come = rw first (come_start p.shape p.order z) }

-- what is known of the band that comes next
pub band_here : (p : Params) (c : Image) (i : ℕ) (bands : List PredictorState) (q : Place) (b : PredictorState) → IsOrder p.shape p.order → AreAlong p c i bands
    → StandsAt p.shape p.order q i → slice_get bands q.z ≡ Some b → IsAlong p c i q.z b × (b.t ≡ time_of p.shape q)
band_here p c i bands q b lawful all stands e =
    let along = all q.z stands.place.band b e in (along, sym (come_here p.shape p.order q.z i b.t q lawful along.come stands refl))

-- one place more, and with it another image, which the other bands follow as well
along_more : (p : Params) (c e : Image) (i : ℕ) (bands : List PredictorState) (q : Place) (b d : PredictorState)
    → IsOrder p.shape p.order → AreAlong p c i bands → StandsAt p.shape p.order q i → slice_get bands q.z ≡ Some b → MovesOn b d → Follows p d e
    → ((z : ℕ) (f : PredictorState) → z < p.shape.bands → z ≢ q.z → IsAlong p c i z f → Follows p f e) → AreAlong p e (i + 1) (set bands q.z d)
along_more p c e i bands q b d lawful all stands at moves follows others-follow z lt f g =
    elim (get_set bands q.z z d f g) [ inl (h, k) ↦ rw (h, k) own | inr (h, k) ↦ other h (all z lt f k) ]
  where
    own : IsAlong p e (i + 1) q.z d
    own =
        let here = band_here p c i bands q b lawful all stands at in
        let within : q.y * p.shape.columns + q.x < p.shape.rows * p.shape.columns = digits_lt stands.place.row stands.place.column in record {
          band = moves.band ∙ here.0.band;
          inside = omega (arith, moves.t, here.1, within);
          follows = follows;
          come = rw moves.t (come_step p.shape p.order q.z i b.t q lawful here.0.come stands refl);
        }

    other : z ≢ q.z → IsAlong p c i z f → IsAlong p e (i + 1) z f
    other h before = record {
      band = before.band;
      inside = before.inside;
      follows = others-follow z f lt h before;
      come = come_other p.shape p.order z i f.t q lawful before.come stands (λ r. h (sym r));
    }

-- after a tile
module _ {p : Params} {c : Image} {q : Place} {width depth z : ℕ} {f : PredictorState} (lawful : IsOrder p.shape p.order)
    (is : IsTiled p.shape p.order q width depth) (along : IsAlong p c (place_index p.shape p.order q) z f) where
  -- a band that has no place in it stands where it stood
  pub along_beside : (q.z ≤ z → q.z + depth ≤ z) → IsAlong p c (place_index p.shape p.order q + width * depth) z f
  along_beside apart = record { band = along.band; inside = along.inside; follows = along.follows; come = come_beside lawful is z _ along.come apart }

  -- and each of its bands as many places further as it has columns
  pub along_within : {e : Image} {g : PredictorState} → q.z ≤ z → z < q.z + depth → MovesBy width f g → Follows p g e
      → IsAlong p e (place_index p.shape p.order q + width * depth) z g
  along_within {g = g} low high moved follows =
      let row = row_fits _ p.shape.columns _ p.shape.columns is.place.row (omega arith) in
      let gone : g.t ≡ time_of p.shape q + width = omega (arith, moved.t, time_at lawful is z _ along.come low high) in record {
        band = moved.band ∙ along.band;
        inside = omega (arith, gone, row, is.columns);
        follows = follows;
        come = rw gone (come_within lawful is z _ along.come low high);
      }

-- ---- along the places that are left

-- how many places have gone by
abbrev pub gone_count : Params → List Place → ℕ
gone_count p left = sample_count p.shape - length left

abbrev pub gone_by : Params → List Place → List Place
gone_by p left = take (gone_count p left) (places p.shape p.order)

-- the places left are the last of the order, and each band has followed the image over those of its places that have gone by
pub record IsOnWalk (p : Params) (c : Image) (left : List Place) (bands : List PredictorState) : Type 0 where
  pub rest : left ≡ drop (gone_count p left) (places p.shape p.order)
  pub many : length bands ≡ p.shape.bands
  pub along : AreAlong p c (gone_count p left) bands

-- so many places more go by
pub record Goes (p : Params) (left : List Place) (k : ℕ) : Type 0 where
  pub count : gone_count p (drop k left) ≡ gone_count p left + k
  pub gone : gone_by p (drop k left) ≡ gone_by p left ++ take k left
  pub others : drop k left ≡ drop (gone_count p (drop k left)) (places p.shape p.order)

module _ (p : Params) {left : List Place} (lawful : IsOrder p.shape p.order) (rest : left ≡ drop (gone_count p left) (places p.shape p.order)) where
  pub all_places : gone_count p left + length left ≡ sample_count p.shape
  all_places = omega (arith, ap length rest, length-drop (gone_count p left) (places p.shape p.order), length-places p.shape p.order lawful)

  pub goes_by : (k : ℕ) → k ≤ length left → Goes p left k
  goes_by k le =
      let count : gone_count p (drop k left) ≡ gone_count p left + k = omega (arith, le, all_places, length-drop k left) in record {
        count = count;
        gone = ap (λ (n : ℕ). take n (places p.shape p.order)) count ∙ take-add (gone_count p left) k (places p.shape p.order)
            ∙ ap (λ (ps : List Place). gone_by p left ++ take k ps) (sym rest);
        others = ap (drop k) rest ∙ drop-drop k (gone_count p left) (places p.shape p.order)
            ∙ ap (λ (n : ℕ). drop n (places p.shape p.order)) (omega (arith, count));
      }

  pub next_place : (q : Place) → slice_get left 0 ≡ Some q → StandsAt p.shape p.order q (gone_count p left)
  next_place q first =
      let item = sym (get-drop (places p.shape p.order) (gone_count p left)) ∙ ap (λ (ps : List Place). slice_get ps 0) (sym rest) ∙ first in
      record { place = (order_is_by_key p.shape p.order lawful).only _ q item; index = index_of_item p.shape p.order q _ lawful item }

  -- a tile that begins at the next place
  module _ {q : Place} {width depth : ℕ} (is : IsTiled p.shape p.order q width depth) (first : slice_get left 0 ≡ Some q) where
    pub tile_fits : width * depth ≤ length left
    tile_fits = omega (arith, room_for lawful is, (next_place q first).index, all_places)

    pub tile_item : (k : ℕ) → k < width * depth → slice_get left k ≡ Some (nth q depth k)
    tile_item k lt =
        ap (λ (ps : List Place). slice_get ps k) rest ∙ get_drop (places p.shape p.order) (gone_count p left) k
        ∙ ap (λ (n : ℕ). slice_get (places p.shape p.order) (n + k)) (sym (next_place q first).index) ∙ item_in lawful is k lt

pub record NextGoes (p : Params) (q : Place) (left rest : List Place) : Type 0 where
  pub stands : StandsAt p.shape p.order q (gone_count p left)
  pub below : gone_count p left < sample_count p.shape
  pub count : gone_count p rest ≡ gone_count p left + 1
  pub gone : gone_by p rest ≡ gone_by p left ++ q ∷ []
  pub others : rest ≡ drop (gone_count p rest) (places p.shape p.order)

pub next_goes : (p : Params) (q : Place) (left rest : List Place) → IsOrder p.shape p.order → left ≡ drop (gone_count p left) (places p.shape p.order)
    → left ≡ q ∷ rest → NextGoes p q left rest
next_goes p q left rest lawful is e =
    let here = rw e at is in let goes = goes_by p lawful here 1 (omega arith) in let all = all_places p lawful here in
    rw e (record { stands = next_place p lawful here q refl; below = omega arith; count = goes.count; gone = goes.gone; others = goes.others })

-- one step of the walk
pub on_walk_more : (p : Params) (c e : Image) (left rest : List Place) (bands : List PredictorState) (q : Place) (b d : PredictorState)
    → IsOrder p.shape p.order → IsOnWalk p c left bands → left ≡ q ∷ rest → slice_get bands q.z ≡ Some b → MovesOn b d → Follows p d e
    → ((z : ℕ) (f : PredictorState) → z < p.shape.bands → z ≢ q.z → IsAlong p c (gone_count p left) z f → Follows p f e) → IsOnWalk p e rest (set bands q.z d)
on_walk_more p c e left rest bands q b d lawful walk is band moves follows others =
    let next = next_goes p q left rest lawful walk.rest is in record {
      rest = next.others;
      many = length-set bands q.z d ∙ walk.many;
      along = subst (λ i. AreAlong p e i (set bands q.z d)) (sym next.count)
          (along_more p c e (gone_count p left) bands q b d lawful walk.along next.stands band moves follows others);
    }

pub on_walk_first : (p : Params) (c : Image) (bands : List PredictorState) → IsOrder p.shape p.order → length bands ≡ p.shape.bands → AreAlong p c 0 bands
    → IsOnWalk p c (places p.shape p.order) bands
on_walk_first p c bands lawful many along =
    let none : gone_count p (places p.shape p.order) ≡ 0 = omega (arith, length-places p.shape p.order lawful) in
    record { rest = rw none refl; many = many; along = subst (λ i. AreAlong p c i bands) (sym none) along }

-- all places have gone by
pub gone_all : (p : Params) → IsOrder p.shape p.order → gone_by p [] ≡ places p.shape p.order
gone_all p lawful = take_all (gone_count p []) (places p.shape p.order) (omega (arith, length-places p.shape p.order lawful))

-- the residuals of all places
pub residuals_whole : (p : Params) (c : Image) → IsOrder p.shape p.order → c.shape ≡ p.shape → residuals_at p c (gone_by p []) ≡ residuals p c
unfolding residuals
residuals_whole p c lawful shape = ap (residuals_at p c) (gone_all p lawful ∙ ap (λ (s : Sizes). places s p.order) (sym shape))
