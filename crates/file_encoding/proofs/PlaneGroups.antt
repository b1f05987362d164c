-- A group of bands whose planes were handed over is sent.
use Rattle.std.proofs.Common.{◌≡◌, ◌+◌, ◌-◌, ◌*◌, ◌^◌, ◌<◌, ◌≤◌, ℕ, zero, suc, min, List, [], ◌∷◌, ◌++◌, length, take, drop, refl, sym, ap, ap₂, ◌∙◌, subst, arith}
use Rattle.std.proofs.Common.{length-append, length-drop, append_assoc, take_all}
use Rattle.std.specs.List.{flat_map, AllByRecursion}
use Rattle.std.proofs.lemmas.List.{drop-drop, drop_all, length-map}
use Rattle.std.proofs.lemmas.Nat.{mul-le}
use Rattle.std.proofs.lemmas.Slice.{drop-put_mid}
use borrow.Rule.Slice.PartMut.{put_mid}
use Rattle.cube_core.specs.Shape.{sample_count}
use Rattle.cube_core.specs.Image.{Image, IsCube}
use Rattle.cube_core.specs.Order.{from, upto}
use Rattle.cube_core.proofs.Lists.{length-from}
use Rattle.header_bits.specs.declared.params.Params.{Params}
use Rattle.header_bits.proofs.Items.{all_drop, all_first, all_last, all_take}
use Rattle.sample_prediction.specs.Residual.{residuals}
use Rattle.predict_core.specs.Following.{PredictorState}
use Rattle.predict_core.proofs.OneCube.{residuals_inside}
use Rattle.file_encoding.specs.Ends.{FileEncoderState, CodesAll, HasCoded, MayCodeAll}
use Rattle.file_encoding.specs.Own.{own_residuals, rows_of}
use Rattle.file_encoding.specs.Walks.{AreAt, bands_of}
use Rattle.file_encoding.specs.ByPlanes.{AreHanded, ArePlanesInRange, ArePlanesUnderWay, HasPlanesOf, IsGroupWhole, IsRow, PlaneEncoderState}
use Rattle.file_encoding.specs.ByPlanes.{end_of_group, image_of_planes, least_kept, most_at_once, plane_size, planes_of}
use Rattle.file_encoding.proofs.ByPlanes.{planes_are_cube, planes_in_range, planes_listed}
use Rattle.file_encoding.proofs.Encoding.{all_residuals, length-all, own_all}
use Rattle.file_encoding.proofs.Sending.{Pieces, bands_put, next_bands, piece_rest}

-- ---- a group is whole

take_from : (a n m : ℕ) → n ≤ m → take n (from a m) ≡ from a n
take_from a zero m le = refl
take_from a (suc n) zero le = absurd (omega (arith, le))
take_from a (suc n) (suc m) le = ap (λ ks. a ∷ ks) (take_from (suc a) n m (omega (arith, le)))

drop_from : (a n m : ℕ) → n ≤ m → drop n (from a m) ≡ from (a + n) (m - n)
drop_from a zero m le = ap₂ from (omega arith) (omega arith)
drop_from a (suc n) zero le = absurd (omega (arith, le))
drop_from a (suc n) (suc m) le = drop_from (suc a) n m (omega (arith, le)) ∙ ap₂ from (omega arith) (omega arith)

drop_upto : (n m : ℕ) → n ≤ m → drop n (upto m) ≡ from n (m - n)
drop_upto n m le = drop_from 0 n m le ∙ ap (λ a. from a (m - n)) (omega arith)

module _ (p : Params) (e : PlaneEncoderState) (whole : IsGroupWhole p e) where
  abbrev under : AreHanded p e
  under = whole.handed

  abbrev size : ℕ
  size = plane_size p.shape

  abbrev next : ℕ
  next = end_of_group p e.first

  abbrev count : ℕ
  count = next - e.first

  abbrev image : Image
  image = image_of_planes p.shape p.kind e.offsets

  pub next_in : (e.first < next) × (next ≤ p.shape.bands)
  next_in = (omega (arith, whole.more), omega arith)

  all_size : length e.offsets ≡ next * size
  all_size =
      let same : next * p.shape.rows * p.shape.columns ≡ next * size = grind arith in
      under.size ∙ ap (λ n. n * p.shape.columns) whole.whole ∙ same

  pub count_most : count * size ≤ length e.planes
  count_most =
      let most : count * size ≤ min most_at_once p.shape.bands * size = mul-le count size (min most_at_once p.shape.bands) size (omega (arith, whole.more)) (omega arith) in
      omega (arith, most, under.planes.room)

  -- its planes and the previous ones
  kept_size : length e.offsets - e.first * size ≡ count * size
  kept_size =
      let ends : count + e.first ≡ next = omega (arith, whole.more) in
      let split : (count + e.first) * size ≡ count * size + e.first * size = grind arith in
      let long : next * size ≡ count * size + e.first * size = ap (λ n. n * size) (sym ends) ∙ split in
      omega (arith, long, all_size)

  pub own_planes : HasPlanesOf p.shape e.offsets e.first e.planes count
  own_planes =
      let long : length (drop (e.first * size) e.offsets) ≡ count * size = length-drop (e.first * size) e.offsets ∙ kept_size in
      planes_listed p.shape e.offsets e.planes e.first count
      (ap (λ n. take n e.planes) (sym kept_size) ∙ under.planes.kept whole.more
      ∙ sym (take_all (count * size) (drop (e.first * size) e.offsets) (omega (arith, long))))

  pub own_in_range : ArePlanesInRange p e.planes count
  own_in_range = planes_in_range p e.offsets e.planes e.first count under.range own_planes

  pub previous_in_range : ArePlanesInRange p e.previous (e.first - least_kept p e.first)
  previous_in_range = planes_in_range p e.offsets e.previous (least_kept p e.first) (e.first - least_kept p e.first) under.range under.planes.previous

  -- the bands of the group
  pub group_bands : (n : ℕ) → n ≡ count → bands_of (take n (drop e.first e.bands)) ≡ from e.first count
  group_bands n is =
      next_bands e.bands e.bands e.first n count is refl
      ∙ ap (λ zs. take count (drop e.first zs)) under.planes.own
      ∙ ap (λ zs. take count zs) (drop_upto e.first p.shape.bands under.planes.band)
      ∙ take_from e.first count (p.shape.bands - e.first) (omega arith)

  pub group_fresh : (n : ℕ) (c : Image) → AreAt p c 0 (take n (drop e.first e.bands))
  group_fresh n c = all_take _ n (drop e.first e.bands) (under.planes.fresh c)

  pub all_bands : length e.bands ≡ p.shape.bands
  all_bands = sym (length-map e.bands (λ b. b.band)) ∙ ap (λ (zs : List ℕ). length zs) under.planes.own ∙ length-from 0 p.shape.bands

  -- ---- the residuals

  cube : IsCube image
  cube = planes_are_cube p.shape e.offsets p.kind under.range under.lawful.sizes under.lawful.kind

  abbrev planes : ℕ → List ℕ
  planes z = rows_of p image (z ∷ [])

  whole_is : residuals p image ≡ planes_of p image p.shape.bands
  unfolding image_of_planes
  whole_is =
      sym (subst (λ order. own_residuals p image 0 [] order ≡ residuals p image) under.order (all_residuals p image under.lawful.order refl))
      ∙ ap (λ zs. flat_map (λ z. rows_of p image (z ∷ [])) zs) (own_all (upto p.shape.bands))

  next_planes : Pieces (planes_of p image p.shape.bands) (planes_of p image e.first) (flat_map planes (from e.first count)) (planes_of p image (e.first + count))
  next_planes = piece_rest planes e.first count p.shape.bands (omega (arith, whole.more))

  split : residuals p image ≡ planes_of p image e.first ++ (flat_map planes (from e.first count) ++ next_planes.tail)
  split = whole_is ∙ next_planes.whole ∙ ap (λ v. v ++ next_planes.tail) next_planes.more
      ∙ append_assoc (planes_of p image e.first) (flat_map planes (from e.first count)) next_planes.tail

  pub may_send : MayCodeAll e.end (flat_map planes (from e.first count))
  unfolding image_of_planes
  may_send =
      let done : List ℕ = planes_of p image e.first in
      let then : List ℕ = flat_map planes (from e.first count) in
      let long : length (residuals p image) ≡ sample_count p.shape = length-all p image under.lawful.order refl in
      let parts : length (residuals p image) ≡ length done + (length then + length next_planes.tail) =
      ap length split ∙ length-append done (then ++ next_planes.tail) ∙ ap (λ n. length done + n) (length-append then next_planes.tail) in
      record {
        params = p;
        numbers = done;
        lawful = under.lawful;
        coded = under.planes.coded;
        more = omega (arith, long, parts);
        range = all_first _ then next_planes.tail (all_last _ done (then ++ next_planes.tail) (subst (AllByRecursion (λ v. v < 2 ^ p.kind.bits)) split (residuals_inside p image under.lawful.order cube)));
      }

  coded_after : {end : FileEncoderState} → CodesAll e.end end (flat_map planes (from e.first count)) → HasCoded p end (planes_of p image next)
  coded_after {end = end} codes =
      let ends : e.first + count ≡ next = omega (arith, whole.more) in
      subst (HasCoded p end) (sym next_planes.more ∙ ap (planes_of p image) ends) (codes p (planes_of p image e.first) under.planes.coded)

  -- ---- the state after it

  nothing_more : (ns : List ℕ) → take (length e.offsets - next * size) ns ≡ drop (next * size) e.offsets
  nothing_more ns =
      let none : length e.offsets - next * size ≡ 0 = omega (arith, all_size) in
      ap (λ n. take n ns) none ∙ sym (drop_all (next * size) e.offsets (omega (arith, all_size)))

  pub group_sent : (new : PlaneEncoderState) (n : ℕ) (sub : List PredictorState) → n ≡ count → length new.planes ≡ length e.planes
      → length new.previous ≡ length e.previous → HasPlanesOf p.shape e.offsets (least_kept p next) new.previous (next - least_kept p next)
      → new.y ≡ e.y → new.offsets ≡ e.offsets → new.first ≡ next → IsRow p new.present → IsRow p new.above → new.bands ≡ put_mid e.first n e.bands sub
      → bands_of sub ≡ bands_of (take n (drop e.first e.bands)) → CodesAll e.end new.end (flat_map planes (from e.first count)) → ArePlanesUnderWay p new
  group_sent new n sub is long previous_long previous y_is offsets_are first_is present above bands_are same codes =
      let sub_size : length sub ≡ n =
      sym (length-map sub (λ b. b.band)) ∙ ap (λ (zs : List ℕ). length zs) (same ∙ group_bands n is) ∙ length-from e.first count ∙ sym is in
      let ends : e.first + n ≤ next = omega (arith, is, whole.more) in
      let rest : drop next new.bands ≡ drop next e.bands = ap (drop next) bands_are ∙ drop-put_mid e.first n e.bands sub next ends (omega (arith, all_bands, under.planes.band)) sub_size in
      let start : drop (next - e.first) (drop e.first e.bands) ≡ drop next e.bands =
      let place : e.first + (next - e.first) ≡ next = omega (arith, whole.more) in
      drop-drop (next - e.first) e.first e.bands ∙ ap (λ k. drop k e.bands) place in
      record {
        lawful = under.lawful;
        order = under.order;
        row = rw y_is under.row;
        size = rw (offsets_are, y_is) under.size;
        range = rw offsets_are under.range;
        planes = record {
          band = omega (arith, first_is);
          begun = rw (first_is, y_is) (omega (arith, whole.whole));
          room = long ∙ under.planes.room;
          kept = λ some. rw (first_is, offsets_are) (nothing_more new.planes);
          previous_room = omega (arith, previous_long, under.planes.previous_room);
          previous = rw (first_is, offsets_are) previous;
          present = present;
          above = above;
          own = ap bands_of bands_are ∙ bands_put e.bands e.bands sub e.first n refl same ∙ under.planes.own;
          fresh = λ c. rw first_is (subst (AreAt p c 0) (start ∙ sym rest) (all_drop _ (next - e.first) (drop e.first e.bands) (under.planes.fresh c)));
          coded = rw (first_is, offsets_are) (coded_after codes);
        };
        in_hand = λ some.
            let up : suc next * p.shape.rows ≤ end_of_group p next * p.shape.rows =
            mul-le (suc next) p.shape.rows (end_of_group p next) p.shape.rows (omega (arith, some, first_is)) (omega arith) in
            let after : suc next * p.shape.rows ≡ next * p.shape.rows + p.shape.rows = grind arith in
            rw (first_is, y_is) (omega (arith, up, after, whole.whole, under.lawful.sizes.rows));
      }
