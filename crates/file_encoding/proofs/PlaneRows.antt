-- Rows of planes are handed over, one after another.
use Rattle.std.proofs.Common.{◌≡◌, ◌+◌, ◌-◌, ◌*◌, ◌^◌, ◌<◌, ◌≤◌, ℕ, zero, suc, min, List, [], ◌∷◌, ◌++◌, length, take, drop, refl, sym, ap, ◌∙◌, subst, arith, inl, inr}
use Rattle.std.proofs.Common.{Some, length-append}
use Rattle.std.specs.List.{flat_map, slice_get, AllByRecursion}
use Rattle.std.proofs.lemmas.Bool.{cases_lt}
use Rattle.std.proofs.lemmas.List.{drop-append-le}
use Rattle.std.proofs.lemmas.Nat.{mul-le}
use Rattle.std.proofs.lemmas.Slice.{take-put_mid}
use borrow.Rule.Slice.PartMut.{put_mid}
use Rattle.cube_core.specs.declared.order.Order.TheVariants.{Bsq}
use Rattle.cube_core.specs.Image.{Image}
use Rattle.cube_core.specs.Order.{upto}
use Rattle.header_bits.specs.declared.params.Params.{Params}
use Rattle.header_bits.specs.Lawful.{IsLawful}
use Rattle.header_bits.proofs.Items.{all_append}
use Rattle.sample_prediction.specs.Residual.{residuals}
use Rattle.predict_core.specs.Following.{PredictorState}
use Rattle.predict_core.specs.Walked.{AreAlong}
use Rattle.file_format.specs.File.{file_of, file_of_residuals}
use Rattle.file_encoding.specs.Ends.{HasCoded}
use Rattle.file_encoding.specs.Own.{own_residuals, rows_of}
use Rattle.file_encoding.specs.ByPlanes.{AreHanded, ArePlanesUnderWay, HasPlanesOf, IsFileOfPlanes, IsRow, PlaneEncoderState}
use Rattle.file_encoding.specs.ByPlanes.{end_of_group, image_of_planes, least_kept, most_at_once, most_previous, plane_size, planes_of}
use Rattle.file_encoding.proofs.ByPlanes.{planes_still, planes_there, whole_planes}
use Rattle.file_encoding.proofs.Encoding.{all_fresh, all_residuals, none_left, own_all}

-- ---- before the first row

drop_none : (n : ℕ) → drop {A = ℕ} n [] ≡ []
drop_none zero = refl
drop_none (suc n) = refl

pub start_planes : (p : Params) (e : PlaneEncoderState) → IsLawful p → p.order ≡ Bsq → e.y ≡ 0 → e.offsets ≡ [] → e.first ≡ 0
    → length e.planes ≡ min most_at_once p.shape.bands * plane_size p.shape → most_previous p * plane_size p.shape ≤ length e.previous → IsRow p e.present → IsRow p e.above
    → length e.bands ≡ p.shape.bands → ((c : Image) → AreAlong p c 0 e.bands) → ((z : ℕ) (b : PredictorState) → slice_get e.bands z ≡ Some b → b.t ≡ 0)
    → HasCoded p e.end [] → ArePlanesUnderWay p e
start_planes p e lawful order y_is none first_is room previous present above many along first coded =
    let fresh = λ (c : Image). all_fresh p c e.bands many (along c) first in
    let no_rows : 0 * p.shape.rows ≡ 0 = grind arith in
    let nothing : 0 * p.shape.columns ≡ 0 = grind arith in
    let ends : 1 * p.shape.rows ≤ end_of_group p 0 * p.shape.rows = mul-le 1 p.shape.rows (end_of_group p 0) p.shape.rows (omega (arith, lawful.sizes.bands)) (omega arith) in
    record {
      lawful = lawful;
      order = order;
      row = omega (arith, y_is);
      size = rw (none, y_is) (sym nothing);
      range = rw none tt;
      planes = record {
        band = omega (arith, first_is);
        begun = rw (first_is, y_is) (omega (arith, no_rows));
        room = room;
        kept = λ some.
            let short : length e.offsets - e.first * plane_size p.shape ≡ 0 = omega (arith, ap (λ (ns : List ℕ). length ns) none) in
            ap (λ n. take n e.planes) short ∙ sym (ap (drop (e.first * plane_size p.shape)) none ∙ drop_none (e.first * plane_size p.shape));
        previous_room = previous;
        previous = λ k y x lt row column. absurd (omega (arith, lt, first_is));
        present = present;
        above = above;
        own = (fresh (image_of_planes p.shape p.kind e.offsets)).own ∙ own_all (upto p.shape.bands);
        fresh = λ c. rw first_is (fresh c).at;
        coded = rw first_is coded;
      };
      in_hand = λ some. rw (first_is, y_is) (omega (arith, ends, lawful.sizes.rows));
    }

-- ---- one row more

module _ (p : Params) (e : PlaneEncoderState) (samples : List ℕ) (under : ArePlanesUnderWay p e) (more : e.y < p.shape.bands * p.shape.rows)
    (size : length samples ≡ p.shape.columns) (range : AllByRecursion (λ v. v < 2 ^ p.kind.bits) samples) where
  abbrev first : ℕ
  first = e.first

  abbrev all : List ℕ
  all = e.offsets ++ samples

  pub first_more : first < p.shape.bands
  first_more = elim (cases_lt first p.shape.bands) [
    | inl lt ↦ lt
    | inr past ↦ absurd (
        let rows : p.shape.bands * p.shape.rows ≤ first * p.shape.rows = mul-le p.shape.bands p.shape.rows first p.shape.rows past (omega arith) in
        omega (arith, rows, more, under.planes.begun))
  ]

  -- the row's place among the planes of its group
  pub start_is : (e.y - first * p.shape.rows) * p.shape.columns ≡ length e.offsets - first * plane_size p.shape
  start_is =
      let before : ℕ = e.y - first * p.shape.rows in
      let there : before + first * p.shape.rows ≡ e.y = omega (arith, under.planes.begun) in
      let split : (before + first * p.shape.rows) * p.shape.columns ≡ before * p.shape.columns + first * plane_size p.shape = grind arith in
      let long : length e.offsets ≡ before * p.shape.columns + first * plane_size p.shape = under.size ∙ ap (λ n. n * p.shape.columns) (sym there) ∙ split in
      omega (arith, long)

  pub row_fits : (e.y - first * p.shape.rows) * p.shape.columns + p.shape.columns ≤ length e.planes
  row_fits =
      let rows : ℕ = p.shape.rows in
      let before : ℕ = e.y - first * rows in
      let many : ℕ = end_of_group p first - first in
      let ends : many + first ≡ end_of_group p first = omega (arith, first_more) in
      let split : (many + first) * rows ≡ many * rows + first * rows = grind arith in
      let last : end_of_group p first * rows ≡ many * rows + first * rows = ap (λ n. n * rows) (sym ends) ∙ split in
      let lines : suc before ≤ many * rows = omega (arith, last, under.planes.begun, under.in_hand first_more) in
      let up : suc before * p.shape.columns ≤ many * rows * p.shape.columns = mul-le (suc before) p.shape.columns (many * rows) p.shape.columns lines (omega arith) in
      let next : suc before * p.shape.columns ≡ before * p.shape.columns + p.shape.columns = grind arith in
      let same : many * rows * p.shape.columns ≡ many * plane_size p.shape = grind arith in
      let most : many * plane_size p.shape ≤ min most_at_once p.shape.bands * plane_size p.shape =
      mul-le many (plane_size p.shape) (min most_at_once p.shape.bands) (plane_size p.shape) (omega arith) (omega arith) in
      omega (arith, up, next, same, most, under.planes.room)

  pub all_size : length all ≡ (e.y + 1) * p.shape.columns
  all_size =
      let next : (e.y + 1) * p.shape.columns ≡ e.y * p.shape.columns + p.shape.columns = grind arith in
      omega (arith, next, under.size, size, length-append e.offsets samples)

  first_whole : first * plane_size p.shape ≤ length e.offsets
  first_whole =
      let up : first * p.shape.rows * p.shape.columns ≤ e.y * p.shape.columns = mul-le (first * p.shape.rows) p.shape.columns e.y p.shape.columns under.planes.begun (omega arith) in
      let same : first * p.shape.rows * p.shape.columns ≡ first * plane_size p.shape = grind arith in
      omega (arith, up, same, under.size)

  -- the row is kept
  kept_more : (start many : ℕ) → start ≡ length e.offsets - first * plane_size p.shape → start ≤ length e.planes
      → take (length all - first * plane_size p.shape) (put_mid start many e.planes samples) ≡ drop (first * plane_size p.shape) all
  kept_more start many is fits =
      let end : length all - first * plane_size p.shape ≡ start + length samples = omega (arith, is, first_whole, length-append e.offsets samples) in
      take-put_mid start many e.planes samples (length all - first * plane_size p.shape) end fits
      ∙ ap (λ ns. ns ++ samples) (ap (λ n. take n e.planes) is ∙ under.planes.kept first_more)
      ∙ sym (drop-append-le (first * plane_size p.shape) e.offsets samples first_whole)

  previous_still : HasPlanesOf p.shape all (least_kept p first) e.previous (first - least_kept p first)
  previous_still =
      let ends : least_kept p first + (first - least_kept p first) ≡ first = omega arith in
      planes_still p.shape e.offsets samples e.previous (least_kept p first) (first - least_kept p first) (omega (arith, ends, first_more))
      (rw ends first_whole) under.planes.previous

  coded_now : HasCoded p e.end (planes_of p (image_of_planes p.shape p.kind all) e.first)
  coded_now = subst (HasCoded p e.end) (planes_there p e.offsets samples e.first under.lawful under.planes.band first_whole) under.planes.coded

  -- the state after it
  pub row_kept : (new : PlaneEncoderState) (start many : ℕ) → start ≡ (e.y - first * p.shape.rows) * p.shape.columns → length new.planes ≡ length e.planes
      → new.planes ≡ put_mid start many e.planes samples → new.y ≡ e.y + 1 → new.offsets ≡ all → new.first ≡ e.first → new.previous ≡ e.previous
      → new.present ≡ e.present → new.above ≡ e.above → new.bands ≡ e.bands → new.end ≡ e.end → AreHanded p new
  row_kept new start many start_at long kept y_is offsets_are first_is previous_is present_is above_is bands_are end_is = record {
    lawful = under.lawful;
    order = under.order;
    row = omega (arith, y_is, more);
    size = rw (offsets_are, y_is) all_size;
    range = rw offsets_are (all_append (λ v. v < 2 ^ p.kind.bits) e.offsets samples under.range range);
    planes = record {
      band = rw first_is under.planes.band;
      begun = rw first_is (omega (arith, y_is, under.planes.begun));
      room = long ∙ under.planes.room;
      kept = λ some. rw (first_is, offsets_are, kept) (kept_more start many (start_at ∙ start_is) (omega (arith, start_at, row_fits)));
      previous_room = rw previous_is under.planes.previous_room;
      previous = rw (first_is, previous_is, offsets_are) previous_still;
      present = rw present_is under.planes.present;
      above = rw above_is under.planes.above;
      own = rw bands_are under.planes.own;
      fresh = λ c. rw (first_is, bands_are) (under.planes.fresh c);
      coded = rw (first_is, end_is, offsets_are) coded_now;
    };
  }

  pub still_within : (y first : ℕ) → y ≡ e.y + 1 → first ≡ e.first → y ≤ end_of_group p first * p.shape.rows
  still_within y first y_is first_is = rw first_is (omega (arith, y_is, under.in_hand first_more))

-- a group that isn't whole is still in hand
pub still_in_hand : (p : Params) (e : PlaneEncoderState) → AreHanded p e → e.y ≤ end_of_group p e.first * p.shape.rows
    → (e.y ≡ end_of_group p e.first * p.shape.rows → ⊥) → ArePlanesUnderWay p e
still_in_hand p e handed within apart = record {
  lawful = handed.lawful;
  order = handed.order;
  row = handed.row;
  size = handed.size;
  range = handed.range;
  planes = handed.planes;
  in_hand = λ some. elim (cases_lt e.y (end_of_group p e.first * p.shape.rows)) [
    | inl lt ↦ lt
    | inr above ↦ absurd (apart (omega (arith, within, above)))
  ];
}

-- ---- after the last row

module _ (p : Params) (e : PlaneEncoderState) (under : ArePlanesUnderWay p e) (last : e.y ≡ p.shape.bands * p.shape.rows) where
  all_bands : e.first ≡ p.shape.bands
  all_bands = elim (cases_lt e.first p.shape.bands) [
    | inl lt ↦ absurd (
        let ends : end_of_group p e.first * p.shape.rows ≤ p.shape.bands * p.shape.rows =
        mul-le (end_of_group p e.first) p.shape.rows p.shape.bands p.shape.rows (omega arith) (omega arith) in
        omega (arith, ends, last, under.in_hand lt))
    | inr past ↦ omega (arith, past, under.planes.band)
  ]

  coded_whole : HasCoded p e.end (residuals p (image_of_planes p.shape p.kind e.offsets))
  unfolding image_of_planes
  coded_whole =
      let c : Image = image_of_planes p.shape p.kind e.offsets in
      let planes : planes_of p c p.shape.bands ≡ own_residuals p c 0 [] Bsq = ap (λ zs. flat_map (λ z. rows_of p c (z ∷ [])) zs) (sym (own_all (upto p.shape.bands))) in
      let all : own_residuals p c 0 [] Bsq ≡ residuals p c = subst (λ order. own_residuals p c 0 [] order ≡ residuals p c) under.order (all_residuals p c under.lawful.order refl) in
      subst (HasCoded p e.end) (ap (λ n. planes_of p c n) all_bands ∙ planes ∙ all) under.planes.coded

  pub no_place_left : e.end.left ≡ []
  unfolding image_of_planes
  no_place_left = none_left p (image_of_planes p.shape p.kind e.offsets) e.end under.lawful.order refl coded_whole

  pub file_of_planes : (bytes : List ℕ) → ((q : Params) (numbers : List ℕ) → HasCoded q e.end numbers → bytes ≡ file_of_residuals numbers q) → IsFileOfPlanes p e.offsets bytes
  unfolding file_of
  file_of_planes bytes h c cube shape kind planes =
      h p (residuals p (image_of_planes p.shape p.kind e.offsets)) coded_whole
      ∙ ap (λ (d : Image). file_of_residuals (residuals p d) p) (whole_planes p c e.offsets under.lawful cube shape kind planes under.range)
