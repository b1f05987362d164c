use Rattle.std.proofs.Common.{◌≡◌, ◌+◌, ◌-◌, ◌*◌, ◌≤◌, ◌∷◌, [], ℕ, List, length, take, drop, ap, ap₂, sym, ◌∙◌, subst, arith, rules, length-take}
use Rattle.std.specs.List.{flat_map}
use Rattle.std.specs.Vec.{with_items}
use Rattle.std.proofs.lemmas.List.{length-map, with_items_is}
use borrow.Rule.Slice.PartMut.{put_mid}
use Rattle.cube_core.specs.Image.{Image}
use Rattle.cube_core.specs.Order.{from}
use Rattle.cube_core.proofs.Lists.{length-from}
use Rattle.header_bits.specs.declared.params.Params.{Params}
use Rattle.predict_core.specs.Following.{PredictorState}
use Rattle.file_encoding.specs.ByPlanes.{ArePlanesInRange, HasPlanesOf, PlaneEncoderState, end_of_group, image_of_planes, least_kept, plane_size}
use Rattle.file_encoding.specs.Ends.{CodesAll, MayCodeAll}
use Rattle.file_encoding.specs.Own.{rows_of}
use Rattle.file_encoding.specs.Walks.{AreAt, bands_of}
use Rattle.file_encoding.proofs.KeptPlanes.{length_put}
use Rattle.file_encoding.proofs.PlaneGroups.{all_bands, count_most, group_bands, group_fresh, group_sent, may_send, next_in, own_in_range, own_planes, previous_in_range}
use Rattle.file_encoding.proofs.plane_encoder.PlaneEncoder.send_group.Goals as goal
use Rattle.file_encoding.proofs.plane_encoder.PlaneEncoder.send_group.Goals.{After-group_end-next, After-deref_mut, After-deref_mut-3, After-deref}

-- ---- the group

module _ (c : After-group_end-next) where
  abbrev p : Params
  p = c.args.params.now

  abbrev e : PlaneEncoderState
  e = c.args.self.now

  abbrev count : ℕ
  count = c.group_end-next.result - c.self.inside.first

  abbrev size : ℕ
  size = c.rows.result * c.columns.result

  abbrev all : ℕ
  all = end_of_group p e.first - e.first

  first_is : c.self.inside.first ≡ e.first
  first_is = ap (λ (s : PlaneEncoderState). s.first) c.self.view_is

  next_is : c.group_end-next.result ≡ end_of_group p e.first
  next_is = c.group_end-next.ensures ∙ ap (λ n. end_of_group p n) first_is

  count_is : count ≡ all
  count_is = ap₂ (λ m n. m - n) next_is first_is

  size_is : size ≡ plane_size p.shape
  size_is = ap₂ (λ m n. m * n) c.rows.ensures.value c.columns.ensures.value

module _ (c : After-deref_mut) where
  bands_are : c.deref_mut.result.now ≡ c.args.self.now.bands
  bands_are = c.deref_mut.ensures.value ∙ ap (λ (s : PlaneEncoderState). s.bands) c.self.view_is

pub slice_bounds-turn_planes-end : goal.slice_bounds-turn_planes-end
slice_bounds-turn_planes-end c =
    let a = (goal.at.slice_bounds-turn_planes-end c).After-deref_mut in
    let b = (goal.at.slice_bounds-turn_planes-end c).After-group_end-next in
    let h : c.group_end-next.result ≤ length c.deref_mut.result.now =
    omega (arith, next_is b, next_in (p b) (e b) c.requires.whole, all_bands (p b) (e b) c.requires.whole, ap (λ (bs : List PredictorState). length bs) (bands_are a)) in search rules

-- ---- its bands and planes

module _ (c : After-deref_mut-3) where
  abbrev d : After-group_end-next
  d = (goal.at.After-deref_mut-3 c).After-group_end-next

  abbrev b : After-deref_mut
  b = (goal.at.After-deref_mut-3 c).After-deref_mut

  abbrev sub : List PredictorState
  sub = take (count d) (drop c.self.inside.first c.deref_mut.result.now)

  planes_are : c.deref_mut-2.result.now ≡ (e d).planes
  planes_are = c.deref_mut-2.ensures.value ∙ ap (λ (s : PlaneEncoderState). s.planes) c.self.view_is

  previous_are : c.deref_mut-3.result.now ≡ (e d).previous
  previous_are = c.deref_mut-3.ensures.value ∙ ap (λ (s : PlaneEncoderState). s.previous) c.self.view_is

  sub_is : sub ≡ take (count d) (drop (e d).first (e d).bands)
  sub_is = ap₂ (λ i bs. take (count d) (drop i bs)) (first_is d) (bands_are b)

  zs_are : bands_of sub ≡ from (e d).first (all d)
  zs_are = ap bands_of sub_is ∙ group_bands (p d) (e d) c.requires.whole (count d) (count_is d)

  sub_size : length sub ≡ all d
  sub_size = sym (length-map sub (λ b. b.band)) ∙ ap (λ (zs : List ℕ). length zs) zs_are ∙ length-from (e d).first (all d)

  own_there : HasPlanesOf (p d).shape (e d).offsets c.self.inside.first c.deref_mut-2.result.now (length sub)
  own_there =
      subst (λ i. HasPlanesOf (p d).shape (e d).offsets i c.deref_mut-2.result.now (length sub)) (sym (first_is d))
      (subst (λ n. HasPlanesOf (p d).shape (e d).offsets (e d).first c.deref_mut-2.result.now n) (sym sub_size)
      (subst (λ ns. HasPlanesOf (p d).shape (e d).offsets (e d).first ns (all d)) (sym planes_are) (own_planes (p d) (e d) c.requires.whole)))

  previous_there : HasPlanesOf (p d).shape (e d).offsets (least_kept (p d) c.self.inside.first) c.deref_mut-3.result.now (c.self.inside.first - least_kept (p d) c.self.inside.first)
  previous_there =
      subst (λ i. HasPlanesOf (p d).shape (e d).offsets (least_kept (p d) i) c.deref_mut-3.result.now (i - least_kept (p d) i)) (sym (first_is d))
      (subst (λ ns. HasPlanesOf (p d).shape (e d).offsets (least_kept (p d) (e d).first) ns ((e d).first - least_kept (p d) (e d).first)) (sym previous_are)
      c.requires.whole.handed.planes.previous)

pub turn_planes-requires-clause-inside : goal.turn_planes-requires-clause-inside
turn_planes-requires-clause-inside c =
    let a = (goal.at.turn_planes-requires-clause-inside c).After-deref_mut-3 in
    omega (arith, first_is (d a), sub_size a, next_in (p (d a)) (e (d a)) c.requires.whole)

pub turn_planes-requires-clause-own : goal.turn_planes-requires-clause-own
turn_planes-requires-clause-own c =
    let a = (goal.at.turn_planes-requires-clause-own c).After-deref_mut-3 in
    zs_are a ∙ ap₂ from (sym (first_is (d a))) (sym (sub_size a))

pub turn_planes-requires-clause-fresh : goal.turn_planes-requires-clause-fresh
turn_planes-requires-clause-fresh c = λ image.
    let a = (goal.at.turn_planes-requires-clause-fresh c).After-deref_mut-3 in
    subst (AreAt (p (d a)) image 0) (sym (sub_is a)) (group_fresh (p (d a)) (e (d a)) c.requires.whole (count (d a)) image)

pub turn_planes-requires-clause-planes : goal.turn_planes-requires-clause-planes
turn_planes-requires-clause-planes c =
    let a = (goal.at.turn_planes-requires-clause-planes c).After-deref_mut-3 in
    let product : length (sub a) * plane_size (p (d a)).shape ≡ all (d a) * plane_size (p (d a)).shape = ap (λ n. n * plane_size (p (d a)).shape) (sub_size a) in
    omega (arith, product, count_most (p (d a)) (e (d a)) c.requires.whole, ap (λ (ns : List ℕ). length ns) (planes_are a))

pub turn_planes-requires-clause-previous : goal.turn_planes-requires-clause-previous
turn_planes-requires-clause-previous c =
    let a = (goal.at.turn_planes-requires-clause-previous c).After-deref_mut-3 in
    omega (arith, c.requires.whole.handed.planes.previous_room, ap (λ (ns : List ℕ). length ns) (previous_are a))

pub turn_planes-requires-clause-range : goal.turn_planes-requires-clause-range
turn_planes-requires-clause-range c =
    let a = (goal.at.turn_planes-requires-clause-range c).After-deref_mut-3 in
    subst (λ n. ArePlanesInRange (p (d a)) c.deref_mut-2.result.now n) (sym (sub_size a))
    (subst (λ ns. ArePlanesInRange (p (d a)) ns (all (d a))) (sym (planes_are a)) (own_in_range (p (d a)) (e (d a)) c.requires.whole))

pub turn_planes-requires-clause-previous_range : goal.turn_planes-requires-clause-previous_range
turn_planes-requires-clause-previous_range c =
    let a = (goal.at.turn_planes-requires-clause-previous_range c).After-deref_mut-3 in
    subst (λ i. ArePlanesInRange (p (d a)) c.deref_mut-3.result.now (i - least_kept (p (d a)) i)) (sym (first_is (d a)))
    (subst (λ ns. ArePlanesInRange (p (d a)) ns ((e (d a)).first - least_kept (p (d a)) (e (d a)).first)) (sym (previous_are a))
    (previous_in_range (p (d a)) (e (d a)) c.requires.whole))

-- ---- its residuals

module _ (c : After-deref) where
  abbrev a : After-deref_mut-3
  a = (goal.at.After-deref c).After-deref_mut-3

  abbrev k : After-group_end-next
  k = (goal.at.After-deref c).After-group_end-next

  abbrev image : Image
  image = image_of_planes (p k).shape (p k).kind (e k).offsets

  planes_now : c.deref.result.now ≡ c.turn_planes.new.planes
  planes_now = c.deref.ensures.value ∙ with_items_is c.self.inside.planes c.turn_planes.new.planes (omega (arith, c.turn_planes.auto.planes, c.deref_mut-2.ensures.len))

  planes_long : length c.deref.result.now ≡ length (e k).planes
  planes_long =
      omega (arith, ap (λ (ns : List ℕ). length ns) planes_now, c.turn_planes.auto.planes, ap (λ (ns : List ℕ). length ns) (planes_are a))

  sent_is : count k * size k ≡ length (sub a) * plane_size (p k).shape
  sent_is = ap₂ (λ m n. m * n) (count_is k ∙ sym (sub_size a)) (size_is k)

  sent_fits : count k * size k ≤ length c.deref.result.now
  sent_fits =
      let product : count k * size k ≡ all k * plane_size (p k).shape = ap₂ (λ m n. m * n) (count_is k) (size_is k) in
      omega (arith, product, count_most (p k) (e k) c.requires.whole, planes_long)

  numbers_are : take (count k * size k) c.deref.result.now ≡ flat_map (λ z. rows_of (p k) image (z ∷ [])) (from (e k).first (all k))
  numbers_are =
      ap₂ (λ n ns. take n ns) sent_is planes_now ∙ c.turn_planes.ensures.turned (e k).offsets (own_there a) (previous_there a)
      ∙ ap (λ zs. flat_map (λ z. rows_of (p k) image (z ∷ [])) zs) (zs_are a)

  end_is : c.self.inside.end ≡ (e k).end
  end_is = ap (λ (s : PlaneEncoderState). s.end) c.self.view_is

  ends : c.self.inside.first + length (sub a) ≡ end_of_group (p k) (e k).first
  ends = omega (arith, first_is k, sub_size a, next_in (p k) (e k) c.requires.whole)

  moved : HasPlanesOf (p k).shape (e k).offsets (least_kept (p k) (end_of_group (p k) (e k).first)) c.turn_planes.new.previous
      (end_of_group (p k) (e k).first - least_kept (p k) (end_of_group (p k) (e k).first))
  moved =
      subst (λ n. HasPlanesOf (p k).shape (e k).offsets (least_kept (p k) n) c.turn_planes.new.previous (n - least_kept (p k) n)) ends
      (c.turn_planes.ensures.moved (e k).offsets (own_there a) (previous_there a))

pub slice_bounds-put_all-end : goal.slice_bounds-put_all-end
slice_bounds-put_all-end c =
    let g = (goal.at.slice_bounds-put_all-end c).After-deref in
    omega (arith, sent_fits g, length-take (count (k g) * size (k g)) c.deref.result.now)

pub put_all-requires : goal.put_all-requires
put_all-requires c =
    let g = (goal.at.put_all-requires c).After-deref in
    subst (λ end. MayCodeAll end (take (count (k g) * size (k g)) c.deref.result.now)) (sym (end_is g))
    (subst (λ numbers. MayCodeAll (e (k g)).end numbers) (sym (numbers_are g)) (may_send (p (k g)) (e (k g)) c.requires.whole))

pub returns-clause-under_way : goal.returns-clause-under_way
returns-clause-under_way c =
    let g = (goal.at.returns-clause-under_way c).After-deref in
    let f = a g in
    let d = k g in
    let state = e d in
    let n = count d in
    let sub = c.turn_planes.new.bands in
    let list = put_mid c.self.inside.first n c.deref_mut.result.now sub in
    let fits : c.self.inside.first + n ≤ length c.deref_mut.result.now =
    omega (arith, first_is d, next_is d, next_in (p d) state c.requires.whole, all_bands (p d) state c.requires.whole, ap (λ (bs : List PredictorState). length bs) (bands_are (b f))) in
    let sub_long : length sub ≡ n = omega (arith, c.turn_planes.auto.bands, sub_size f, count_is d) in
    let long : length list ≡ length c.deref_mut.result.now = length_put c.self.inside.first n c.deref_mut.result.now sub fits sub_long in
    let bands : (with_items c.self.inside.bands list).items ≡ list = with_items_is c.self.inside.bands list (omega (arith, long, c.deref_mut.ensures.len)) in
    let previous : (with_items c.self.inside.previous c.turn_planes.new.previous).items ≡ c.turn_planes.new.previous =
    with_items_is c.self.inside.previous c.turn_planes.new.previous (omega (arith, c.turn_planes.auto.previous, c.deref_mut-3.ensures.len)) in
    group_sent (p d) state c.requires.whole _ n sub (count_is d) (ap (λ (ns : List ℕ). length ns) (sym c.deref.ensures.value) ∙ planes_long g)
    (omega (arith, ap (λ (ns : List ℕ). length ns) previous, c.turn_planes.auto.previous, ap (λ (ns : List ℕ). length ns) (previous_are f)))
    (subst (λ ns. HasPlanesOf (p d).shape state.offsets (least_kept (p d) (end_of_group (p d) state.first)) ns
    (end_of_group (p d) state.first - least_kept (p d) (end_of_group (p d) state.first))) (sym previous) (moved g))
    (ap (λ (s : PlaneEncoderState). s.y) c.self.view_is) (ap (λ (s : PlaneEncoderState). s.offsets) c.self.view_is) (next_is d)
    c.turn_planes.ensures.present c.turn_planes.ensures.above
    (bands ∙ ap₂ (λ i bs. put_mid i n bs sub) (first_is d) (bands_are (b f))) (c.turn_planes.ensures.same ∙ ap bands_of (sub_is f))
    (subst (λ end. CodesAll end c.put_all.new.self (flat_map (λ z. rows_of (p d) (image g) (z ∷ [])) (from state.first (all d)))) (end_is g)
    (subst (λ numbers. CodesAll c.self.inside.end c.put_all.new.self numbers) (numbers_are g) c.in_ok-put_all.ensures.coded))
