-- Whose residuals the weaver wants, and which it has taken.
use Rattle.std.proofs.Common.{◌≡◌, ◌+◌, ◌<◌, ◌≤◌, ℕ, zero, suc, true, List, [], ◌∷◌, length, take, drop, get_or, Some, None, Result, Ok, Err, OnOk, OnErr, refl}
use Rattle.std.proofs.Common.{sym, ap, subst, ◌∙◌, length-append, length-take, arith}
use Rattle.std.specs.Prelude.{option_map}
use Rattle.std.specs.List.{slice_get}
use Rattle.std.proofs.lemmas.List.{get_or_default, get_or-take, get_or-drop, drop-drop}
use Rattle.std.proofs.lemmas.Result.{on_err_weaker}
use Rattle.std.proofs.lemmas.Option.{slice_get-map, slice_get-get_or}
use Rattle.cube_core.specs.declared.fault.Fault.{Fault}
use Rattle.cube_core.specs.declared.order.Order.{Order}
use Rattle.cube_core.specs.declared.order.Place.{Place}
use Rattle.cube_core.specs.Shape.{Sizes}
use Rattle.cube_core.specs.Order.{IsPlaceOf, goes_along_rows, place_index, places}
use Rattle.cube_core.proofs.Lists.{get_drop}
use Rattle.cube_core.proofs.Keys.{order_is_by_key, index_of_item}
use Rattle.cube_core.proofs.Orders.{item_from_index, place_index_below}
use Rattle.cube_core.proofs.Walks.{columns_along}
use Rattle.header_bits.specs.declared.params.Params.{Params}
use Rattle.file_encoding.specs.Ends.{FileEncoderState, HasCoded, MayCodeAll, CodesAll}
use Rattle.file_encoding.specs.Own.{owners, owners_of}
use Rattle.coder_pipe.specs.Woven.{WeaverState, IsAlong, HasWoven, WeavesAll, AreOfOne, AreOwnersFrom}

-- the owners of the places that come next
pub wanted : (p : Params) (deal numbers : List ℕ) (e : FileEncoderState) (i : ℕ) → HasCoded p e numbers
    → slice_get (owners deal p) (length numbers + i) ≡ option_map (λ q. get_or deal q.z 0) (slice_get e.left i)
unfolding owners_of
wanted p deal numbers e i h = rw h.left (
    slice_get-map (λ q. get_or deal q.z 0) (places p.shape p.order) (length numbers + i)
    ∙ ap (option_map (λ q. get_or deal q.z 0)) (sym (get_drop (places p.shape p.order) (length numbers) i)))

wanted_first : (p : Params) (deal numbers : List ℕ) (e : FileEncoderState) → HasCoded p e numbers
    → slice_get (owners deal p) (length numbers) ≡ option_map (λ q. get_or deal q.z 0) (slice_get e.left 0)
wanted_first p deal numbers e h = let at : length numbers + 0 ≡ length numbers = omega arith in rw at at (wanted p deal numbers e 0 h)

-- none is wanted where no place is to come
pub wants_none : (w : WeaverState) → None ≡ slice_get w.end.left 0 → (p : Params) (deal numbers : List ℕ) → HasWoven p deal w numbers
    → None ≡ slice_get (owners deal p) (length numbers)
wants_none w none p deal numbers h = rw (wanted_first p deal numbers w.end h.coded, ← none) refl

-- where a place that comes stands
place_item : (s : Sizes) (o : Order) (w : WeaverState) (i : ℕ) (place : Place) (h : IsAlong s o w) → Some place ≡ slice_get w.end.left i
    → slice_get (places s o) (h.gone + i) ≡ Some place
place_item s o w i place h next = sym (get_drop (places s o) h.gone i) ∙ ap (λ left. slice_get left i) (sym h.left) ∙ sym next

-- it is one of the image's, of a band that is dealt
pub place_within : (s : Sizes) (o : Order) (w : WeaverState) (i : ℕ) (place : Place) → IsAlong s o w → Some place ≡ slice_get w.end.left i
    → IsPlaceOf s place × (place.z < length w.deal)
place_within s o w i place h next =
    let there = (order_is_by_key s o h.order).only (h.gone + i) place (place_item s o w i place h next) in
    (there, omega (arith, h.whole, there.band))

-- and else the owner of the place that comes next
pub wants_some : (s : Sizes) (o : Order) (w : WeaverState) (place : Place) (owner d : ℕ) → IsAlong s o w → Some place ≡ slice_get w.end.left 0
    → owner ≡ get_or w.deal place.z d → (p : Params) (deal numbers : List ℕ) → HasWoven p deal w numbers
    → Some owner ≡ slice_get (owners deal p) (length numbers)
wants_some s o w place owner d along next is p deal numbers h =
    let at : owner ≡ get_or deal place.z 0 = is ∙ get_or_default w.deal place.z d 0 (place_within s o w 0 place along next).1 ∙ rw h.dealt refl in
    rw (wanted_first p deal numbers w.end h.coded, ← next, at) refl

-- ---- runs

-- where places go along rows, those of the row come next
row_next : (s : Sizes) (o : Order) (w : WeaverState) (place : Place) (i : ℕ) → IsAlong s o w → goes_along_rows o ≡ true → Some place ≡ slice_get w.end.left 0
    → place.x + i < s.columns → slice_get w.end.left i ≡ Some (record { z = place.z; y = place.y; x = place.x + i })
row_next s o w place i h along next more =
    let q : Place = record { z = place.z; y = place.y; x = place.x + i } in
    let there = (place_within s o w 0 place h next).0 in
    let at : place_index s o place ≡ h.gone + 0 = index_of_item s o place (h.gone + 0) h.order (place_item s o w 0 place h next) in
    let on = columns_along s o place i along there in
    let later : IsPlaceOf s q = record { band = there.band; row = there.row; column = more } in
    let below = place_index_below s o q h.order later in
    ap (λ left. slice_get left i) h.left ∙ get_drop (places s o) h.gone i
    ∙ item_from_index s o q (h.gone + i) h.order later (on ∙ omega (arith, at)) (omega (arith, at, on, below))

pub row_owned : (s : Sizes) (o : Order) (w : WeaverState) (place : Place) (count : ℕ) → IsAlong s o w → goes_along_rows o ≡ true
    → Some place ≡ slice_get w.end.left 0 → place.x + count ≤ s.columns → (p : Params) (deal numbers : List ℕ) → HasWoven p deal w numbers
    → AreOfOne (owners deal p) (length numbers) count
row_owned s o w place count h along next fits p deal numbers woven i lt =
    let of_row = row_next s o w place i h along next (omega (arith, lt, fits)) in
    rw (wanted p deal numbers w.end i woven.coded, wanted_first p deal numbers w.end woven.coded, of_row, ← next) refl

-- places that come next in a column are of bands that are dealt
pub column_fits : (s : Sizes) (o : Order) (w : WeaverState) (place : Place) (count : ℕ) → IsAlong s o w → Some place ≡ slice_get w.end.left 0
    → ((i : ℕ) → i < count → slice_get w.end.left i ≡ Some (record { z = place.z + i; y = place.y; x = place.x })) → place.z + count ≤ length w.deal
column_fits s o w place zero h next column = omega (arith, (place_within s o w 0 place h next).1)
column_fits s o w place (suc count) h next column = omega (arith, (place_within s o w count _ h (sym (column count (omega arith)))).1)

pub column_owned : (w : WeaverState) (place : Place) (count : ℕ)
    → ((i : ℕ) → i < count → slice_get w.end.left i ≡ Some (record { z = place.z + i; y = place.y; x = place.x })) → place.z + count ≤ length w.deal
    → (p : Params) (deal numbers : List ℕ) → HasWoven p deal w numbers → AreOwnersFrom (owners deal p) (length numbers) (take count (drop place.z w.deal))
column_owned w place count column fits p deal numbers h i lt =
    let few : i < count = omega (arith, lt, length-take count (drop place.z w.deal)) in
    let own : get_or (take count (drop place.z w.deal)) i 0 ≡ get_or deal (place.z + i) 0 =
    get_or-take count (drop place.z w.deal) i 0 few ∙ get_or-drop place.z w.deal i 0 ∙ ap (λ ds. get_or ds (place.z + i) 0) h.dealt in
    wanted p deal numbers w.end i h.coded ∙ ap (option_map (λ q. get_or deal q.z 0)) (column i few) ∙ ap (λ n. Some n) (sym own)
    ∙ sym (slice_get-get_or (take count (drop place.z w.deal)) i 0 lt)

-- ---- along the places

-- it has taken nothing
pub along_first : (p : Params) (e : FileEncoderState) (deal : List ℕ) → HasCoded p e [] → length deal ≡ p.shape.bands
    → IsAlong p.shape p.order (record { end = e; deal = deal })
along_first p e deal h whole = record { order = h.order; whole = whole; gone = 0; left = h.left }

-- so many places have gone by
pub along_more : (s : Sizes) (o : Order) (deal : List ℕ) (old new : FileEncoderState) (count : ℕ) → new.left ≡ drop count old.left
    → IsAlong s o (record { end = old; deal = deal }) → IsAlong s o (record { end = new; deal = deal })
along_more s o deal old new count moved h =
    record { order = h.order; whole = h.whole; gone = h.gone + count; left = moved ∙ ap (drop count) h.left ∙ drop-drop count h.gone (places s o) }

pub along_one : (r : Result (Unit {0}) Fault) (s : Sizes) (o : Order) (deal : List ℕ) (old new : FileEncoderState) (next : Place) → OnOk r (old.left ≡ next ∷ new.left)
    → OnErr r (new ≡ old) → IsAlong s o (record { end = old; deal = deal }) → IsAlong s o (record { end = new; deal = deal })
along_one (Ok u) s o deal old new next moved same h = along_more s o deal old new 1 (sym (ap (drop 1) moved)) h
along_one (Err e) s o deal old new next moved same h = subst (λ (w : FileEncoderState). IsAlong s o (record { end = w; deal = deal })) (sym same) h

-- numbers were taken
codes_move : (old new : FileEncoderState) (list more : List ℕ) → MayCodeAll old list → CodesAll old new more → new.left ≡ drop (length more) old.left
codes_move old new list more may codes =
    (codes may.params may.numbers may.coded).left ∙ ap (λ n. drop n (places may.params.shape may.params.order)) (length-append may.numbers more)
    ∙ sym (drop-drop (length more) (length may.numbers) (places may.params.shape may.params.order)) ∙ ap (drop (length more)) (sym may.coded.left)

weaves : (deal : List ℕ) (old new : FileEncoderState) (list : List ℕ) → CodesAll old new list
    → WeavesAll (record { end = old; deal = deal }) (record { end = new; deal = deal }) list
weaves deal old new list codes p ds numbers h = record { coded = codes p numbers h.coded; dealt = h.dealt }

pub weaves_some : (r : Result (Unit {0}) Fault) (deal : List ℕ) (old new : FileEncoderState) (list : List ℕ)
    → OnErr r ((n : ℕ) × (n < length list) × CodesAll old new (take n list))
    → OnErr r ((n : ℕ) × (n < length list) × WeavesAll (record { end = old; deal = deal }) (record { end = new; deal = deal }) (take n list))
weaves_some r deal old new list some = on_err_weaker r (λ some. (some.0, some.1, weaves deal old new (take some.0 list) some.2)) some

pub along_all : (r : Result (Unit {0}) Fault) (s : Sizes) (o : Order) (deal : List ℕ) (old new : FileEncoderState) (list : List ℕ) → MayCodeAll old list
    → OnOk r (CodesAll old new list) → OnErr r ((n : ℕ) × (n < length list) × CodesAll old new (take n list)) → IsAlong s o (record { end = old; deal = deal })
    → IsAlong s o (record { end = new; deal = deal })
along_all (Ok u) s o deal old new list may whole some h = along_more s o deal old new (length list) (codes_move old new list list may whole) h
along_all (Err e) s o deal old new list may whole some h =
    along_more s o deal old new (length (take some.0 list)) (codes_move old new list (take some.0 list) may some.2) h
