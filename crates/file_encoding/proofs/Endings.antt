-- What the file encoder has taken, residual after residual, and the file that it then gives.
use Rattle.std.proofs.Common.{◌≡◌, ◌+◌, ◌*◌, ◌-◌, ◌<◌, ◌≤◌, ℕ, Bool, List, [], ◌∷◌, ◌++◌, length, drop, Some, None, refl, sym, ap, ◌∙◌, append_assoc}
use Rattle.std.proofs.Common.{length-append, length-drop, arith}
use Rattle.std.specs.List.{slice_get}
use Rattle.std.proofs.Math.Seq.{drop-drop}
use Rattle.std.proofs.lemmas.Option.{slice_get_within}
use Rattle.cube_core.specs.declared.order.Place.{Place}
use Rattle.cube_core.specs.Shape.{sample_count}
use Rattle.cube_core.specs.Order.{IsPlaceOf, places}
use Rattle.cube_core.proofs.Keys.{order_is_by_key}
use Rattle.cube_core.proofs.Lists.{get_drop, get-drop, none_first}
use Rattle.cube_core.proofs.Orders.{length-places}
use Rattle.header_bits.specs.declared.params.Params.{Params}
use Rattle.header_bits.specs.Header.{header_of}
use Rattle.sample_adaptive.proofs.Times.{number_of_place}
use Rattle.file_encoding.specs.Coding.{TimeOfPlace, of_band, HasTaken, MayPut, PutsResidual, EndsBody}
use Rattle.file_encoding.specs.Ends.{FileEncoderState, HasCoded, MayCode, CodesAll}
use Rattle.file_format.specs.File.{body_of, filled, packed, file_bits, file_of_residuals}
use Rattle.file_encoding.proofs.Coders.{may_put}

pub time_of_place : TimeOfPlace
time_of_place p numbers q lawful at = number_of_place p.shape p.order numbers q lawful at

-- ---- the places to come

-- each of them is a place of the image
pub place_left : (p : Params) (e : FileEncoderState) (numbers : List ℕ) (i : ℕ) (q : Place) → HasCoded p e numbers → slice_get e.left i ≡ Some q → IsPlaceOf p.shape q
place_left p e numbers i q h item =
    (order_is_by_key p.shape p.order h.order).only (length numbers + i) q
    (sym (get_drop (places p.shape p.order) (length numbers) i) ∙ ap (λ qs. slice_get qs i) (sym h.left) ∙ item)

-- the first is the one after those of the numbers
pub item_next : (p : Params) (e : FileEncoderState) (numbers : List ℕ) (q : Place) → HasCoded p e numbers → slice_get e.left 0 ≡ Some q
    → slice_get (places p.shape p.order) (length numbers) ≡ Some q
item_next p e numbers q h next = sym (get-drop (places p.shape p.order) (length numbers)) ∙ ap (λ qs. slice_get qs 0) (sym h.left) ∙ next

-- and its number is the next one of its band
pub time_next : (p : Params) (e : FileEncoderState) (numbers : List ℕ) (q : Place) (t : ℕ) → HasCoded p e numbers → slice_get e.left 0 ≡ Some q
    → t ≡ q.y * e.columns + q.x → t ≡ length (of_band p numbers q.z)
time_next p e numbers q t h next time =
    time ∙ ap (λ n. q.y * n + q.x) h.columns ∙ sym (time_of_place p numbers q h.order (item_next p e numbers q h next))

-- as many are to come as there are samples after the numbers
pub length-left : (p : Params) (e : FileEncoderState) (numbers : List ℕ) → HasCoded p e numbers → length e.left ≡ sample_count p.shape - length numbers
length-left p e numbers h = rw (h.left, length-drop, length-places p.shape p.order h.order) refl

-- ---- one number more

pub may_take : (e : FileEncoderState) (place : Place) (number : ℕ) → slice_get e.left 0 ≡ Some place → MayCode e number → MayPut e.coder place.z number
may_take e place number next may =
    may_put may.params e.coder may.numbers may.coded.written place.z number may.coded.taken may.more
    (place_left may.params e may.numbers 0 place may.coded next).band may.range

-- where fewer numbers were taken than there are samples, a place is to come
pub comes_next : (p : Params) (e : FileEncoderState) (numbers : List ℕ) → HasCoded p e numbers → length numbers < sample_count p.shape → None ≡ slice_get e.left 0 → ⊥
comes_next p e numbers h more none = omega (arith, length-left p e numbers h, more, ap (λ (qs : List Place). length qs) (none_first e.left (sym none)))

pub place_comes : (e : FileEncoderState) (number : ℕ) → MayCode e number → None ≡ slice_get e.left 0 → ⊥
place_comes e number may none = comes_next may.params e may.numbers may.coded may.more none

-- what the entropy coder has taken, the file encoder has
pub coded_after : (old new : FileEncoderState) (list : List ℕ) (p : Params) (numbers : List ℕ) (h : HasCoded p old numbers)
    → length numbers + length list ≤ length (places p.shape p.order) → new.left ≡ drop (length list) old.left → new.columns ≡ old.columns → new.word ≡ old.word
    → (more : List Bool) → new.bits ≡ old.bits ++ more → HasTaken p new.coder (numbers ++ list) (h.written ++ more)
    → HasCoded p new (numbers ++ list)
coded_after old new list p numbers h fits moved columns word more grown taken = record {
  columns = columns ∙ h.columns;
  word = word ∙ h.word;
  order = h.order;
  within = omega (arith, fits, length-append numbers list, length-places p.shape p.order h.order);
  left = rw (moved, h.left, drop-drop, length-append) refl;
  written = h.written ++ more;
  taken = taken;
  text = grown ∙ ap (λ (x : List Bool). x ++ more) h.text ∙ append_assoc (header_of p) h.written more;
}

-- the next place's residual was put
pub coded_more : (old new : FileEncoderState) (place : Place) (t number : ℕ) → old.left ≡ place ∷ new.left → t ≡ place.y * old.columns + place.x
    → new.columns ≡ old.columns → new.word ≡ old.word → PutsResidual place.z t number old.coder old.bits new.coder new.bits → CodesAll old new (number ∷ [])
coded_more old new place t number moved time columns word puts p numbers h =
    let next : slice_get old.left 0 ≡ Some place = rw moved refl in
    let item = item_next p old numbers place h next in
    let did = puts p numbers h.written h.taken (place, item, refl, time_next p old numbers place t h next time) in
    coded_after old new (number ∷ []) p numbers h (omega (arith, slice_get_within (places p.shape p.order) (length numbers) place item))
    (sym (ap (λ (qs : List Place). drop 1 qs) moved)) columns word did.0 did.1 did.2

-- ---- the file

-- the bytes of what was written, once the body was ended and filled
pub is_file : (e : FileEncoderState) (ended full : List Bool) (bytes : List ℕ) → e.left ≡ [] → EndsBody e.coder e.bits ended → full ≡ filled e.word ended
    → bytes ≡ packed full → (p : Params) (numbers : List ℕ) → HasCoded p e numbers → bytes ≡ file_of_residuals numbers p
unfolding file_bits file_of_residuals
is_file e ended full bytes none ends fills packs p numbers h =
    let all : length numbers ≡ sample_count p.shape = omega (arith, length-left p e numbers h, h.within, ap (λ (qs : List Place). length qs) none) in
    let did = ends p numbers h.written h.taken h.order all in
    let text : ended ≡ header_of p ++ body_of p numbers =
    did.1 ∙ ap (λ (x : List Bool). x ++ did.0) h.text ∙ append_assoc (header_of p) h.written did.0 ∙ ap (λ (x : List Bool). header_of p ++ x) did.2 in
    packs ∙ ap packed (fills ∙ ap (λ n. filled n ended) h.word ∙ ap (filled p.word) text)
