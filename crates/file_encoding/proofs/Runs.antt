-- What the file encoder has taken, several residuals at a time: by blocks, and row by row.
use Rattle.std.proofs.Common.{◌≡◌, ◌+◌, ◌*◌, ◌-◌, ◌<◌, ◌≤◌, ◌^◌, ℕ, zero, suc, Bool, true, List, [], ◌∷◌, ◌++◌, append-nil, length, take, drop, Some, None}
use Rattle.std.proofs.Common.{refl, sym, ap, ◌∙◌, subst, append_assoc, length-append, length-take, length-drop, arith}
use Rattle.std.specs.List.{AllByRecursion, slice_get}
use Rattle.std.proofs.Math.Seq.{take-add}
use Rattle.std.proofs.lemmas.Nat.{mul-le}
use Rattle.cube_core.specs.declared.order.Order.{Order}
use Rattle.cube_core.specs.declared.order.Place.{Place}
use Rattle.cube_core.specs.Shape.{Sizes, sample_count}
use Rattle.cube_core.specs.Order.{IsOrder, IsPlaceOf, goes_along_rows, place_index, places}
use Rattle.cube_core.specs.Along.{AreByRows}
use Rattle.cube_core.proofs.Keys.{order_is_by_key, index_of_item}
use Rattle.cube_core.proofs.Lists.{get_drop}
use Rattle.cube_core.proofs.Orders.{length-places, item_from_index, place_index_below}
use Rattle.cube_core.proofs.Walks.{columns_along}
use Rattle.header_bits.specs.declared.params.Params.{Params}
use Rattle.header_bits.specs.declared.params.Coder.TheVariants.{Sample, Block}
use Rattle.header_bits.proofs.Items.{all_take, all_drop}
use Rattle.sample_adaptive.specs.Settings.{IsSample}
use Rattle.block_adaptive.specs.Settings.{IsBlock}
use Rattle.file_encoding.specs.declared.encoder.EntropyEncoder.{EntropyEncoder}
use Rattle.file_encoding.specs.declared.encoder.EntropyEncoder.TheVariants.{Samples, Blocks}
use Rattle.file_encoding.specs.Coding.{HasTaken, IsRun, IsBySamples, IsByBlocks, MayPutRun, MayPutBlocks, PutsRun, PutsBlocks}
use Rattle.file_encoding.specs.Ends.{FileEncoderState, HasCoded, MayCodeAll, MayCodeRun, CodesAll}
use Rattle.block_adaptive.proofs.Given.{cut_bits}
use Rattle.file_encoding.proofs.Endings.{place_left, time_next, length-left, comes_next, coded_after}

-- ---- places that go along rows

pub rows_after : (columns n : ℕ) (ps now : List Place) → now ≡ drop n ps → AreByRows columns ps → AreByRows columns now
rows_after columns n ps now e h =
    rw e (λ i q f lt. get_drop ps n (suc i) ∙ (let next : n + suc i ≡ suc (n + i) = omega arith in rw next (h (n + i) q (sym (get_drop ps n i) ∙ f) lt)))

-- the places of a row are of one band
pub row_band : (columns n : ℕ) (ps : List Place) (place : Place) → AreByRows columns ps → slice_get ps 0 ≡ Some place → place.x + n ≤ columns
    → AllByRecursion (λ q. q.z ≡ place.z) (take n ps)
row_band columns zero ps place h first fits = tt
row_band columns (suc n) [] place h first fits = tt
row_band columns (suc zero) (q ∷ ps) place h first fits = ((let same : q ≡ place = cc in ap (λ r. r.z) same), tt)
row_band columns (suc (suc n)) (q ∷ ps) place h first fits =
    let same : q ≡ place = cc in
    let next = h 0 place first (omega (arith, fits)) in
    let more : Place = record { z = place.z; y = place.y; x = place.x + 1 } in
    (ap (λ r. r.z) same, row_band columns (suc n) ps more (rows_after columns 1 (q ∷ ps) ps refl h) next (omega (arith, fits)))

-- where places go along rows, they come row by row
pub rows_follow : (s : Sizes) (o : Order) → IsOrder s o → goes_along_rows o ≡ true → AreByRows s.columns (places s o)
rows_follow s o lawful along i q e lt =
    let next : Place = record { z = q.z; y = q.y; x = q.x + 1 } in
    let there : IsPlaceOf s q = (order_is_by_key s o lawful).only i q e in
    let at : place_index s o q ≡ i = index_of_item s o q i lawful e in
    let step = columns_along s o q 1 along there in
    let place : IsPlaceOf s next = record { band = there.band; row = there.row; column = lt } in
    item_from_index s o next (suc i) lawful place (step ∙ omega (arith, at)) (omega (arith, at, step, place_index_below s o next lawful place))

-- ---- numbers after others

pub codes_none : (e : FileEncoderState) → CodesAll e e []
codes_none e p numbers h = rw (append-nil numbers) h

pub codes_after : (a b d : FileEncoderState) (xs ys : List ℕ) → CodesAll a b xs → CodesAll b d ys → CodesAll a d (xs ++ ys)
codes_after a b d xs ys f g p numbers h = rw (append_assoc numbers xs ys) at (g p (numbers ++ xs) (f p numbers h))

-- a part of a list, from a place of it to another
abbrev pub part : List ℕ → ℕ → ℕ → List ℕ
part list first end = take (end - first) (drop first list)

pub codes_part : (a b d : FileEncoderState) (list : List ℕ) (first count : ℕ) → CodesAll a b (take first list) → CodesAll b d (part list first (first + count))
    → CodesAll a d (take (first + count) list)
codes_part a b d list first count f g =
    let e : first + count - first ≡ count = omega arith in
    rw take-add (codes_after a b d (take first list) (take count (drop first list)) f (rw e at g))

pub may_part : (old e : FileEncoderState) (list : List ℕ) (first count : ℕ) → MayCodeAll old list → CodesAll old e (take first list) → first + count ≤ length list
    → MayCodeAll e (part list first (first + count))
may_part old e list first count may codes fits = record {
  params = may.params;
  numbers = may.numbers ++ take first list;
  lawful = may.lawful;
  coded = codes may.params may.numbers may.coded;
  more = rw (length-append, length-take, length-take, length-drop) (omega (arith, may.more, fits));
  range = all_take (λ n. n < 2 ^ may.params.kind.bits) _ (drop first list) (all_drop (λ n. n < 2 ^ may.params.kind.bits) first list may.range);
}

-- where numbers are still to be coded, a place is to come
pub place_waits : (old e : FileEncoderState) (list : List ℕ) (first : ℕ) → MayCodeAll old list → CodesAll old e (take first list) → first < length list
    → None ≡ slice_get e.left 0 → ⊥
place_waits old e list first may codes lt none =
    comes_next may.params e (may.numbers ++ take first list) (codes may.params may.numbers may.coded)
    (rw (length-append, length-take) (omega (arith, may.more, lt))) none

-- the residuals that may be coded are no more than the places after those that were
pub fits_after : (old : FileEncoderState) (list : List ℕ) → MayCodeAll old list → (p : Params) (numbers : List ℕ) → HasCoded p old numbers
    → length numbers + length list ≤ length (places p.shape p.order)
fits_after old list may p numbers h =
    omega (arith, length-left p old numbers h, length-left may.params old may.numbers may.coded, may.more, h.within, length-places p.shape p.order h.order)

-- ---- by blocks

by_blocks : (p : Params) (coder : EntropyEncoder) (numbers list : List ℕ) (bits : List Bool) → IsByBlocks coder → HasTaken p coder numbers bits
    → length numbers + length list ≤ sample_count p.shape → AllByRecursion (λ n. n < 2 ^ p.kind.bits) list → MayPutBlocks coder list
by_blocks p (Samples v) numbers list bits blocks h more range = absurd blocks
by_blocks p (Blocks v) numbers list bits blocks h more range = (omega (arith, h.count, more, h.room.room), rw (cut_bits p v.cut h.cut) range)

pub may_put_blocks : (e : FileEncoderState) (list : List ℕ) → MayCodeAll e list → IsByBlocks e.coder → MayPutBlocks e.coder list
may_put_blocks e list may blocks = by_blocks may.params e.coder may.numbers list may.coded.written blocks may.coded.taken may.more may.range

pub coded_blocks : (old new : FileEncoderState) (list : List ℕ) (n : ℕ) → MayCodeAll old list → n ≤ length list → new.left ≡ drop n old.left → new.columns ≡ old.columns
    → new.word ≡ old.word → PutsBlocks (take n list) old.coder old.bits new.coder new.bits → CodesAll old new (take n list)
coded_blocks old new list n may le moved columns word puts p numbers h =
    let long : length (take n list) ≡ n = omega (arith, le, length-take n list) in
    let did = puts p numbers h.written h.taken in
    let fits = fits_after old list may p numbers h in
    coded_after old new (take n list) p numbers h (omega (arith, fits, long, le)) (rw long moved) columns word did.0 did.1 did.2

-- ---- row by row

-- what takes numbers by samples goes on to do so
stays : (p : Params) (a b : EntropyEncoder) (ns ms : List ℕ) (bits more : List Bool) → HasTaken p a ns bits → HasTaken p b ms more → IsBySamples a → IsBySamples b
stays p a (Samples w) ns ms bits more h k s = tt
stays p (Samples v) (Blocks w) ns ms bits more h k s =
    absurd (elim p.coder as (λ c. IsSample c → IsBlock c → ⊥) [ Sample umax star first start ↦ λ a b. b | Block size restricted reference ↦ λ a b. a ]
    h.coder k.coder)
stays p (Blocks v) (Blocks w) ns ms bits more h k s = absurd s

pub samples_still : (old e : FileEncoderState) (list xs : List ℕ) → MayCodeAll old list → IsBySamples old.coder → CodesAll old e xs → IsBySamples e.coder
samples_still old e list xs may samples codes =
    stays may.params old.coder e.coder _ _ _ _ may.coded.taken (codes may.params may.numbers may.coded).taken samples

by_samples : (p : Params) (coder : EntropyEncoder) (numbers run : List ℕ) (bits : List Bool) (z t : ℕ) → IsBySamples coder → HasTaken p coder numbers bits
    → z < p.shape.bands → AllByRecursion (λ n. n < 2 ^ p.kind.bits) run → (length run ≤ 2 ^ 16) × (t < 2 ^ 48) → MayPutRun coder z t run
by_samples p (Samples v) numbers run bits z t s h band range few = (omega (arith, h.bands, band), rw h.depth range, few.0, few.1)
by_samples p (Blocks v) numbers run bits z t s h band range few = absurd s

pub may_put_run : (e : FileEncoderState) (place : Place) (t : ℕ) (run : List ℕ) → MayCodeRun e place run → t ≡ place.y * e.columns + place.x
    → MayPutRun e.coder place.z t run
may_put_run e place t run h time =
    let may = h.may in
    let sizes = may.lawful.sizes in
    let there = place_left may.params e may.numbers 0 place may.coded h.next in
    let columns : e.columns ≤ 65536 = omega (arith, may.coded.columns, sizes.columns.1) in
    let rows : place.y * e.columns ≤ 65536 * 65536 = mul-le place.y e.columns 65536 65536 (omega (arith, there.row, sizes.rows.1)) columns in
    by_samples _ _ _ run _ place.z t h.samples may.coded.taken there.band may.range
    (omega (arith, h.row, columns), omega (arith, time, rows, there.column, may.coded.columns, columns))

-- the residuals of a run were put
pub coded_run : (old new : FileEncoderState) (place : Place) (t : ℕ) (run : List ℕ) → MayCodeRun old place run → new.left ≡ drop (length run) old.left
    → t ≡ place.y * old.columns + place.x → new.columns ≡ old.columns → new.word ≡ old.word → PutsRun place.z t run old.coder old.bits new.coder new.bits
    → CodesAll old new run
coded_run old new place t run may moved time columns word puts p numbers h =
    let fits = fits_after old run may.may p numbers h in
    let is_run : IsRun p numbers place.z t (length run) = record {
      fits = fits;
      band = subst (λ (ps : List Place). AllByRecursion (λ q. q.z ≡ place.z) (take (length run) ps)) h.left
          (row_band old.columns (length run) old.left place may.rows may.next may.row);
      time = time_next p old numbers place t h may.next time;
    } in
    let did = puts p numbers h.written h.taken is_run in
    coded_after old new run p numbers h fits moved columns word did.0 did.1 did.2
