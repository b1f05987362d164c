-- What the file encoder has taken, column by column.
use Rattle.std.proofs.Common.{◌≡◌, ◌+◌, ◌*◌, ◌^◌, ◌<◌, ◌≤◌, ℕ, zero, suc, Bool, List, [], ◌∷◌, length, drop, Some, refl, ap, subst, arith}
use Rattle.std.specs.List.{AllByRecursion, slice_get}
use Rattle.cube_core.specs.declared.order.Place.{Place}
use Rattle.header_bits.specs.declared.params.Params.{Params}
use Rattle.file_encoding.specs.declared.encoder.EntropyEncoder.{EntropyEncoder}
use Rattle.file_encoding.specs.declared.encoder.EntropyEncoder.TheVariants.{Samples, Blocks}
use Rattle.file_encoding.specs.Coding.{HasTaken, IsBySamples, MayPutColumn, PutsColumn}
use Rattle.file_encoding.specs.Ends.{FileEncoderState, HasCoded, MayCodeColumn, CodesAll, AreOfColumn}
use Rattle.file_encoding.proofs.Endings.{place_left, coded_more}
use Rattle.file_encoding.proofs.Runs.{codes_none, codes_after}

by_samples : (p : Params) (coder : EntropyEncoder) (numbers column : List ℕ) (bits : List Bool) (z : ℕ) → IsBySamples coder → HasTaken p coder numbers bits
    → z + length column ≤ p.shape.bands → AllByRecursion (λ n. n < 2 ^ p.kind.bits) column → length column ≤ 2 ^ 16 → MayPutColumn coder z column
by_samples p (Samples v) numbers column bits z s h bands range few = (omega (arith, h.bands, bands), rw h.depth range, few)
by_samples p (Blocks v) numbers column bits z s h bands range few = absurd s

-- the bands of a column are among those of the image
bands_within : (p : Params) (e : FileEncoderState) (numbers : List ℕ) (place : Place) (count : ℕ) → HasCoded p e numbers → slice_get e.left 0 ≡ Some place
    → AreOfColumn place count e.left → place.z + count ≤ p.shape.bands
bands_within p e numbers place zero h next along = omega (arith, (place_left p e numbers 0 place h next).band)
bands_within p e numbers place (suc n) h next along =
    omega (arith, (place_left p e numbers n (record { z = place.z + n; y = place.y; x = place.x }) h (along n (omega arith))).band)

pub may_put_column : (e : FileEncoderState) (place : Place) (column : List ℕ) → MayCodeColumn e place column → MayPutColumn e.coder place.z column
may_put_column e place column h =
    let may = h.may in
    let within = bands_within may.params e may.numbers place (length column) may.coded h.next h.along in
    by_samples may.params e.coder may.numbers column may.coded.written place.z h.samples may.coded.taken within may.range
    (omega (arith, within, may.lawful.sizes.bands.1))

-- one place after another goes by
codes_column : (columns word : ℕ) (left : List Place) (place : Place) (t : ℕ) (list : List ℕ) (coder now : EntropyEncoder) (bits later : List Bool)
    → t ≡ place.y * columns + place.x → AreOfColumn place (length list) left → PutsColumn place.z t list coder bits now later
    → CodesAll (record { columns = columns; word = word; left = left; coder = coder; bits = bits })
    (record { columns = columns; word = word; left = drop (length list) left; coder = now; bits = later }) list
codes_column columns word left place t [] coder now bits later time along h = rw (h.0, h.1) (codes_none _)
codes_column columns word [] place t (n ∷ ns) coder now bits later time along h = absurd (let none = along 0 (omega arith) in cc)
codes_column columns word (q ∷ rest) place t (n ∷ ns) coder now bits later time along h =
    let here : place.z + 0 ≡ place.z = omega arith in
    let first : Some q ≡ Some place = rw here at (along 0 (omega arith)) in
    let same : q ≡ place = cc in
    let above : (i : ℕ) → place.z + suc i ≡ suc place.z + i = λ i. omega arith in
    codes_after _ (record { columns = columns; word = word; left = rest; coder = h.0; bits = h.1 }) _ (n ∷ []) ns
    (coded_more _ _ place t n (ap (λ (r : Place). r ∷ rest) same) time refl refl h.2)
    (codes_column columns word rest (record { z = suc place.z; y = place.y; x = place.x }) t ns h.0 now h.1 later time
    (λ i lt. rw (above i) at (along (suc i) (omega (arith, lt)))) h.3)

-- the residuals of a column were put
pub coded_column : (old new : FileEncoderState) (place : Place) (t : ℕ) (column : List ℕ) → MayCodeColumn old place column → new.left ≡ drop (length column) old.left
    → t ≡ place.y * old.columns + place.x → new.columns ≡ old.columns → new.word ≡ old.word
    → PutsColumn place.z t column old.coder old.bits new.coder new.bits → CodesAll old new column
coded_column old new place t column may moved time columns word puts =
    let codes = codes_column old.columns old.word old.left place t column old.coder new.coder old.bits new.bits time may.along puts in
    subst (λ (e : FileEncoderState). CodesAll old e column) (rw (← columns, ← word, ← moved) refl) codes
