-- What the reading end has given, one number after another or several at once, and how it refuses.
use Rattle.std.proofs.Common.{◌≡◌, ◌+◌, ◌-◌, ◌<◌, ◌≤◌, ℕ, Bool, List, ◌++◌, length, replicate, Result, Ok, Err, refl, sym, ◌∙◌}
use Rattle.std.proofs.Common.{append_assoc, length-append, arith}
use Rattle.std.proofs.lemmas.List.{length-replicate}
use Rattle.std.proofs.lemmas.Option.{slice_get_within}
use Rattle.cube_core.specs.declared.fault.Fault.{Fault}
use Rattle.cube_core.specs.Shape.{sample_count}
use Rattle.cube_core.specs.Order.{places}
use Rattle.cube_core.proofs.Keys.{order_is_by_key}
use Rattle.cube_core.proofs.Orders.{length-places}
use Rattle.header_bits.specs.declared.params.Params.{Params}
use Rattle.header_bits.specs.Bits.{Unread}
use Rattle.header_bits.specs.Lawful.{IsLawful}
use Rattle.header_bits.proofs.Items.{all_append}
use Rattle.sample_adaptive.specs.Settings.{IsSample}
use Rattle.sample_adaptive.specs.Taken.{CoderState, GetsEach}
use Rattle.sample_adaptive.specs.Given.{GivesMore as SamplesGive}
use Rattle.sample_adaptive.proofs.ForSamples.{sample_is}
use Rattle.sample_adaptive.proofs.Given.{each_given, given_whole as samples_whole}
use Rattle.block_adaptive.specs.DataSets.{capacity}
use Rattle.block_adaptive.specs.Settings.{IsBlock}
use Rattle.block_adaptive.specs.Given.{ReaderState, given_count, GivesMoreOf}
use Rattle.block_adaptive.specs.Reading.{block_body_at}
use Rattle.block_adaptive.proofs.Given.{block_is, given_whole as blocks_whole}
use Rattle.file_decoding.specs.declared.decoder.EntropyDecoder.{EntropyDecoder}
use Rattle.file_decoding.specs.declared.decoder.EntropyDecoder.TheVariants.{Samples, Blocks}
use Rattle.file_decoding.specs.Decoding.{HasGiven, MayAskEach, GivesAll, GivesMore, GivesEach}
use Rattle.file_format.specs.Files.{IsBody, after_body}

-- ---- what may be asked for

-- numbers that may be asked for are at places of the order, of a band of the image
within : {d : EntropyDecoder} {zs ts : ℕ → ℕ} {index count : ℕ} (m : MayAskEach d zs ts index count) (i : ℕ) → i < count
    → (length m.numbers + i < sample_count m.params.shape) × (zs i < m.params.shape.bands)
within m i lt =
    let long : length (m.numbers ++ replicate i 0) ≡ length m.numbers + i = omega (arith, length-append {A = ℕ}, length-replicate {A = ℕ}) in
    let next = m.ask i (m.numbers ++ replicate i 0) lt long in
    let there = slice_get_within (places m.params.shape m.params.order) _ next.0 next.1 in
    let place = (order_is_by_key m.params.shape m.params.order m.lawful.order).only _ _ next.1 in
    (omega (arith, there, long, length-places m.params.shape m.params.order m.lawful.order), omega (arith, place.band, next.2))

-- a coder has the bands of so many numbers, or room for them
abbrev MayGive : EntropyDecoder → (ℕ → ℕ) → ℕ → Type 0
MayGive (Samples v) zs count = (i : ℕ) → i < count → zs i < length v.bands
MayGive (Blocks v) zs count = given_count v + count ≤ capacity v.cut

pub may_give : (d : EntropyDecoder) {zs ts : ℕ → ℕ} {index count : ℕ} → MayAskEach d zs ts index count → 1 ≤ count → MayGive d zs count
may_give (Samples v) m some = λ i lt. omega (arith, m.given.bands, (within m i lt).1)
may_give (Blocks v) {count = count} m some = omega (arith, some, m.given.count, m.given.room.room, (within m (count - 1) (omega (arith, some))).0)

-- ---- what is given after other numbers

pub samples_give : {X : Type 0} (numbers_of : X → List ℕ) (r : Result X Fault) (p : Params) (numbers : List ℕ) (bits : List Bool) (unread : Unread)
    (new : CoderState) (left : List Bool) → IsSample p.coder → SamplesGive numbers_of r p numbers bits unread new left
    → GivesMore numbers_of r p numbers bits unread (Samples new) left
unfolding after_body
samples_give numbers_of (Ok x) p numbers bits unread new left coder did = did
samples_give numbers_of (Err fault) p numbers bits unread new left coder did =
    let k = sample_is p.coder coder in
    rw k.4 (rw (rw k.4 at did) refl)

pub samples_each : (r : Result (Unit {0}) Fault) (zs ts : ℕ → ℕ) (index : ℕ) (old new : CoderState) (unread : Unread) (left : List Bool) (list : List ℕ)
    → GetsEach zs ts 0 index r old unread new left list → length new.bands ≡ length old.bands
    → GivesEach zs ts index r (Samples old) unread (Samples new) left list
samples_each r zs ts index old new unread left list gets kept m =
    samples_give (λ _. list) r m.params m.numbers m.bits unread new left m.given.coder
    (each_given r zs ts index m.params old new m.numbers list m.bits unread left gets kept m.given m.stands m.ask)

pub blocks_give : {X : Type 0} (numbers_of : X → List ℕ) (r : Result X Fault) (p : Params) (numbers : List ℕ) (bits : List Bool) (unread : Unread)
    (new : ReaderState) (left : List Bool) → IsBlock p.coder → GivesMoreOf numbers_of r p numbers bits unread new left
    → GivesMore numbers_of r p numbers bits unread (Blocks new) left
unfolding after_body block_body_at
blocks_give numbers_of (Ok x) p numbers bits unread new left coder did = did
blocks_give numbers_of (Err fault) p numbers bits unread new left coder did =
    let k = block_is p.coder coder in
    rw k.3 (rw (rw k.3 at did) refl)

-- more after them
pub gives_after : (p : Params) (mid new : EntropyDecoder) (numbers : List ℕ) (bits unread now left : List Bool) (count : ℕ) (xs ys : List ℕ)
    (r : Result (Unit {0}) Fault) (g : GivesAll p mid numbers bits unread now xs)
    → GivesMore (λ _. ys) r p (numbers ++ xs) (bits ++ g.1) (record { count = count; left = now }) new left
    → GivesMore (λ _. xs ++ ys) r p numbers bits (record { count = count; left = unread }) new left
gives_after p mid new numbers bits unread now left count xs ys (Ok u) g m =
    (all_append _ _ _ g.0 m.0, g.1 ++ m.1, rw (append_assoc g.1 m.1 left, ← m.2) g.2, rw (append_assoc numbers xs ys, append_assoc bits g.1 m.1) at m.3)
gives_after p mid new numbers bits unread now left count xs ys (Err fault) g bad = rw (g.2, ← append_assoc bits g.1 now) bad

-- ---- where all are given, the bits are a body of them

pub given_whole : (p : Params) (d : EntropyDecoder) (numbers : List ℕ) (bits : List Bool) → IsLawful p → HasGiven p d numbers bits
    → length numbers ≡ sample_count p.shape → IsBody p numbers bits
given_whole p (Samples v) numbers bits lawful h long =
    let k = sample_is p.coder h.coder in
    rw k.4 (rw k.4 at (samples_whole p v numbers bits h (long ∙ sym (length-places p.shape p.order lawful.order))))
given_whole p (Blocks v) numbers bits lawful h long = rw (block_is p.coder h.coder).3 (blocks_whole p v numbers bits h long)
