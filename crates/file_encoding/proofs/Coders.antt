-- What the entropy coder of an image has taken, number after number.
use Rattle.std.proofs.Common.{◌≡◌, ◌+◌, ◌^◌, ◌<◌, ◌≤◌, ℕ, suc, Bool, List, [], ◌∷◌, ◌++◌, length, drop, Some, refl, sym, ap, ◌∙◌, subst, append-nil}
use Rattle.std.proofs.Common.{length-append, length-take, length-drop, arith}
use Rattle.std.specs.List.{slice_get}
use Rattle.std.proofs.Math.Seq.{take-add}
use Rattle.std.proofs.lemmas.List.{take_all, drop_more}
use Rattle.std.proofs.lemmas.Option.{get_or_from_slice_get}
use Rattle.cube_core.specs.declared.order.Place.{Place}
use Rattle.cube_core.specs.Shape.{sample_count}
use Rattle.cube_core.specs.Order.{IsOrder, places}
use Rattle.cube_core.proofs.Lists.{take_next}
use Rattle.cube_core.proofs.Orders.{length-places}
use Rattle.header_bits.specs.declared.params.Params.{Params}
use Rattle.header_bits.specs.declared.params.Coder.{Coder}
use Rattle.header_bits.specs.declared.params.Coder.TheVariants.{Sample, Block}
use Rattle.sample_adaptive.specs.Settings.{settings, IsSample}
use Rattle.sample_adaptive.specs.Body.{sample_body, words_after, band_residuals}
use Rattle.sample_adaptive.specs.Taken.{CoderState, HasTaken as HaveTaken, PutsResidual as PutsOne, PutsRun as PutsMany, PutsColumn as PutsOnes}
use Rattle.sample_adaptive.specs.Words.{code_word, code_at}
use Rattle.sample_adaptive.proofs.ForSamples.{settings_bits}
use Rattle.sample_adaptive.proofs.Running.{body_run}
use Rattle.sample_adaptive.proofs.Taking.{taken_along}
use Rattle.block_adaptive.specs.Settings.{IsBlock, IsCutOf, cut_by, coder_cut}
use Rattle.block_adaptive.proofs.Given.{cut_bits}
use Rattle.block_adaptive.specs.Chosen.{chosen_block_body}
use Rattle.block_adaptive.specs.DataSets.{Cut}
use Rattle.block_adaptive.specs.Segments.{block_count}
use Rattle.block_adaptive.specs.Taken.{WriterState, taken_count, PutsAll as PutsList, EndsBody as EndsBlocks}
use Rattle.file_encoding.specs.declared.encoder.EntropyEncoder.{EntropyEncoder}
use Rattle.file_encoding.specs.declared.encoder.EntropyEncoder.TheVariants.{Samples, Blocks}
use Rattle.file_format.specs.File.{body_of, body_by}
use Rattle.sample_adaptive.specs.Given.{places_of}
use Rattle.file_encoding.specs.Coding.{places_after, of_band, SamplesTaken, HasTaken, MayPut, PutsResidual, PutsRun, PutsColumn, PutsBlocks, EndsBody}

-- ---- places

pub places_long : (p : Params) (numbers : List ℕ) → length numbers ≤ length (places p.shape p.order) → length numbers ≡ length (places_of p numbers)
places_long p numbers le = omega (arith, le, length-take (length numbers) (places p.shape p.order))

pub places_whole : (p : Params) (numbers : List ℕ) → IsOrder p.shape p.order → length numbers ≡ sample_count p.shape
    → places_of p numbers ≡ places p.shape p.order
places_whole p numbers lawful e = take_all (length numbers) (places p.shape p.order) (omega (arith, e, length-places p.shape p.order lawful))

-- as many places come after those of the numbers
pub run_count : (p : Params) (numbers : List ℕ) (count : ℕ) → length numbers + count ≤ length (places p.shape p.order)
    → count ≡ length (places_after p numbers count)
run_count p numbers count fits =
    omega (arith, fits, length-take count (drop (length numbers) (places p.shape p.order)), length-drop (length numbers) (places p.shape p.order))

-- ---- by samples

pub samples_none : (p : Params) (v : CoderState) → IsSample p.coder → length v.bands ≡ p.shape.bands → HaveTaken (settings p) v (λ z. []) → SamplesTaken p v [] []
unfolding band_residuals sample_body words_after
samples_none p v coder bands taken = record { coder = coder; bands = bands; depth = taken.bits ∙ settings_bits p; taken = taken; text = refl }

-- the numbers of a run more
pub samples_more_run : (p : Params) (old new : CoderState) (numbers run : List ℕ) (bits : List Bool) → length numbers + length run ≤ length (places p.shape p.order)
    → SamplesTaken p old numbers bits → (length new.bands ≡ length old.bands) × (new.bits ≡ old.bits)
    → HaveTaken (settings p) new (λ b. band_residuals b (places_of p numbers ++ places_after p numbers (length run)) (numbers ++ run))
    → SamplesTaken p new (numbers ++ run) (bits ++ words_after (settings p) (places_of p numbers) numbers (places_after p numbers (length run)) run)
samples_more_run p old new numbers run bits fits h kept taken =
    let long = places_long p numbers (omega (arith, fits)) in
    let whole : places_of p (numbers ++ run) ≡ places_of p numbers ++ places_after p numbers (length run) =
    rw (length-append numbers run, take-add (length numbers) (length run) (places p.shape p.order)) refl in
    record {
      coder = h.coder;
      bands = kept.0 ∙ h.bands;
      depth = kept.1 ∙ h.depth;
      taken = subst (λ (qs : List Place). HaveTaken (settings p) new (λ b. band_residuals b qs (numbers ++ run))) (sym whole) taken;
      text = rw (whole, body_run (settings p) (places_of p numbers) (places_after p numbers (length run)) numbers run long, ← h.text) refl;
    }

pub samples_run : (z t : ℕ) (run : List ℕ) (old new : CoderState) (written now : List Bool) → PutsMany z t run old written new now
    → (length new.bands ≡ length old.bands) × (new.bits ≡ old.bits) → PutsRun z t run (Samples old) written (Samples new) now
samples_run z t run old new written now puts kept p numbers bits h next =
    let long = places_long p numbers (omega (arith, next.fits)) in
    let qs = places_after p numbers (length run) in
    let did = puts (settings p) (places_of p numbers) qs numbers long (run_count p numbers (length run) next.fits) next.band h.taken next.time in
    (words_after (settings p) (places_of p numbers) numbers qs run, did.0, samples_more_run p old new numbers run bits next.fits h kept did.1)

-- one number more
pub samples_more : (p : Params) (old new : CoderState) (numbers : List ℕ) (bits : List Bool) (q : Place) (number : ℕ)
    → slice_get (places p.shape p.order) (length numbers) ≡ Some q → SamplesTaken p old numbers bits
    → (length new.bands ≡ length old.bands) × (new.bits ≡ old.bits)
    → HaveTaken (settings p) new (λ z. band_residuals z (places_of p numbers ++ q ∷ []) (numbers ++ number ∷ []))
    → SamplesTaken p new (numbers ++ number ∷ []) (bits ++ code_word (code_at (settings p) q.z (of_band p numbers q.z)) number)
unfolding words_after
samples_more p old new numbers bits q number e h kept taken =
    let all = places p.shape p.order in
    let lt = (take_next all (length numbers) q e).0 in
    let one : places_after p numbers 1 ≡ q ∷ [] = rw (drop_more all (length numbers) q lt, get_or_from_slice_get all (length numbers) q q e) refl in
    rw append-nil at (rw one at (samples_more_run p old new numbers (number ∷ []) bits (omega (arith, lt)) h kept (rw one taken)))

pub samples_put : (z t number : ℕ) (old new : CoderState) (written now : List Bool) → PutsOne z t number old written new now
    → (length new.bands ≡ length old.bands) × (new.bits ≡ old.bits) → PutsResidual z t number (Samples old) written (Samples new) now
samples_put z t number old new written now puts kept p numbers bits h next =
    let q : Place = next.0 in
    let did = (rw (← next.2) at puts) (settings p) (of_band p numbers) h.taken (rw (← next.2) at next.3) in
    let long = places_long p numbers (omega (arith, (take_next (places p.shape p.order) (length numbers) q next.1).0)) in
    let along = taken_along (settings p) new (places_of p numbers) numbers q number long did.1 in
    (code_word (code_at (settings p) q.z (of_band p numbers q.z)) number, did.0, samples_more p old new numbers bits q number next.1 h kept along)

pub samples_column : (z t : ℕ) (column : List ℕ) (old new : CoderState) (written now : List Bool) → PutsOnes z t column old written new now
    → PutsColumn z t column (Samples old) written (Samples new) now
samples_column z t [] old new written now h = (ap (λ (v : CoderState). Samples v) h.0, h.1)
samples_column z t (number ∷ numbers) old new written now h =
    (Samples h.0, h.1, samples_put z t number old h.0 written h.1 h.4 (h.2, h.3), samples_column (suc z) t numbers h.0 new h.1 now h.5)

-- the sample-adaptive body is the body that the parameters name
sample_body_is : (k : Coder) (p : Params) (numbers : List ℕ) → IsSample k → body_by k p numbers ≡ sample_body (settings p) (places p.shape p.order) numbers
sample_body_is (Sample umax star zero start) p numbers s = refl
sample_body_is (Block size restricted reference) p numbers s = absurd s

pub samples_end : (v : CoderState) (written : List Bool) → EndsBody (Samples v) written written
unfolding body_of
samples_end v written p numbers bits h lawful long =
    ([], sym (append-nil written), rw (append-nil, h.text, places_whole p numbers lawful long, sample_body_is p.coder p numbers h.coder) refl)

-- ---- by blocks

pub blocks_put_all : (list : List ℕ) (old new : WriterState) (written now : List Bool) → PutsList list old written new now → new.cut ≡ old.cut
    → taken_count new ≡ taken_count old + length list → PutsBlocks list (Blocks old) written (Blocks new) now
blocks_put_all list old new written now puts kept counted p numbers bits h =
    let did = puts numbers bits h.taken in
    let room : IsCutOf (sample_count p.shape) new.cut = rw kept h.room in
    let count : taken_count new ≡ length (numbers ++ list) = omega (arith, counted, h.count, length-append numbers list) in
    (did.0, did.1, record { coder = h.coder; cut = kept ∙ h.cut; room = room; taken = did.2; count = count })

pub block_body_is : (p : Params) (c : Cut) (numbers : List ℕ) → IsBlock p.coder → c ≡ cut_by p
    → chosen_block_body c.set c.size c.reference numbers ≡ body_of p numbers
unfolding body_of
block_body_is p c numbers coder e =
    let cut : Coder → Cut = coder_cut p.kind.bits (sample_count p.shape) in
    rw e (elim p.coder as (λ k. IsBlock k → chosen_block_body (cut k).set (cut k).size (cut k).reference numbers ≡ body_by k p numbers) [
      | Block size restricted reference ↦ λ s. refl
      | Sample umax star zero start ↦ λ s. absurd s
    ] coder)

pub blocks_end : (v : WriterState) (written now : List Bool) → EndsBlocks v written now → EndsBody (Blocks v) written now
blocks_end v written now ends p numbers bits h lawful long =
    let count : block_count v.cut.size (length numbers) ≡ v.cut.count = ap (block_count v.cut.size) long ∙ sym h.room.blocks in
    let did = ends numbers bits h.taken count in
    (did.0, did.1, did.2 ∙ block_body_is p v.cut numbers h.coder h.cut)

-- ---- what may be put

-- where fewer numbers were taken than there are samples, one more may be put
pub may_put : (p : Params) (e : EntropyEncoder) (numbers : List ℕ) (bits : List Bool) (z number : ℕ) → HasTaken p e numbers bits
    → length numbers < sample_count p.shape → z < p.shape.bands → number < 2 ^ p.kind.bits → MayPut e z number
may_put p (Samples v) numbers bits z number h few band range = (omega (arith, h.bands, band), rw h.depth range)
may_put p (Blocks v) numbers bits z number h few band range = (omega (arith, h.count, few, h.room.room), rw (cut_bits p v.cut h.cut) range)
