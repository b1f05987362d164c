-- Numbers that were given, and those that are given after them.
use Rattle.std.proofs.Common.{◌≡◌, ◌+◌, ◌<◌, ℕ, zero, suc, Bool, List, [], ◌∷◌, ◌++◌, length, take, drop, Some, Result, Ok, Err, IfOk, refl, sym, ap, subst}
use Rattle.std.proofs.Common.{◌∙◌, append_assoc, append-nil, length-append, take-append-drop, add-one, arith}
use Rattle.std.specs.List.{slice_get}
use Rattle.std.proofs.lemmas.Option.{slice_get_within, get_or_from_slice_get}
use Rattle.std.proofs.lemmas.List.{take_all}
use Rattle.std.proofs.Math.Seq.{take-add, drop-cons}
use Rattle.cube_core.specs.declared.fault.Fault.{Fault}
use Rattle.cube_core.specs.declared.order.Place.{Place}
use Rattle.cube_core.proofs.Lists.{take_next}
use Rattle.cube_core.specs.Order.{places}
use Rattle.header_bits.specs.declared.params.Params.{Params}
use Rattle.header_bits.specs.Bits.{Unread}
use Rattle.header_bits.specs.Reading.{Reads}
use Rattle.sample_adaptive.specs.Statistics.{CoderSettings}
use Rattle.sample_adaptive.specs.Body.{band_residuals, words_after, sample_body}
use Rattle.sample_adaptive.specs.Reading.{words_at, sample_body_at}
use Rattle.sample_adaptive.specs.Taken.{CoderState, HasTaken, AreEach, GetsEach}
use Rattle.sample_adaptive.specs.Given.{AreRead, HasGiven, IsNext, GivesMore, places_of}
use Rattle.sample_adaptive.proofs.Bodies.{AreWords, words_again, words_takes, words_at_append}
use Rattle.sample_adaptive.specs.Settings.{IsSample, settings}
use Rattle.sample_adaptive.proofs.ForSamples.{settings_bits}

-- ---- what was given

pub none_given : (p : Params) (v : CoderState) → IsSample p.coder → length v.bands ≡ p.shape.bands → HasTaken (settings p) v (λ z. []) → HasGiven p v [] []
unfolding words_at sample_body_at band_residuals
none_given p v coder bands taken = record { coder = coder; bands = bands; taken = taken; read = λ count left. refl }

words_given : {c : CoderSettings} {places : List Place} {residuals : List ℕ} {bits : List Bool} → AreRead c places residuals bits
    → AreWords c [] [] places bits (residuals, [])
unfolding sample_body_at
words_given h = rw append-nil at (words_takes 0 _ [] [] _ _ _ (h 0 []))

-- where there is a number for each place, the bits are their body
pub given_whole : (p : Params) (v : CoderState) (residuals : List ℕ) (bits : List Bool) → HasGiven p v residuals bits
    → length residuals ≡ length (places p.shape p.order) → bits ≡ sample_body (settings p) (places p.shape p.order) residuals
unfolding sample_body
given_whole p v residuals bits h long =
    rw (append-nil, take_all (length residuals) (places p.shape p.order) (omega (arith, long))) at (words_given h.read).text

-- ---- what is given after it

-- what is read at so many places
gives_more : {X : Type 0} (residuals_of : X → List ℕ) (r : Result X Fault) (p : Params) (old new : CoderState) (residuals : List ℕ) (bits : List Bool)
    (unread : Unread) (left : List Bool) (count : ℕ) → HasGiven p old residuals bits → length new.bands ≡ length old.bands
    → ((x : X) → length (residuals_of x) ≡ count)
    → (let next = take count (drop (length residuals) (places p.shape p.order)) in
    Reads residuals_of r left (words_at unread.count (settings p) (places_of p residuals) residuals next unread.left)
    × IfOk r (λ x. HasTaken (settings p) new (λ z. band_residuals z (places_of p residuals ++ next) (residuals ++ residuals_of x))))
    → GivesMore residuals_of r p residuals bits unread new left
unfolding sample_body_at
gives_more residuals_of (Ok x) p old new residuals bits unread left count h kept many did =
    let c : CoderSettings = settings p in
    let gone : List Place = places_of p residuals in
    let next : List Place = take count (drop (length residuals) (places p.shape p.order)) in
    let words = words_takes unread.count c gone residuals next unread.left (residuals_of x, left) did.0 in
    let read : List Bool = words_after c gone residuals next (residuals_of x) in
    let whole : places_of p (residuals ++ residuals_of x) ≡ gone ++ next =
    rw (length-append residuals (residuals_of x), many x) (take-add (length residuals) count (places p.shape p.order)) in (
      rw (settings_bits p) at words.residuals,
      read,
      words.text,
      record {
        coder = h.coder;
        bands = kept ∙ h.bands;
        taken = subst (λ (ps : List Place). HasTaken c new (λ z. band_residuals z ps (residuals ++ residuals_of x))) (sym whole) did.1;
        read = λ other rest. rw (
          whole,
          append_assoc bits read rest,
          words_at_append other c [] [] gone next (bits ++ (read ++ rest)),
          h.read other (read ++ rest),
          words_again other c gone residuals next (residuals_of x) rest words.count words.residuals,
        ) refl;
      },
    )
gives_more residuals_of (Err fault) p old new residuals bits unread left count h kept many did =
    let c : CoderSettings = settings p in
    let gone : List Place = places_of p residuals in
    let later : List Place = drop (length residuals) (places p.shape p.order) in
    let bad : words_at unread.count c [] [] (gone ++ (take count later ++ drop count later)) (bits ++ unread.left) ≡ Err fault = rw (
      words_at_append unread.count c [] [] gone (take count later ++ drop count later) (bits ++ unread.left),
      h.read unread.count unread.left,
      words_at_append unread.count c gone residuals (take count later) (drop count later) unread.left,
      did.0,
    ) refl in
    rw (take-append-drop count later, take-append-drop (length residuals) (places p.shape p.order)) at bad

-- the place of the next number comes first after those of the numbers before it
next_first : (places : List Place) (n : ℕ) (p : Place) (count : ℕ) → slice_get places n ≡ Some p
    → take (suc count) (drop n places) ≡ p ∷ take count (drop (n + 1) places)
next_first places n p count at =
    ap (take (suc count)) (drop-cons places n p (slice_get_within places _ p at)) ∙ rw (get_or_from_slice_get places _ p p at, add-one) refl

-- numbers each of which is the next one, after those between
module _ (p : Params) (n count : ℕ) (zs ts : ℕ → ℕ)
    (next : (i : ℕ) (residuals : List ℕ) → i < count → length residuals ≡ n + i → IsNext p residuals (zs i) (ts i)) where
  are_each : (k i : ℕ) (residuals : List ℕ) → i + k ≡ count → length residuals ≡ n + i
      → (let later = take k (drop (length residuals) (places p.shape p.order)) in
      AreEach zs ts i (places_of p residuals) residuals later × (k ≡ length later))
  are_each zero i residuals all long = (tt, refl)
  are_each (suc k) i residuals all long =
      let q = next i residuals (omega (arith, all)) long in
      let more : (residual : ℕ) → length (residuals ++ residual ∷ []) ≡ length residuals + 1 = λ residual. length-append residuals (residual ∷ []) in
      let others = λ (residual : ℕ). are_each k (i + 1) (residuals ++ residual ∷ []) (omega (arith, all)) (omega (arith, more residual, long)) in
      rw (next_first (places p.shape p.order) _ q.0 k q.1)
      ((q.2, q.3, λ residual. rw (more residual, (take_next (places p.shape p.order) _ q.0 q.1).1) at (others residual).0), ap suc (rw (more 0) at (others 0).1))

pub each_given : (r : Result (Unit {0}) Fault) (zs ts : ℕ → ℕ) (index : ℕ) (p : Params) (old new : CoderState) (residuals list : List ℕ) (bits : List Bool)
    (unread : Unread) (left : List Bool) → GetsEach zs ts 0 index r old unread new left list → length new.bands ≡ length old.bands
    → HasGiven p old residuals bits → index ≡ length residuals
    → ((i : ℕ) (before : List ℕ) → i < length list → length before ≡ length residuals + i → IsNext p before (zs i) (ts i))
    → GivesMore (λ _. list) r p residuals bits unread new left
each_given r zs ts index p old new residuals list bits unread left gets kept h at next =
    let each = are_each p (length residuals) (length list) zs ts next (length list) 0 residuals (omega arith) (omega arith) in
    gives_more (λ _. list) r p old new residuals bits unread left (length list) h kept (λ _. refl)
    (gets (settings p) _ _ residuals (words_given h.read).count each.1 each.0 h.taken at)
