-- Numbers along places, of whatever bands, read one after another.
use Rattle.std.proofs.Common.{◌≡◌, ◌+◌, ◌<◌, ◌≤◌, ℕ, Bool, List, [], ◌∷◌, ◌++◌, length, take, drop, set, add-one, Result, Ok, Err, refl, ◌∙◌, append_assoc}
use Rattle.std.proofs.Common.{append-nil, length-append, length-drop, take-append-drop, take-suc-set, arith}
use Rattle.std.proofs.lemmas.List.{take_all}
use Rattle.cube_core.specs.declared.fault.Fault.{Fault}
use Rattle.cube_core.specs.declared.order.Place.{Place}
use Rattle.header_bits.specs.Bits.{Unread}
use Rattle.header_bits.specs.Reading.{Reads}
use Rattle.sample_adaptive.specs.declared.statistics.Statistics.{Statistics}
use Rattle.sample_adaptive.specs.Statistics.{CoderSettings, next_statistics, code_parameter}
use Rattle.sample_adaptive.specs.Words.{code_at}
use Rattle.sample_adaptive.specs.Body.{band_residuals}
use Rattle.sample_adaptive.specs.Reading.{word_at, words_at}
use Rattle.sample_adaptive.specs.Taken.{CoderState, GetsEach, Reaches, code_by, counted, with_band}
use Rattle.sample_adaptive.proofs.Running.{later_inside, later_code, later_counted}
use Rattle.sample_adaptive.proofs.Taking.{taken_along, taken_more, word_there}

-- ---- one number, and those after it

pub none : (zs ts : ℕ → ℕ) (i index : ℕ) (v : CoderState) (unread : Unread) → GetsEach zs ts i index (Ok tt) v unread v unread.left []
unfolding words_at
none zs ts i index v unread c gone [] before e f h taken at = (refl, rw (append-nil gone, append-nil before) taken)
none zs ts i index v unread c gone (p ∷ ps) before e f h taken at = absurd (omega (arith, f))

reads_cons : (count : ℕ) (c : CoderSettings) (gone : List Place) (before : List ℕ) (p : Place) (ps : List Place) (residual : ℕ) (ys : List ℕ)
    (bits mid left : List Bool) (r : Result (Unit {0}) Fault)
    → word_at count (length before) (code_at c p.z (band_residuals p.z gone before)) bits ≡ Ok (residual, mid)
    → Reads (λ _. ys) r left (words_at count c (gone ++ p ∷ []) (before ++ residual ∷ []) ps mid)
    → Reads (λ _. residual ∷ ys) r left (words_at count c gone before (p ∷ ps) bits)
unfolding words_at
reads_cons count c gone before p ps residual ys bits mid left (Ok u) word more = rw (word, more) refl
reads_cons count c gone before p ps residual ys bits mid left (Err e) word more = rw (word, more) refl

module _ (zs ts : ℕ → ℕ) (i index : ℕ) (old new : CoderState) (unread : Unread) (left : List Bool) (lt : zs i < length old.bands) where
  pub cons : (residual : ℕ) (r : Result (Unit {0}) Fault) (now : Unread) (ys : List ℕ)
      → word_at unread.count index (code_by old (zs i) (ts i)) unread.left ≡ Ok (residual, now.left) → now.count ≡ unread.count
      → GetsEach zs ts (i + 1) (index + 1) r (counted old (zs i) (ts i) residual) now new left ys → GetsEach zs ts i index r old unread new left (residual ∷ ys)
  cons residual r now ys read same rest c gone [] before e f h taken at = absurd (omega (arith, f))
  cons residual r now ys read same rest c gone (p ∷ ps) before e f h taken at =
      let word = word_there _ _ index old unread (Ok (residual, now.left)) c gone before p lt read h.0 taken h.1 at in
      let more = taken_more c old (λ b. band_residuals b gone before) _ _ residual taken lt h.1 in
      let did = rest c (gone ++ p ∷ []) ps (before ++ residual ∷ []) (omega (arith, length-append before (residual ∷ []), length-append gone (p ∷ []), e))
      (omega (arith, f)) (h.2 residual) (taken_along c _ gone before p residual e (rw h.0 more)) (omega (arith, at, length-append before (residual ∷ []))) in (
        reads_cons unread.count c gone before p ps residual ys unread.left now.left left r word (rw same at did.0),
        rw (append_assoc gone (p ∷ []) ps, append_assoc before (residual ∷ []) ys) at did.1,
      )

  pub refused : (fault : Fault) (residuals : List ℕ) → word_at unread.count index (code_by old (zs i) (ts i)) unread.left ≡ Err fault → 0 < length residuals
      → GetsEach zs ts i index (Err fault) old unread new left residuals
  unfolding words_at
  refused fault residuals read some c gone [] before e f h taken at = absurd (omega (arith, f, some))
  refused fault residuals read some c gone (p ∷ ps) before e f h taken at =
      let word = word_there _ _ index old unread (Err fault) c gone before p lt read h.0 taken h.1 at in
      (rw word refl, tt)

-- ---- the first numbers of a list

pub starts : {zs ts : ℕ → ℕ} {k index : ℕ} {v w : CoderState} {first : Unread} {residuals : List ℕ} → w ≡ v → Reaches zs ts k index 0 v w first first residuals
starts {k = k} {index = index} same = record {
  append = λ r new left ys rest.
      let here : k + 0 ≡ k = omega arith in
      let there : index + 0 ≡ index = omega arith in
      rw (here, there, same) at rest;
}

-- the first residuals of a list are all that counts of it so far
pub same_start : (zs ts : ℕ → ℕ) (k index i : ℕ) (v w : CoderState) (first now : Unread) (residuals others : List ℕ) → take i others ≡ take i residuals
    → Reaches zs ts k index i v w first now residuals → Reaches zs ts k index i v w first now others
same_start zs ts k index i v w first now residuals others same h = record { append = λ r new left ys rest. rw same (h.append r new left ys rest) }

module _ {zs ts : ℕ → ℕ} {k index i : ℕ} {v w : CoderState} {first was : Unread} {residuals : List ℕ} (h : Reaches zs ts k index i v w first was residuals) where
  pub steps : {next : CoderState} {residual : ℕ} {now : Unread} → zs (k + i) < length w.bands → i < length residuals
      → word_at was.count (index + i) (code_by w (zs (k + i)) (ts (k + i))) was.left ≡ Ok (residual, now.left) → now.count ≡ was.count
      → counted w (zs (k + i)) (ts (k + i)) residual ≡ next → Reaches zs ts k index (i + 1) v next first now (set residuals i residual)
  steps {residual = residual} {now = now} inside lt read same counts = record {
    append = λ r new left ys rest.
        let here : k + (i + 1) ≡ k + i + 1 = omega arith in
        let there : index + (i + 1) ≡ index + i + 1 = omega arith in
        let all = h.append r new left (residual ∷ ys) (cons zs ts (k + i) (index + i) w new was left inside residual r now ys read same
        (rw counts (rw (here, there) at rest))) in
        rw (add-one i, take-suc-set residuals i residual lt, append_assoc (take i residuals) (residual ∷ []) ys) all;
  }

  pub stops : (fault : Fault) (new : CoderState) (left : List Bool) → zs (k + i) < length w.bands → i < length residuals
      → word_at was.count (index + i) (code_by w (zs (k + i)) (ts (k + i))) was.left ≡ Err fault → GetsEach zs ts k index (Err fault) v first new left residuals
  stops fault new left inside lt read =
      let some : 0 < length (drop i residuals) = omega (arith, lt, length-drop i residuals) in
      rw (take-append-drop i residuals) at
      (h.append (Err fault) new left (drop i residuals) (refused zs ts (k + i) (index + i) w new was left inside fault (drop i residuals) read some))

  pub ends : length residuals ≤ i → GetsEach zs ts k index (Ok tt) v first w was.left residuals
  ends le = rw (append-nil (take i residuals), take_all i residuals le) at (h.append (Ok tt) w was.left [] (none zs ts (k + i) (index + i) w was))

-- ---- numbers of one band, none of which is its first

module _ (t : ℕ) (s : Statistics) {z k index i : ℕ} {v : CoderState} {first was : Unread} {residuals : List ℕ}
    (h : Reaches (λ j. z) (λ j. t + j) k index i v (with_band v z s) first was residuals) (lt : z < length v.bands) (some : 0 < t + k)
    (within : i < length residuals) where
  later : 0 < t + (k + i)
  later = omega (arith, some)

  code : code_by (with_band v z s) z (t + (k + i)) ≡ record { limit = v.umax; k = code_parameter v.bits s; bits = v.bits }
  code = later_code z (t + (k + i)) v s lt later

  pub run_steps : {residual : ℕ} {next : Statistics} {now : Unread}
      → word_at was.count (index + i) (record { limit = v.umax; k = code_parameter v.bits s; bits = v.bits }) was.left ≡ Ok (residual, now.left)
      → now.count ≡ was.count → next ≡ next_statistics v.gamma_star s residual
      → Reaches (λ j. z) (λ j. t + j) k index (i + 1) v (with_band v z next) first now (set residuals i residual)
  run_steps {residual = residual} read same counts =
      steps h (later_inside z _ v s lt later) within (rw code read) same (later_counted z (t + (k + i)) v s lt later residual ∙ rw counts refl)

  pub run_stops : (fault : Fault) (new : CoderState) (left : List Bool)
      → word_at was.count (index + i) (record { limit = v.umax; k = code_parameter v.bits s; bits = v.bits }) was.left ≡ Err fault
      → GetsEach (λ j. z) (λ j. t + j) k index (Err fault) v first new left residuals
  run_stops fault new left read = stops h fault new left (later_inside z _ v s lt later) within (rw code read)
