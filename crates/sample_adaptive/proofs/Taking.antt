-- What the coder has taken.
use Rattle.std.proofs.Common.{◌≡◌, ℕ, ◌<◌, Bool, false, eqb, List, [], ◌∷◌, ◌++◌, length, set, None, Result, refl, sym, ap, subst, ◌∙◌, inl, inr, arith, eq-eqb}
use Rattle.std.proofs.lemmas.Bool.{cases_eq, ne_eqb}
use Rattle.std.proofs.lemmas.Bool.Decides.{nat_tests}
use Rattle.std.proofs.lemmas.List.{get_or-set_same, get_or-set_other, length-set}
use Rattle.cube_core.specs.declared.fault.Fault.{Fault}
use Rattle.cube_core.specs.declared.order.Place.{Place}
use Rattle.header_bits.specs.Bits.{Unread}
use Rattle.header_bits.specs.declared.params.Params.{Params}
use Rattle.header_bits.specs.declared.params.Coder.TheVariants.{Sample}
use Rattle.header_bits.specs.declared.params.CountStart.{CountStart}
use Rattle.sample_adaptive.specs.declared.statistics.Statistics.{Statistics}
use Rattle.sample_adaptive.specs.Statistics.{CoderSettings, constant_of, start_statistics, first_statistics, next_statistics, statistics, statistics_from}
use Rattle.sample_adaptive.specs.declared.code_word.Code.{Code}
use Rattle.sample_adaptive.specs.Words.{code_word, code_at}
use Rattle.sample_adaptive.specs.Body.{band_residuals}
use Rattle.sample_adaptive.specs.Reading.{word_at}
use Rattle.sample_adaptive.specs.Settings.{settings}
use Rattle.sample_adaptive.specs.Taken.{CoderState, HasTaken, PutsResidual, code_by, counted, of_band, no_statistics, with_residual}
use Rattle.sample_adaptive.proofs.Bodies.{band_push, from_push}

-- ---- the code of the next number

code_by_list : (c : CoderSettings) (v : CoderState) (z t : ℕ) (residuals : List ℕ) → v.bits ≡ c.bits → v.umax ≡ c.umax → of_band v.bands z ≡ statistics c z residuals
    → t ≡ length residuals → code_by v z t ≡ code_at c z residuals
unfolding code_at
code_by_list c v z t [] bits umax band e = rw (e, bits) refl
code_by_list c v z t (first ∷ later) bits umax band e =
    (let not_first : eqb t 0 ≡ false = ne_eqb t 0 (λ k. omega arith) in rw (not_first, bits, umax, band) refl)

pub code_is : (c : CoderSettings) (v : CoderState) (taken : ℕ → List ℕ) (z t : ℕ) → HasTaken c v taken → z < length v.bands → t ≡ length (taken z)
    → code_by v z t ≡ code_at c z (taken z)
code_is c v taken z t h lt e = code_by_list c v z t (taken z) h.bits h.umax (h.bands z lt) e

-- ---- one number more

first_only : (c : CoderSettings) (z residual : ℕ) → statistics c z (residual ∷ []) ≡ statistics c z []
unfolding statistics statistics_from
first_only c z residual = refl

one_later : (c : CoderSettings) (z first residual : ℕ) (later : List ℕ)
    → statistics c z (first ∷ (later ++ residual ∷ [])) ≡ next_statistics c.gamma_star (statistics c z (first ∷ later)) residual
unfolding statistics
one_later c z first residual later = from_push c.gamma_star (first_statistics c z) later residual

-- what was taken of a band that is another, or that is this one
others_stay : (taken : ℕ → List ℕ) (z residual b : ℕ) → (b ≡ z → ⊥) → with_residual taken z residual b ≡ taken b
others_stay taken z residual b other = rw (ne_eqb b z other) refl

this_grows : (taken : ℕ → List ℕ) (z residual : ℕ) → with_residual taken z residual z ≡ taken z ++ residual ∷ []
this_grows taken z residual = rw (eq-eqb z z refl) refl

abbrev BandIs : CoderSettings → List Statistics → (ℕ → List ℕ) → ℕ → Type 0
BandIs c bands taken b = of_band bands b ≡ statistics c b (taken b)

-- the first number leaves the statistics
band_after_first : (c : CoderSettings) (bands : List Statistics) (taken : ℕ → List ℕ) (z residual : ℕ) → taken z ≡ []
    → ((b : ℕ) → b < length bands → BandIs c bands taken b) → (b : ℕ) → b < length bands → BandIs c bands (with_residual taken z residual) b
band_after_first c bands taken z residual none h b lt =
    elim (cases_eq b z) [
      | inl same ↦
          (let now : with_residual taken z residual b ≡ residual ∷ [] =
          ap (with_residual taken z residual) same ∙ this_grows taken z residual ∙ ap (λ (ns : List ℕ). ns ++ residual ∷ []) none in
          let before : taken b ≡ [] = ap taken same ∙ none in
          h b lt ∙ ap (statistics c b) before ∙ sym (first_only c b residual) ∙ ap (statistics c b) (sym now))
      | inr other ↦ h b lt ∙ ap (statistics c b) (sym (others_stay taken z residual b other))
    ]

-- a later one is counted
band_after_later : (c : CoderSettings) (bands : List Statistics) (taken : ℕ → List ℕ) (z residual first : ℕ) (later : List ℕ) → taken z ≡ first ∷ later
    → z < length bands → ((b : ℕ) → b < length bands → BandIs c bands taken b)
    → (b : ℕ) → b < length (set bands z (next_statistics c.gamma_star (of_band bands z) residual))
    → BandIs c (set bands z (next_statistics c.gamma_star (of_band bands z) residual)) (with_residual taken z residual) b
band_after_later c bands taken z residual first later some in_bands h b lt =
    let next : Statistics = next_statistics c.gamma_star (of_band bands z) residual in
    let inside : b < length bands = omega (arith, length-set bands z next) in
    elim (cases_eq b z) [
      | inl same ↦
          (let now : with_residual taken z residual z ≡ first ∷ (later ++ residual ∷ []) = this_grows taken z residual ∙ ap (λ (ns : List ℕ). ns ++ residual ∷ []) some in
          let is : of_band (set bands z next) z ≡ statistics c z (with_residual taken z residual z) =
          get_or-set_same bands z next no_statistics in_bands
          ∙ ap (λ (s : Statistics). next_statistics c.gamma_star s residual) (h z in_bands ∙ ap (statistics c z) some)
          ∙ sym (one_later c z first residual later) ∙ ap (statistics c z) (sym now) in
          subst (BandIs c (set bands z next) (with_residual taken z residual)) (sym same) is)
      | inr other ↦ get_or-set_other bands z b next no_statistics other ∙ h b inside ∙ ap (statistics c b) (sym (others_stay taken z residual b other))
    ]

taken_by_list : (c : CoderSettings) (v : CoderState) (taken : ℕ → List ℕ) (z t residual : ℕ) (residuals : List ℕ) → taken z ≡ residuals → HasTaken c v taken
    → z < length v.bands → t ≡ length residuals → HasTaken c (counted v z t residual) (with_residual taken z residual)
taken_by_list c v taken z t residual [] is h lt e =
    rw e (record { bits = h.bits; umax = h.umax; gamma_star = h.gamma_star; bands = band_after_first c v.bands taken z residual is h.bands; working = h.working })
taken_by_list c v taken z t residual (first ∷ later) is h lt e =
    let not_first : eqb t 0 ≡ false = ne_eqb t 0 (λ k. omega arith) in
    rw (not_first, h.gamma_star) (record {
      bits = h.bits;
      umax = h.umax;
      gamma_star = refl;
      bands = band_after_later c v.bands taken z residual first later is lt h.bands;
      working = h.working;
    })

pub taken_more : (c : CoderSettings) (v : CoderState) (taken : ℕ → List ℕ) (z t residual : ℕ) → HasTaken c v taken → z < length v.bands → t ≡ length (taken z)
    → HasTaken c (counted v z t residual) (with_residual taken z residual)
taken_more c v taken z t residual h lt e = taken_by_list c v taken z t residual (taken z) refl h lt e

-- a number whose code word was appended is put
pub puts_residual : (z t residual : ℕ) (v : CoderState) (written now : List Bool) → z < length v.bands → now ≡ written ++ code_word (code_by v z t) residual
    → PutsResidual z t residual v written (counted v z t residual) now
puts_residual z t residual v written now lt text c taken h is = (
  text ∙ ap (λ (k : Code). written ++ code_word k residual) (code_is c v taken z t h lt is),
  taken_more c v taken z t residual h lt is,
)

-- the same numbers, told otherwise
pub taken_alike : (c : CoderSettings) (v : CoderState) (taken told : ℕ → List ℕ) → ((z : ℕ) → taken z ≡ told z) → HasTaken c v taken → HasTaken c v told
taken_alike c v taken told same h = record {
  bits = h.bits;
  umax = h.umax;
  gamma_star = h.gamma_star;
  bands = λ z lt. h.bands z lt ∙ ap (statistics c z) (same z);
  working = h.working;
}

-- numbers along places, and one more
pub taken_along : (c : CoderSettings) (v : CoderState) (places : List Place) (residuals : List ℕ) (p : Place) (residual : ℕ) → length residuals ≡ length places
    → HasTaken c v (with_residual (λ z. band_residuals z places residuals) p.z residual)
    → HasTaken c v (λ z. band_residuals z (places ++ p ∷ []) (residuals ++ residual ∷ []))
taken_along c v places residuals p residual len h =
    let swapped : (z : ℕ) → eqb z p.z ≡ eqb p.z z = λ z. grind (arith, nat_tests) in
    taken_alike c v _ _ (λ z. rw (swapped z) (sym (band_push z places residuals p residual len))) h

-- the word that stands next, by the earlier numbers of its band
pub word_there : (z t index : ℕ) (old : CoderState) (unread : Unread) (r : Result (ℕ × List Bool) Fault) (c : CoderSettings) (gone : List Place)
    (before : List ℕ) (p : Place) → z < length old.bands → word_at unread.count index (code_by old z t) unread.left ≡ r → p.z ≡ z
    → HasTaken c old (λ b. band_residuals b gone before) → t ≡ length (band_residuals z gone before) → index ≡ length before
    → word_at unread.count (length before) (code_at c p.z (band_residuals p.z gone before)) unread.left ≡ r
word_there z t index old unread r c gone before p lt read own taken is at =
    rw (own, ← at, ← code_is c old (λ b. band_residuals b gone before) z t taken lt is) read

-- ---- at the start

pub settings_of : (p : Params) (umax gamma_star gamma_zero : ℕ) (start : CountStart) → p.coder ≡ Sample umax gamma_star gamma_zero start
    → settings p ≡ record { bits = p.kind.bits; umax = umax; gamma_star = gamma_star; gamma_zero = gamma_zero; start = start }
settings_of p umax gamma_star gamma_zero start e = rw e refl

abbrev pub AreFirst : CoderSettings → ℕ → List Statistics → Type 0
AreFirst c n bands = (z : ℕ) → z < n → of_band bands z ≡ start_statistics c.gamma_zero (constant_of c.start z)

pub new_has_taken : (n : ℕ) (c : CoderSettings) (bands : List Statistics) → length bands ≡ n → AreFirst c n bands
    → HasTaken c (record { bits = c.bits; umax = c.umax; gamma_star = c.gamma_star; bands = bands; refused = None }) (λ z. [])
unfolding statistics
new_has_taken n c bands len first = record { bits = refl; umax = refl; gamma_star = refl; bands = λ z lt. first z (omega (arith, len)); working = refl }
