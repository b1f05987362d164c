-- What holds of the definitions alone.
use Rattle.std.specs.Prelude.{ℕ, ◌≡◌, ◌+◌, ◌*◌, ◌^◌, ◌<◌, ◌≤◌, Bool, List, ◌++◌, length, Ok, Err, ◌-◌}
use Rattle.std.specs.List.{AllByRecursion}
use Rattle.cube_core.specs.declared.order.Place.{Place}
use Rattle.cube_core.specs.declared.fault.Fault.TheVariants.{Truncated, BadCode}
use Rattle.sample_adaptive.specs.declared.code_word.Code.{Code}
use Rattle.sample_adaptive.specs.declared.statistics.Statistics.{Statistics}
use Rattle.sample_adaptive.specs.Statistics.{level, code_parameter, CoderSettings, counter, accumulator, constant_of}
use Rattle.sample_adaptive.specs.Words.{Form, IsForm, form_text, form_of, code_word}
use Rattle.sample_adaptive.specs.Body.{sample_body}
use Rattle.sample_adaptive.specs.Reading.{word_at, sample_body_at}

-- each residual is below 2^D
abbrev pub AreResiduals : ℕ → List ℕ → Type 0
AreResiduals bits residuals = AllByRecursion (λ n. n < 2 ^ bits) residuals

-- no form is a prefix of another
abbrev pub OneForm : Type 0
OneForm = (c : Code) (f g : Form) (x y : List Bool) → IsForm c f → IsForm c g → form_text c f ++ x ≡ form_text c g ++ y → (f ≡ g) × (x ≡ y)

-- no code word is a prefix of another
abbrev pub OneWord : Type 0
OneWord = (c : Code) (m n : ℕ) (x y : List Bool) → m < 2 ^ c.bits → n < 2 ^ c.bits → code_word c m ++ x ≡ code_word c n ++ y → (m ≡ n) × (x ≡ y)

-- no body is a prefix of the body of another list of as many residuals
abbrev pub OneBody : Type 0
OneBody =
    (c : CoderSettings) (places : List Place) (ms ns : List ℕ) (x y : List Bool)
    → length ms ≡ length places → length ns ≡ length places → AreResiduals c.bits ms → AreResiduals c.bits ns
    → sample_body c places ms ++ x ≡ sample_body c places ns ++ y → (ms ≡ ns) × (x ≡ y)

-- a residual is read exactly if the bits begin with its code word
abbrev pub WordIsRead : Type 0
WordIsRead =
    (count index : ℕ) (c : Code) (n : ℕ) (bits rest : List Bool)
    → (n < 2 ^ c.bits → bits ≡ code_word c n ++ rest → word_at count index c bits ≡ Ok (n, rest))
    × (word_at count index c bits ≡ Ok (n, rest) → (n < 2 ^ c.bits) × (bits ≡ code_word c n ++ rest))

-- the bits begin with a form
pub record Begins (c : Code) (f : Form) (bits rest : List Bool) : Type 0 where
  pub form : IsForm c f
  pub text : bits ≡ form_text c f ++ rest

-- bits that are refused as `Truncated` don't begin with a form
abbrev pub TruncatedIsNoForm : Type 0
TruncatedIsNoForm =
    (count index : ℕ) (c : Code) (bits : List Bool) → word_at count index c bits ≡ Err (Truncated count)
    → (f : Form) (rest : List Bool) → Begins c f bits rest → ⊥

-- bits that are refused as `BadCode` begin with a form that no residual has
abbrev pub BadCodeIsNoWord : Type 0
BadCodeIsNoWord =
    (count index : ℕ) (c : Code) (bits : List Bool) → word_at count index c bits ≡ Err (BadCode index)
    → (f : Form) × (rest : List Bool) × Begins c f bits rest × ((n : ℕ) → n < 2 ^ c.bits → form_of c n ≡ f → ⊥)

-- the residuals of a body are read exactly if the bits begin with the body
abbrev pub BodyIsRead : Type 0
BodyIsRead =
    (count : ℕ) (c : CoderSettings) (places : List Place) (ns : List ℕ) (bits rest : List Bool) → length ns ≡ length places
    → (AreResiduals c.bits ns → bits ≡ sample_body c places ns ++ rest → sample_body_at count c places bits ≡ Ok (ns, rest))
    × (sample_body_at count c places bits ≡ Ok (ns, rest) → AreResiduals c.bits ns × (bits ≡ sample_body c places ns ++ rest))

-- D, γ₀, γ* and K of band z are in their ranges
pub record AreSettings (c : CoderSettings) (z : ℕ) : Type 0 where
  pub bits : c.bits ≤ 16
  pub gamma_zero : (1 ≤ c.gamma_zero) × (c.gamma_zero ≤ 8)
  pub gamma_star : (c.gamma_zero + 1 ≤ c.gamma_star) × (c.gamma_star ≤ 9)
  pub constant : constant_of c.start z + 2 ≤ c.bits

-- Σ is at most 2^16·Γ
abbrev pub AccumulatorBound : Type 0
AccumulatorBound =
    (c : CoderSettings) (z : ℕ) (residuals : List ℕ) → AreSettings c z → AreResiduals c.bits residuals
    → accumulator c z residuals ≤ 2 ^ 16 * counter c z residuals

-- k is the greatest number up to D - 2 with Γ·2^k at most the level, or 0 if 2·Γ is above the level
pub record IsCodeParameter (bits : ℕ) (s : Statistics) (k : ℕ) : Type 0 where
  pub within : k ≤ bits - 2
  pub none : level s < 2 * s.counter → k ≡ 0
  pub fits : 1 ≤ k → s.counter * 2 ^ k ≤ level s
  pub greatest : 2 * s.counter ≤ level s → (j : ℕ) → j ≤ bits - 2 → s.counter * 2 ^ j ≤ level s → j ≤ k

abbrev pub ParameterIsGreatest : Type 0
ParameterIsGreatest = (bits : ℕ) (s : Statistics) → IsCodeParameter bits s (code_parameter bits s)
