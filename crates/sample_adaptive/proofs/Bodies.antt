-- Bodies, word after word.
use Rattle.std.proofs.Common.{◌≡◌, ℕ, suc, ◌^◌, ◌<◌, ◌≤◌, Bool, true, false, cond, eqb, List, [], ◌∷◌, ◌++◌, length, Result, Ok, Err, refl, sym}
use Rattle.std.proofs.Common.{ap, ap₂, subst, ◌∙◌, append_assoc, append-nil, arith}
use Rattle.std.proofs.Math.Pow.{pow_mono}
use Rattle.cube_core.specs.declared.order.Place.{Place}
use Rattle.cube_core.specs.Steps.{◌>>=◌}
use Rattle.cube_core.specs.declared.fault.Fault.{Fault}
use Rattle.header_bits.proofs.Each.{bind_same}
use Rattle.header_bits.proofs.Reading.{ok_is}
use Rattle.header_bits.proofs.Fronts.{bind_ok}
use Rattle.sample_adaptive.specs.declared.code_word.Code.{Code}
use Rattle.sample_adaptive.specs.declared.statistics.Statistics.{Statistics}
use Rattle.sample_adaptive.specs.Statistics.{CoderSettings, AreStatistics, first_statistics, next_statistics, statistics_from, statistics}
use Rattle.sample_adaptive.specs.Words.{code_word, code_at}
use Rattle.sample_adaptive.specs.Body.{band_residuals, words_after, sample_body}
use Rattle.sample_adaptive.specs.Reading.{word_at, words_at, sample_body_at}
use Rattle.sample_adaptive.specs.Laws.{AreResiduals, OneBody, BodyIsRead, AreSettings, AccumulatorBound}
use Rattle.sample_adaptive.proofs.Counting.{start_in_range, next_in_range}
use Rattle.sample_adaptive.proofs.Refusals.{word_again, word_takes}

pub code_bits : (c : CoderSettings) (z : ℕ) (residuals : List ℕ) → (code_at c z residuals).bits ≡ c.bits
unfolding code_at
code_bits c z [] = refl
code_bits c z (first ∷ later) = refl

below_code : (c : CoderSettings) (z : ℕ) (residuals : List ℕ) (n : ℕ) → n < 2 ^ (code_at c z residuals).bits → n < 2 ^ c.bits
below_code c z residuals n lt = rw (code_bits c z residuals) at lt

-- ---- reading

pub words_again : (count : ℕ) (c : CoderSettings) (gone : List Place) (before : List ℕ) (places : List Place) (residuals : List ℕ) (rest : List Bool)
    → length residuals ≡ length places → AreResiduals c.bits residuals
    → words_at count c gone before places (words_after c gone before places residuals ++ rest) ≡ Ok (residuals, rest)
unfolding words_at words_after
words_again count c gone before [] [] rest len h = refl
words_again count c gone before (p ∷ ps) (n ∷ ns) rest len h =
    let code : Code = code_at c p.z (band_residuals p.z gone before) in
    let after : List Bool = words_after c (gone ++ p ∷ []) (before ++ n ∷ []) ps ns in
    let fits : n < 2 ^ code.bits = rw (code_bits c p.z (band_residuals p.z gone before)) h.0 in
    rw (
      append_assoc (code_word code n) after rest,
      word_again count (length before) code n (after ++ rest) fits,
      words_again count c (gone ++ p ∷ []) (before ++ n ∷ []) ps ns rest (omega arith) h.1,
    ) refl
words_again count c gone before places residuals rest len h = absurd (omega arith)

-- numbers of a list of places, each of at most D bits, whose words stand next
pub record AreWords (c : CoderSettings) (gone : List Place) (before : List ℕ) (places : List Place) (bits : List Bool) (x : List ℕ × List Bool) : Type 0 where
  pub count : length x.0 ≡ length places
  pub residuals : AreResiduals c.bits x.0
  pub text : bits ≡ words_after c gone before places x.0 ++ x.1

pub words_takes : (count : ℕ) (c : CoderSettings) (gone : List Place) (before : List ℕ) (places : List Place) (bits : List Bool) (x : List ℕ × List Bool)
    → words_at count c gone before places bits ≡ Ok x → AreWords c gone before places bits x
unfolding words_at words_after
words_takes count c gone before [] bits x e = subst (AreWords c gone before [] bits) (ok_is ([], bits) x e) (record { count = refl; residuals = tt; text = refl })
words_takes count c gone before (p ∷ ps) bits x e =
    let code : Code = code_at c p.z (band_residuals p.z gone before) in
    let a = bind_ok (word_at count (length before) code bits)
    (λ n. words_at count c (gone ++ p ∷ []) (before ++ n.0 ∷ []) ps n.1 >>= λ ns. Ok (n.0 ∷ ns.0, ns.1)) x e in
    let b = bind_ok (words_at count c (gone ++ p ∷ []) (before ++ a.0.0 ∷ []) ps a.0.1) (λ ns. Ok (a.0.0 ∷ ns.0, ns.1)) x a.2 in
    let first = word_takes count (length before) code bits a.0 a.1 in
    let others = words_takes count c (gone ++ p ∷ []) (before ++ a.0.0 ∷ []) ps a.0.1 b.0 b.1 in
    let fits = below_code c p.z (band_residuals p.z gone before) a.0.0 first.0 in
    subst (AreWords c gone before (p ∷ ps) bits) (ok_is (a.0.0 ∷ b.0.0, b.0.1) x b.2)
    (record {
      count = ap suc others.count;
      residuals = (fits, others.residuals);
      text = first.1 ∙ ap (λ (bs : List Bool). code_word code a.0.0 ++ bs) others.text
          ∙ sym (append_assoc (code_word code a.0.0) (words_after c (gone ++ p ∷ []) (before ++ a.0.0 ∷ []) ps b.0.0) b.0.1);
    })

then_then : {A B C : Type 0} (r : Result A Fault) (f : A → Result B Fault) (g : B → Result C Fault) → ((r >>= f) >>= g) ≡ (r >>= λ x. f x >>= g)
then_then (Ok x) f g = refl
then_then (Err e) f g = refl

as_it_is : {A B : Type 0} (r : Result (A × B) Fault) → r ≡ (r >>= λ x. Ok (x.0, x.1))
as_it_is (Ok x) = refl
as_it_is (Err e) = refl

-- numbers after others
abbrev pub beyond : List ℕ → List ℕ × List Bool → Result (List ℕ × List Bool) Fault
beyond xs read = Ok (xs ++ read.0, read.1)

cons_then : (n : ℕ) (r : Result (List ℕ × List Bool) Fault) (f g : List ℕ × List Bool → Result (List ℕ × List Bool) Fault)
    → ((a : List ℕ × List Bool) → f a ≡ g (n ∷ a.0, a.1))
    → ((r >>= λ a. f a >>= beyond a.0) >>= beyond (n ∷ [])) ≡ ((r >>= beyond (n ∷ [])) >>= λ a. g a >>= beyond a.0)
cons_then n (Ok a) f g same = rw (same a) (then_then (g (n ∷ a.0, a.1)) (beyond a.0) (beyond (n ∷ [])))
cons_then n (Err e) f g same = refl

-- numbers along places, and along others after them
pub words_at_append : (count : ℕ) (c : CoderSettings) (gone : List Place) (before : List ℕ) (ps qs : List Place) (bits : List Bool)
    → words_at count c gone before (ps ++ qs) bits
    ≡ (words_at count c gone before ps bits >>= λ a. words_at count c (gone ++ ps) (before ++ a.0) qs a.1 >>= beyond a.0)
unfolding words_at
words_at_append count c gone before [] qs bits = rw (append-nil gone, append-nil before) (as_it_is (words_at count c gone before qs bits))
words_at_append count c gone before (p ∷ ps) qs bits =
    let first = word_at count (length before) (code_at c p.z (band_residuals p.z gone before)) bits in
    let few = λ (n : ℕ × List Bool). words_at count c (gone ++ p ∷ []) (before ++ n.0 ∷ []) ps n.1 in
    let rest = λ (a : List ℕ × List Bool). words_at count c (gone ++ (p ∷ ps)) (before ++ a.0) qs a.1 in
    bind_same first _ _ (λ n.
    ap (λ read. read >>= beyond (n.0 ∷ [])) (words_at_append count c (gone ++ p ∷ []) (before ++ n.0 ∷ []) ps qs n.1)
    ∙ cons_then n.0 (few n) _ rest (λ a. ap₂ (λ (ps : List Place) (ns : List ℕ). words_at count c ps ns qs a.1)
    (append_assoc gone (p ∷ []) ps) (append_assoc before (n.0 ∷ []) a.0)))
    ∙ sym (then_then first (λ n. few n >>= beyond (n.0 ∷ [])) (λ a. rest a >>= beyond a.0))

pub body_is_read : BodyIsRead
unfolding sample_body sample_body_at
body_is_read count c places ns bits rest len = (
  λ h text. rw text (words_again count c [] [] places ns rest len h),
  λ e. let h = words_takes count c [] [] places bits (ns, rest) e in (h.residuals, h.text),
)

pub one_body : OneBody
unfolding sample_body
one_body c places ms ns x y hm hn p q e =
    let same = ok_is (ms, x) (ns, y) (sym (words_again 0 c [] [] places ms x hm p) ∙ ap (λ (bits : List Bool). words_at 0 c [] [] places bits) e
    ∙ words_again 0 c [] [] places ns y hn q) in
    (ap (λ (r : List ℕ × List Bool). r.0) same, ap (λ (r : List ℕ × List Bool). r.1) same)

-- ---- one number more

-- the numbers of a band, after one number more
pub band_push : (z : ℕ) (places : List Place) (residuals : List ℕ) (p : Place) (n : ℕ) → length residuals ≡ length places
    → band_residuals z (places ++ p ∷ []) (residuals ++ n ∷ []) ≡ cond (eqb p.z z) (band_residuals z places residuals ++ n ∷ []) (band_residuals z places residuals)
unfolding band_residuals
band_push z [] [] p n len = refl
band_push z (q ∷ qs) (m ∷ ms) p n len = rw (band_push z qs ms p n (omega arith)) (go (eqb q.z z) (eqb p.z z) (band_residuals z qs ms))
  where
    go : (b d : Bool) (ns : List ℕ)
        → cond b (m ∷ cond d (ns ++ n ∷ []) ns) (cond d (ns ++ n ∷ []) ns) ≡ cond d (cond b (m ∷ ns) ns ++ n ∷ []) (cond b (m ∷ ns) ns)
    go true true ns = refl
    go true false ns = refl
    go false true ns = refl
    go false false ns = refl
band_push z places residuals p n len = absurd (omega arith)

pub from_push : (gamma_star : ℕ) (s : Statistics) (residuals : List ℕ) (n : ℕ)
    → statistics_from gamma_star s (residuals ++ n ∷ []) ≡ next_statistics gamma_star (statistics_from gamma_star s residuals) n
unfolding statistics_from
from_push gamma_star s [] n = refl
from_push gamma_star s (m ∷ ms) n = from_push gamma_star (next_statistics gamma_star s m) ms n

-- ---- the bound

from_in_range : (bits gamma_star : ℕ) (s : Statistics) (residuals : List ℕ) → bits ≤ 16 → 1 ≤ gamma_star → AreStatistics gamma_star s → AreResiduals bits residuals
    → AreStatistics gamma_star (statistics_from gamma_star s residuals)
unfolding statistics_from
from_in_range bits gamma_star s [] small least h all = h
from_in_range bits gamma_star s (n ∷ ns) small least h all =
    let power : 2 ^ bits ≤ 2 ^ 16 = pow_mono small in
    from_in_range bits gamma_star (next_statistics gamma_star s n) ns small least (next_in_range gamma_star s n least h (omega (arith, all.0))) all.1

pub in_range : (c : CoderSettings) (z : ℕ) (residuals : List ℕ) → AreSettings c z → AreResiduals c.bits residuals
    → AreStatistics c.gamma_star (statistics c z residuals)
unfolding statistics
in_range c z [] h all = start_in_range c.gamma_star c.gamma_zero _ h.gamma_star.0 h.gamma_zero.1 (omega (arith, h.constant, h.bits))
in_range c z (n ∷ ns) h all =
    from_in_range c.bits c.gamma_star (first_statistics c z) ns h.bits
    (omega (arith, h.gamma_star)) (start_in_range c.gamma_star c.gamma_zero _ h.gamma_star.0 h.gamma_zero.1 (omega (arith, h.constant, h.bits))) all.1

pub accumulator_bound : AccumulatorBound
accumulator_bound c z residuals h all = (in_range c z residuals h all).bound
