-- A run of one band's numbers, taken one after another.
use borrow.Rule.Slice.PartMut.{put_mid, same_len_mid}
use Rattle.std.proofs.Common.{◌≡◌, ◌+◌, ◌-◌, ◌<◌, ◌≤◌, ℕ, suc, Bool, true, false, cond, eqb, List, [], ◌∷◌, ◌++◌, length, take, drop}
use Rattle.std.proofs.Common.{refl, sym, ap, ap₂, subst, ◌∙◌, append_assoc, append-nil, length-append, length-take, length-drop, take-append-drop, arith}
use Rattle.std.proofs.Common.{eq-eqb}
use Rattle.std.proofs.lemmas.Bool.{ne_eqb}
use Rattle.std.proofs.lemmas.List.{get_or-set_same, length-set, set-set, set-get_or, take_all}
use Rattle.std.proofs.lemmas.Slice.{take-put_mid}
use Rattle.std.specs.List.{AllByRecursion}
use Rattle.cube_core.specs.declared.order.Place.{Place}
use Rattle.header_bits.proofs.Items.{all_take, all_drop}
use Rattle.sample_adaptive.specs.declared.statistics.Statistics.{Statistics}
use Rattle.sample_adaptive.specs.Statistics.{CoderSettings, next_statistics, code_parameter}
use Rattle.sample_adaptive.specs.Words.{code_word, code_at}
use Rattle.sample_adaptive.specs.Body.{band_residuals, words_after, sample_body}
use Rattle.sample_adaptive.specs.Taken.{CoderState, PutsResidual, PutsRun, code_by, counted, of_band, no_statistics, with_band}
use Rattle.sample_adaptive.proofs.Taking.{taken_along}

-- ---- how many numbers its band has

pub band_long : (z : ℕ) (gone places : List Place) (before residuals : List ℕ) → length before ≡ length gone → length residuals ≡ length places
    → AllByRecursion (λ p. p.z ≡ z) places
    → length (band_residuals z (gone ++ places) (before ++ residuals)) ≡ length (band_residuals z gone before) + length residuals
unfolding band_residuals
band_long z [] [] [] [] e f h = refl
band_long z [] (p ∷ ps) [] (n ∷ ns) e f h = rw (eq-eqb p.z z h.0) (ap suc (band_long z [] ps [] ns refl (omega (arith, f)) h.1) ∙ omega arith)
band_long z (q ∷ qs) places (b ∷ bs) residuals e f h = by_band (eqb q.z z) (band_long z qs places bs residuals (omega (arith, e)) f h)
  where
    by_band : (own : Bool) → length (band_residuals z (qs ++ places) (bs ++ residuals)) ≡ length (band_residuals z qs bs) + length residuals
        → length (cond own (b ∷ band_residuals z (qs ++ places) (bs ++ residuals)) (band_residuals z (qs ++ places) (bs ++ residuals)))
        ≡ length (cond own (b ∷ band_residuals z qs bs) (band_residuals z qs bs)) + length residuals
    by_band true h = ap suc h ∙ omega arith
    by_band false h = h
band_long z gone places before residuals e f h = absurd (omega arith)

-- ---- words of numbers after others

pub words_append : (c : CoderSettings) (gone : List Place) (before : List ℕ) (ps qs : List Place) (ms ns : List ℕ) → length ms ≡ length ps
    → words_after c gone before (ps ++ qs) (ms ++ ns) ≡ words_after c gone before ps ms ++ words_after c (gone ++ ps) (before ++ ms) qs ns
unfolding words_after
words_append c gone before [] qs [] ns e = rw (append-nil gone, append-nil before) refl
words_append c gone before (p ∷ ps) qs (m ∷ ms) ns e =
    let word : List Bool = code_word (code_at c p.z (band_residuals p.z gone before)) m in
    let more = words_append c (gone ++ p ∷ []) (before ++ m ∷ []) ps qs ms ns (omega (arith, e)) in
    ap (λ (bs : List Bool). word ++ bs) (rw (append_assoc gone (p ∷ []) ps, append_assoc before (m ∷ []) ms) at more)
    ∙ sym (append_assoc word (words_after c (gone ++ p ∷ []) (before ++ m ∷ []) ps ms) (words_after c (gone ++ (p ∷ ps)) (before ++ (m ∷ ms)) qs ns))
words_append c gone before ps qs ms ns e = absurd (omega arith)

-- the body of a run more
pub body_run : (c : CoderSettings) (gone ps : List Place) (before ms : List ℕ) → length before ≡ length gone
    → sample_body c (gone ++ ps) (before ++ ms) ≡ sample_body c gone before ++ words_after c gone before ps ms
unfolding sample_body
body_run c gone ps before ms e = words_append c [] [] gone ps before ms e

-- the body of one number more
pub body_push : (c : CoderSettings) (places : List Place) (residuals : List ℕ) (p : Place) (n : ℕ) → length residuals ≡ length places
    → sample_body c (places ++ p ∷ []) (residuals ++ n ∷ []) ≡ sample_body c places residuals ++ code_word (code_at c p.z (band_residuals p.z places residuals)) n
unfolding words_after
body_push c places residuals p n e =
    body_run c places (p ∷ []) residuals (n ∷ []) e ∙ ap (λ (bits : List Bool). sample_body c places residuals ++ bits) (append-nil _)

-- ---- runs one after another

pub run_none : (z t : ℕ) (v : CoderState) (written : List Bool) → PutsRun z t [] v written v written
unfolding words_after
run_none z t v written c gone [] before e f h taken is = rw (append-nil gone, append-nil before) (sym (append-nil written), taken)
run_none z t v written c gone (p ∷ ps) before e f h taken is = absurd (omega (arith, f))

pub run_one : (z t residual : ℕ) (old new : CoderState) (written written_now : List Bool) → PutsResidual z t residual old written new written_now
    → PutsRun z t (residual ∷ []) old written new written_now
unfolding words_after
run_one z t residual old new written written_now puts c gone (p ∷ []) before e f h taken is =
    let here : PutsResidual p.z t residual old written new written_now = subst (λ b. PutsResidual b t residual old written new written_now) (sym h.0) puts in
    let did = here c (λ b. band_residuals b gone before) taken (is ∙ ap (λ b. length (band_residuals b gone before)) (sym h.0)) in (
      did.0 ∙ ap (λ (bits : List Bool). written ++ bits) (sym (append-nil (code_word (code_at c p.z (band_residuals p.z gone before)) residual))),
      taken_along c new gone before p residual e did.1,
    )
run_one z t residual old new written written_now puts c gone places before e f h taken is = absurd (omega arith)

-- how places are parted where numbers are, and what is known of either part
pub record Parted (z t : ℕ) (xs ys : List ℕ) (gone places : List Place) (before : List ℕ) : Type 0 where
  pub few : length xs ≡ length (take (length xs) places)
  pub own : AllByRecursion (λ p. p.z ≡ z) (take (length xs) places)
  pub long : length (before ++ xs) ≡ length (gone ++ take (length xs) places)
  pub rest : length ys ≡ length (drop (length xs) places)
  pub others : AllByRecursion (λ p. p.z ≡ z) (drop (length xs) places)
  pub time : t + length xs ≡ length (band_residuals z (gone ++ take (length xs) places) (before ++ xs))
  pub whole : take (length xs) places ++ drop (length xs) places ≡ places
  pub joined : (gone ++ take (length xs) places) ++ drop (length xs) places ≡ gone ++ places

pub parted : (z t : ℕ) (xs ys : List ℕ) (gone places : List Place) (before : List ℕ) → length before ≡ length gone → length (xs ++ ys) ≡ length places
    → AllByRecursion (λ p. p.z ≡ z) places → t ≡ length (band_residuals z gone before) → Parted z t xs ys gone places before
parted z t xs ys gone places before e f h is =
    let few : length xs ≡ length (take (length xs) places) = omega (arith, f, length-append xs ys, length-take (length xs) places) in
    let own = all_take (λ p. p.z ≡ z) (length xs) places h in
    record {
      few = few;
      own = own;
      long = omega (arith, length-append before xs, length-append gone (take (length xs) places), e, few);
      rest = omega (arith, f, length-append xs ys, length-drop (length xs) places);
      others = all_drop (λ p. p.z ≡ z) (length xs) places h;
      time = omega (arith, is, band_long z gone (take (length xs) places) before xs e few own);
      whole = take-append-drop (length xs) places;
      joined = rw (append_assoc, take-append-drop) refl;
    }

pub run_after : (z t : ℕ) (xs ys : List ℕ) (old mid new : CoderState) (written written_mid written_now : List Bool) → PutsRun z t xs old written mid written_mid
    → PutsRun z (t + length xs) ys mid written_mid new written_now
    → PutsRun z t (xs ++ ys) old written new written_now
run_after z t xs ys old mid new written written_mid written_now first second c gone places before e f h taken is =
    let p = parted z t xs ys gone places before e f h is in
    let a = first c gone (take (length xs) places) before e p.few p.own taken is in
    let b = second c (gone ++ take (length xs) places) (drop (length xs) places) (before ++ xs) p.long p.rest p.others a.1 p.time in
    let text = b.0 ∙ ap (λ (bits : List Bool). bits ++ words_after c (gone ++ take (length xs) places) (before ++ xs) (drop (length xs) places) ys) a.0
    ∙ append_assoc written (words_after c gone before (take (length xs) places) xs)
    (words_after c (gone ++ take (length xs) places) (before ++ xs) (drop (length xs) places) ys)
    ∙ ap (λ (bits : List Bool). written ++ bits) (sym (words_append c gone before (take (length xs) places) (drop (length xs) places) xs ys p.few)) in
    (rw p.whole at text, rw (p.joined, append_assoc before xs ys) at b.1)

-- ---- a number after the first of its band

module _ (z t : ℕ) (v : CoderState) (s : Statistics) (lt : z < length v.bands) (some : 0 < t) where
  pub later_inside : z < length (with_band v z s).bands
  later_inside = omega (arith, lt, length-set v.bands z s)

  pub later_code : code_by (with_band v z s) z t ≡ record { limit = v.umax; k = code_parameter v.bits s; bits = v.bits }
  later_code = rw (ne_eqb t 0 (λ e. omega (arith, some, e)), get_or-set_same v.bands z s no_statistics lt) refl

  pub later_counted : (residual : ℕ) → counted (with_band v z s) z t residual ≡ with_band v z (next_statistics v.gamma_star s residual)
  later_counted residual = rw (ne_eqb t 0 (λ e. omega (arith, some, e)), get_or-set_same v.bands z s no_statistics lt, set-set) refl

pub same_band : (v : CoderState) (z : ℕ) (s : Statistics) → s ≡ of_band v.bands z → with_band v z s ≡ v
same_band v z s e = rw (e, set-get_or) refl

-- two words after what was written
pub two_words : (was now a b v w : List Bool) → now ≡ was ++ a ++ b → a ≡ v → b ≡ w → now ≡ was ++ v ++ w
two_words was now a b v w text e f = text ∙ ap₂ (λ (p q : List Bool). was ++ p ++ q) e f

-- a list whose end was written anew, after its first numbers
pub after_first : (first rest : List ℕ) (n : ℕ) → n ≤ length first → length rest ≡ length (take (length first - n) (drop n first))
    → put_mid n (length first - n) first rest ≡ take n first ++ rest
after_first first rest n within long =
    let part : length rest ≡ length first - n = omega (arith, long, length-take (length first - n) (drop n first), length-drop n first) in
    let all = same_len_mid n (length first - n) first rest long in
    sym (take_all (n + length rest) _ (omega (arith, all, part, within))) ∙ take-put_mid n (length first - n) first rest (n + length rest) refl within
