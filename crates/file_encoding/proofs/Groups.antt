-- A predictor's bands, group after group.
use Rattle.std.proofs.Common.{◌≡◌, ◌+◌, ◌*◌, ◌-◌, ◌/◌, ◌<◌, ◌≤◌, ℕ, suc, min, List, [], ◌∷◌, ◌++◌, length, take, drop, get_or, refl, sym, ap, ◌∙◌, append_assoc}
use Rattle.std.proofs.Common.{length-append, arith, cond, eqb, inl, inr}
use Rattle.std.specs.Prelude.{◌==◌, Bool, true, false, if◌then◌else◌}
use Rattle.std.specs.List.{flat_map}
use Rattle.std.proofs.lemmas.Bool.{cases_Bool, eq-eqb, ne_eqb, cond-true, cond-false}
use Rattle.std.proofs.lemmas.List.{length-map, take-map, drop-map}
use Rattle.std.proofs.lemmas.Nat.{mul-le}
use Rattle.std.proofs.lemmas.List.Elements.{filter-append}
use Rattle.std.proofs.lemmas.List.Sums.{length-filter, count_by-le-length}
use Rattle.cube_core.proofs.Lists.{length-from}
use Rattle.std.proofs.Math.Nat.{div-mul-le_self}
use Rattle.std.proofs.Math.Seq.{take-append_seam, drop-append_seam}
use Rattle.cube_core.specs.Image.{Image}
use Rattle.cube_core.specs.Shape.{Sizes}
use Rattle.cube_core.specs.Order.{from, upto, group, group_count}
use Rattle.header_bits.specs.declared.params.Params.{Params}
use Rattle.predict_core.specs.Following.{PredictorState}
use Rattle.file_encoding.specs.Own.{own, row_of, line_of}
use Rattle.file_encoding.specs.Walks.{bands_of}
use Rattle.file_encoding.proofs.Sending.{from_split, upto_split, row_of_none, same_lists}

-- ---- band after band

-- a band that is the predictor's, and one that isn't
pub own_one : (q z owner : ℕ) (deal : List ℕ) → owner ≡ get_or deal z 0 → owner ≡ q → own q deal (z ∷ []) ≡ z ∷ []
own_one q z owner deal e same = cond-true _ _ _ (eq-eqb (get_or deal z 0) q (sym e ∙ same))

pub own_none : (q z owner : ℕ) (deal : List ℕ) → owner ≡ get_or deal z 0 → (owner ≡ q → ⊥) → own q deal (z ∷ []) ≡ []
own_none q z owner deal e other = cond-false _ _ _ (ne_eqb (get_or deal z 0) q (λ h. other (e ∙ h)))

-- one band more
pub own_next : (q first z : ℕ) (deal : List ℕ) → first ≤ z
    → length (own q deal (from first (z + 1 - first))) ≡ length (own q deal (from first (z - first))) + cond (eqb (get_or deal z 0) q) 1 0
own_next q first z deal le =
    let e : z + 1 - first ≡ (z - first) + 1 = omega arith in
    let f : first + (z - first) ≡ z = omega arith in
    rw (e, from_split first (z - first) 1, f, filter-append, length-append)
    (elim (cases_Bool (get_or deal z 0 == q)) [ inl t ↦ rw t refl | inr t ↦ rw t refl ])

pub own_split : (q : ℕ) (deal : List ℕ) (x n : ℕ) → own q deal (upto (x + n)) ≡ own q deal (upto x) ++ own q deal (from x n)
own_split q deal x n = ap (own q deal) (upto_split x n) ∙ filter-append (λ z. get_or deal z 0 == q) (upto x) (from x n)

-- band after band, of which only the predictor's own have anything
one_more : (f : List ℕ → List ℕ) (b : Bool) (z : ℕ) (zs ns : List ℕ) → f [] ≡ [] → ns ≡ flat_map (λ z. f (z ∷ [])) zs
    → f (if b then z ∷ [] else []) ++ ns ≡ flat_map (λ z. f (z ∷ [])) (if b then z ∷ zs else zs)
one_more f true z zs ns none e = ap (λ v. f (z ∷ []) ++ v) e
one_more f false z zs ns none e = rw none e

pub own_alone : (q : ℕ) (deal : List ℕ) (f : List ℕ → List ℕ) → f [] ≡ [] → (zs : List ℕ)
    → flat_map (λ z. f (own q deal (z ∷ []))) zs ≡ flat_map (λ z. f (z ∷ [])) (own q deal zs)
own_alone q deal f none [] = refl
own_alone q deal f none (z ∷ zs) =
    one_more f (get_or deal z 0 == q) z (own q deal zs) (flat_map (λ z. f (own q deal (z ∷ []))) zs) none (own_alone q deal f none zs)

-- a predictor has at most all of some bands
pub own_few : (q : ℕ) (deal : List ℕ) (a n : ℕ) → length (own q deal (from a n)) ≤ n
own_few q deal a n =
    omega (arith, length-filter (λ z. get_or deal z 0 == q) (from a n), count_by-le-length (λ z. get_or deal z 0 == q) (from a n), length-from a n)

-- ---- group after group

-- the i-th group's bands among the predictor's
pub record IsGroup (q : ℕ) (deal : List ℕ) (s : Sizes) (depth i total end slot count : ℕ) (bands : List PredictorState) : Type 0 where
  pub in_order : i < group_count s depth
  pub next : end ≡ min ((i + 1) * depth) s.bands
  pub more : slot + count ≡ length (own q deal (upto end))
  pub fits : slot + count ≤ length bands
  pub few : length bands ≤ total
  pub there : bands_of (take (slot + count - slot) (drop slot bands)) ≡ own q deal (group s depth i)

pub is_group : (q : ℕ) (deal : List ℕ) (s : Sizes) (depth i first total end slot count : ℕ) (bands : List PredictorState) → 1 ≤ depth → total ≡ s.bands
    → i < (total + depth - 1) / depth → first ≡ min (i * depth) s.bands → end ≡ min total (first + depth) → slot ≡ length (own q deal (upto first))
    → count ≡ length (own q deal (from first (end - first))) → bands_of bands ≡ own q deal (upto s.bands) → IsGroup q deal s depth i total end slot count bands
is_group q deal s depth i first total end slot count bands some all lt first_is end_is slot_is count_is own_is =
    let low : (total + depth - 1) / depth * depth ≤ total + depth - 1 = div-mul-le_self (total + depth - 1) depth in
    let high : suc i * depth ≤ (total + depth - 1) / depth * depth = mul-le (suc i) depth ((total + depth - 1) / depth) depth lt (omega arith) in
    let start : first ≡ i * depth = omega (arith, all, first_is, low, high) in
    let size : end - first ≡ min depth (s.bands - i * depth) = omega (arith, all, end_is, start, low, high) in
    let front : first + (end - first) ≡ end = omega (arith, all, end_is, start, low, high) in
    let whole : end + (s.bands - end) ≡ s.bands = omega (arith, all, end_is) in
    let before = rw front at (own_split q deal first (end - first)) in
    let mine = rw whole at (own_split q deal end (s.bands - end)) in
    let more : slot + count ≡ length (own q deal (upto end)) = rw (before, length-append) (omega (arith, slot_is, count_is)) in
    let long : length bands ≡ length (own q deal (upto s.bands)) = rw (← own_is, length-map) refl in
    let size_of : slot + count - slot ≡ count = omega arith in
    record {
      in_order = rw all at lt;
      next = omega (arith, all, end_is, start);
      more = more;
      fits = rw (long, mine, length-append) (omega (arith, more));
      few = omega (arith, all, long, own_few q deal 0 s.bands);
      there = rw (size_of, ← take-map, ← drop-map, own_is, slot_is, count_is, mine, before, append_assoc, drop-append_seam, take-append_seam)
          (ap (own q deal) (rw size (ap (λ k. from k (min depth (s.bands - i * depth))) start)));
    }

-- a line of groups of one band is the rows of the own bands
pub line_alone : (p : Params) (c : Image) (y q : ℕ) (deal : List ℕ) (depth : ℕ) (zs : List ℕ) → depth ≡ 1 → zs ≡ own q deal (upto c.shape.bands)
    → line_of p c q deal depth y ≡ flat_map (λ z. row_of p c (z ∷ []) y) zs
unfolding line_of
line_alone p c y q deal depth zs one mine =
    let count : (c.shape.bands + 1 - 1) / 1 ≡ c.shape.bands = omega arith in
    rw (one, mine, count) (same_lists _ (λ z. row_of p c (own q deal (z ∷ [])) y) 0 0 c.shape.bands
    (λ i lt. ap (λ zs. row_of p c (own q deal zs) y) (single (0 + i) (omega (arith, lt))))
    ∙ own_alone q deal (λ zs. row_of p c zs y) (row_of_none p c y) (upto c.shape.bands))
  where
    single : (i : ℕ) → i < c.shape.bands → group c.shape 1 i ≡ i ∷ []
    single i lt =
        let first : i * 1 ≡ i = omega arith in
        let size : min 1 (c.shape.bands - i) ≡ 1 = omega (arith, lt) in
        rw (first, size) refl

-- and all its lines are
pub lines_alone : (p : Params) (c : Image) (q : ℕ) (deal : List ℕ) (depth : ℕ) (zs : List ℕ) → depth ≡ 1 → zs ≡ own q deal (upto c.shape.bands)
    → flat_map (λ y. line_of p c q deal depth y) (upto c.shape.rows) ≡ flat_map (λ y. flat_map (λ z. row_of p c (z ∷ []) y) zs) (upto c.shape.rows)
lines_alone p c q deal depth zs one mine =
    same_lists (λ y. line_of p c q deal depth y) (λ y. flat_map (λ z. row_of p c (z ∷ []) y) zs) 0 0 c.shape.rows
    (λ i lt. line_alone p c (0 + i) q deal depth zs one mine)
