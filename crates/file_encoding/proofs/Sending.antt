-- The walk over a predictor's own places, step by step.
use Rattle.std.proofs.Common.{◌≡◌, ◌+◌, ◌-◌, ◌<◌, ◌≤◌, ℕ, zero, suc, Bool, true, false, List, [], ◌∷◌, ◌++◌, length, take, drop, get_or}
use Rattle.std.proofs.Common.{refl, sym, ap, ap₂, ◌∙◌, subst, map, append-nil, append_assoc, zero-add}
use Rattle.std.proofs.Common.{drop-cons, take_all, length-take, length-drop, take-add, arith}
use Rattle.std.specs.List.{flat_map, AllByRecursion}
use Rattle.std.proofs.lemmas.Grind.{flat_map-append}
use Rattle.std.proofs.lemmas.Slice.{take-put_mid, drop-put_mid}
use borrow.Rule.Slice.PartMut.{put_mid}
use Rattle.std.proofs.lemmas.List.{map-append, take-append-drop, drop-drop, take-map, drop-map, length-map}
use Rattle.cube_core.specs.Image.{Image}
use Rattle.cube_core.specs.Order.{from, upto}
use Rattle.header_bits.specs.declared.params.Params.{Params}
use Rattle.predict_core.specs.Following.{PredictorState}
use Rattle.header_bits.proofs.Items.{all_append, all_drop}
use Rattle.file_encoding.specs.Own.{row_of}
use Rattle.file_encoding.specs.Walks.{IsAt, AreAt, bands_of}
use Rattle.file_encoding.specs.Takings.{AreTakings}

-- ---- pieces, one after another

pub from_split : (a m n : ℕ) → from a (m + n) ≡ from a m ++ from (a + m) n
from_split a zero n = ap₂ from (omega arith) (omega arith)
from_split a (suc m) n =
    let more : suc m + n ≡ suc (m + n) = omega arith in
    rw more (ap (λ ks. a ∷ ks) (from_split (suc a) m n ∙ ap (λ k. from (suc a) m ++ from k n) (omega arith)))

pub upto_split : (x n : ℕ) → upto (x + n) ≡ upto x ++ from x n
upto_split x n = rw zero-add at (from_split 0 x n)

-- two lists that are made alike, place by place
pub same_lists : (f g : ℕ → List ℕ) (a b n : ℕ) → ((i : ℕ) → i < n → f (a + i) ≡ g (b + i)) → flat_map f (from a n) ≡ flat_map g (from b n)
same_lists f g a b zero h = refl
same_lists f g a b (suc n) h =
    let first : f a ≡ g b = ap f (omega arith) ∙ h 0 (omega arith) ∙ ap g (omega arith) in
    ap₂ (λ u v. u ++ v) first (same_lists f g (suc a) (suc b) n (λ i lt. ap f (omega arith) ∙ h (suc i) (omega (arith, lt)) ∙ ap g (omega arith)))

-- a list's front, what comes next, both together, and the rest
pub record Pieces (all done next up : List ℕ) : Type 0 where
  pub more : up ≡ done ++ next
  pub tail : List ℕ
  pub whole : all ≡ up ++ tail

pub run_piece : (ns : List ℕ) (i n : ℕ) → Pieces ns (take i ns) (take n (drop i ns)) (take (i + n) ns)
run_piece ns i n = record { more = take-add i n ns; tail = drop (i + n) ns; whole = sym (take-append-drop (i + n) ns) }

-- what is made of each item of the pieces
pieces_of : (f : ℕ → List ℕ) {all done next up : List ℕ} → Pieces all done next up → Pieces (flat_map f all) (flat_map f done) (flat_map f next) (flat_map f up)
pieces_of f {done = done} {next = next} {up = up} h = record {
  more = ap (flat_map f) h.more ∙ flat_map-append f done next;
  tail = flat_map f h.tail;
  whole = ap (flat_map f) h.whole ∙ flat_map-append f up h.tail;
}

pub some_rest : (f : ℕ → List ℕ) (zs : List ℕ) (i n : ℕ)
    → Pieces (flat_map f zs) (flat_map f (take i zs)) (flat_map f (take n (drop i zs))) (flat_map f (take (i + n) zs))
some_rest f zs i n = pieces_of f (run_piece zs i n)

pub piece_rest : (f : ℕ → List ℕ) (x n m : ℕ) → x + n ≤ m
    → Pieces (flat_map f (upto m)) (flat_map f (upto x)) (flat_map f (from x n)) (flat_map f (upto (x + n)))
piece_rest f x n m le =
    let all : x + n + (m - (x + n)) ≡ m = omega (arith, le) in
    let rest : Pieces (upto m) (upto x) (from x n) (upto (x + n)) =
    record { more = upto_split x n; tail = from (x + n) (m - (x + n)); whole = rw all at (upto_split (x + n) (m - (x + n))) } in
    pieces_of f rest

pub upto_rest : (f : ℕ → List ℕ) (i n : ℕ) → i < n → Pieces (flat_map f (upto n)) (flat_map f (upto i)) (f i) (flat_map f (upto (i + 1)))
upto_rest f i n lt = rw (append-nil (f i)) at (piece_rest f i 1 n (omega (arith, lt)))

-- pieces of the first of two lists, and the second
pub front_piece : (rest : List ℕ) {all done next up : List ℕ} → Pieces all done next up → Pieces (all ++ rest) done next up
front_piece rest {up = up} h =
    record { more = h.more; tail = h.tail ++ rest; whole = ap (λ v. v ++ rest) h.whole ∙ append_assoc up h.tail rest }

pub last_piece : (all rest : List ℕ) → Pieces (all ++ rest) all rest (all ++ rest)
last_piece all rest = record { more = refl; tail = []; whole = sym (append-nil (all ++ rest)) }

-- what comes of the next numbers of a list, where those before them were taken: they may be taken too, and the taker
-- then has gone on with the list to their end, or has stopped within it
pub record Steps {S : Type 0} (may : S → List ℕ → Type 0) (takes : S → S → Bool → List ℕ → Type 0) (old mid : S) (all numbers up : List ℕ) : Type 0 where
  pub fits : may mid numbers
  pub so_far : (new : S) (result : Bool) → takes mid new result numbers → takes old new result up
  pub cut : (new : S) (result : Bool) → result ≡ false → takes mid new result numbers → takes old new false all
  pub more : (new : S) (result : Bool) → result ≡ true → takes mid new result numbers → takes old new true up

module _ {S : Type 0} {may : S → List ℕ → Type 0} {takes : S → S → Bool → List ℕ → Type 0} (laws : AreTakings may takes) where
  pub none_yet : {s : S} {list : List ℕ} → may s list → takes s s true []
  none_yet h = laws.none _ (laws.less _ [] _ h)

  pub stepped : {old mid : S} {all done next up numbers : List ℕ} → takes old mid true done → may old all → Pieces all done next up → numbers ≡ next
      → Steps may takes old mid all numbers up
  stepped {old = old} {done = done} {next = next} h m pieces same =
      let there = pieces.whole ∙ ap (λ v. v ++ pieces.tail) pieces.more in
      record {
        fits = rw same (laws.more _ _ done next h (laws.less _ (done ++ next) pieces.tail (subst (may old) there m)));
        so_far = λ new result k. rw pieces.more (laws.append _ _ _ result _ _ h (rw same at k));
        cut = λ new result e k. rw there (laws.cut _ _ (done ++ next) pieces.tail (laws.append _ _ _ false _ _ h (rw (same, e) at k)));
        more = λ new result e k. rw pieces.more (laws.append _ _ _ true _ _ h (rw (same, e) at k));
      }

-- ---- some of the bands

pub at_same : (p : Params) (c : Image) (t u : ℕ) (bands : List PredictorState) → AreAt p c t bands → t ≡ u → AreAt p c u bands
at_same p c t u bands h e = subst (λ k. AreAt p c k bands) e h

pub nothing_each : {A : Type 0} (xs : List A) → flat_map {X = A} {A = ℕ} (λ x. []) xs ≡ []
nothing_each [] = refl
nothing_each (x ∷ xs) = nothing_each xs

-- a row of no bands has no residuals
pub row_of_none : (p : Params) (c : Image) (y : ℕ) → row_of p c [] y ≡ []
unfolding row_of
row_of_none p c y = nothing_each (upto c.shape.columns)

-- some bands were put in the place of as many
pub bands_put : (bands was sub : List PredictorState) (i n : ℕ) → bands_of bands ≡ bands_of was → bands_of sub ≡ bands_of (take n (drop i bands))
    → bands_of (put_mid i n bands sub) ≡ bands_of was
bands_put bands was sub i n same e = rw (map-append, map-append, e, ← map-append, take-append-drop, ← map-append, take-append-drop) same

-- the first i bands are done, and the others are still at place t
pub record Parted (Done : PredictorState → Type 0) (p : Params) (c : Image) (t i : ℕ) (bands was : List PredictorState) : Type 0 where
  pub done : AllByRecursion Done (take i bands)
  pub left : AreAt p c t (drop i bands)
  pub same : bands_of bands ≡ bands_of was

-- which bands come next
pub next_bands : (bands was : List PredictorState) (i m n : ℕ) → m ≡ n → bands_of bands ≡ bands_of was
    → bands_of (take m (drop i bands)) ≡ take n (drop i (bands_of was))
next_bands bands was i m n e same = rw (e, ← take-map, ← drop-map, same) refl

-- the next n are done too, and were put back
pub parted_put : {Done : PredictorState → Type 0} {p : Params} {c : Image} {t i : ℕ} {bands was : List PredictorState} (n j : ℕ) (sub : List PredictorState)
    → Parted Done p c t i bands was → j ≡ i + n → j ≤ length bands → AllByRecursion Done sub → bands_of sub ≡ bands_of (take n (drop i bands))
    → Parted Done p c t j (put_mid i n bands sub) was
parted_put {Done = Done} {p = p} {c = c} {t = t} {i = i} {bands = bands} {was = was} n j sub h e fits past same =
    let long = ap (λ (zs : List ℕ). length zs) same in
    let many : length sub ≡ n = omega (arith, long, e, fits, length-map {A = PredictorState} {B = ℕ}, length-take n (drop i bands), length-drop i bands) in
    record {
      done = rw (take-put_mid i n bands sub j (omega (arith, e, many)) (omega (arith, e, fits))) (all_append Done (take i bands) sub h.done past);
      left = rw (drop-put_mid i n bands sub j (omega (arith, e)) (omega (arith, e, fits)) many, e)
          (rw drop-drop at (all_drop (IsAt p c t) n (drop i bands) h.left));
      same = bands_put bands was sub i n h.same same;
    }

-- the items from place a on, one by one
pub items_from : {A : Type 0} (xs : List A) (d : A) (a n : ℕ) → a + n ≤ length xs → map (λ i. get_or xs i d) (from a n) ≡ take n (drop a xs)
items_from xs d a zero le = refl
items_from xs d a (suc n) le =
    let here : a < length xs = omega (arith, le) in
    rw (drop-cons xs a d here) (ap (λ v. get_or xs a d ∷ v) (items_from xs d (suc a) n (omega (arith, le))))

pub all_items : {A : Type 0} (xs : List A) (d : A) (n : ℕ) → length xs ≡ n → xs ≡ map (λ i. get_or xs i d) (upto n)
all_items xs d n e = sym (items_from xs d 0 n (omega (arith, e)) ∙ take_all n xs (omega (arith, e)))

-- one band alone
pub one_alone : (f : List ℕ → List ℕ) (bands : List PredictorState) → length bands ≡ 1 → f (bands_of bands) ≡ flat_map (λ z. f (z ∷ [])) (bands_of bands)
one_alone f bands e =
    let all = all_items (bands_of bands) 0 1 (length-map bands (λ b. b.band) ∙ e) in
    subst (λ v. f v ≡ flat_map (λ z. f (z ∷ [])) v) (sym all) (sym (append-nil (f (get_or (bands_of bands) 0 0 ∷ []))))
