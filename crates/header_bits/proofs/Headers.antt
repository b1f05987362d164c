-- The whole header: exactly what is spelt is read.
use Rattle.std.proofs.Common.{◌≡◌, ℕ, ◌+◌, ◌≤◌, Bool, ltb, List, ◌++◌, length, drop, Result, Ok, Err, ℤ, refl, sym, ap, ◌∙◌}
use Rattle.std.proofs.lemmas.Bool.{ltb-false}
use Rattle.cube_core.specs.declared.fault.Fault.{Fault}
use Rattle.header_bits.specs.declared.params.Params.{Params}
use Rattle.header_bits.specs.declared.image_part.ImagePart.{ImagePart}
use Rattle.header_bits.specs.declared.predictor_part.PredictorPart.{PredictorPart}
use Rattle.header_bits.specs.declared.coder_part.CoderPart.{CoderPart}
use Rattle.cube_core.specs.Steps.{◌>>=◌}
use Rattle.header_bits.specs.Reading.{Reading}
use Rattle.header_bits.specs.Layout.{total, values}
use Rattle.cube_core.specs.declared.fault.Fault.TheVariants.{ShortHeader}
use Rattle.header_bits.specs.Parts.{Part, part_at, then_at, as_at, SpellsPart, IsExact}
use Rattle.header_bits.specs.ImagePart.{image}
use Rattle.header_bits.specs.PredictorPart.{predictor}
use Rattle.header_bits.specs.CoderPart.{coder}
use Rattle.header_bits.specs.TableParts.{weights, constants}
use Rattle.header_bits.specs.Header.{HeaderContents, parts_at, SpellsParts, coder_start, params_of, header_at, SpellsHeader}
use Rattle.header_bits.proofs.Exact.{part_exact, then_exact, as_exact}
use Rattle.header_bits.proofs.Fronts.{bind_ok, guard_ok}
use Rattle.header_bits.proofs.Reading.{ok_is}

parts_exact : IsExact parts_at SpellsParts
unfolding parts_at
parts_exact =
    let one = then_exact (part_at image) (λ i. part_at (predictor i)) (SpellsPart image) (λ i. SpellsPart (predictor i)) (part_exact image)
    (λ i. part_exact (predictor i)) in
    let two = then_exact _ (λ x. part_at (weights x.0 x.1)) _ (λ x. SpellsPart (weights x.0 x.1)) one (λ x. part_exact (weights x.0 x.1)) in
    let three = then_exact _ (λ x. part_at (coder (coder_start x.0.0 x.0.1) x.0.0)) _ (λ x. SpellsPart (coder (coder_start x.0.0 x.0.1) x.0.0)) two
    (λ x. part_exact (coder (coder_start x.0.0 x.0.1) x.0.0)) in
    then_exact _ (λ x. part_at (constants (coder_start x.0.0.0 x.0.0.1 + 16) x.0.0.0 x.1)) _
    (λ x. SpellsPart (constants (coder_start x.0.0.0 x.0.0.1 + 16) x.0.0.0 x.1)) three
    (λ x. part_exact (constants (coder_start x.0.0.0 x.0.0.1 + 16) x.0.0.0 x.1))

pub header_exact : IsExact header_at SpellsHeader
unfolding header_at
header_exact = as_exact params_of parts_at SpellsParts parts_exact

-- ---- one part after another

pub then_found : {X Y : Type 0} (first : Reading X) (second : X → Reading Y) (x : X) (y : Y) (bits one two : List Bool) → first bits ≡ Ok (x, one)
    → second x one ≡ Ok (y, two) → then_at first second bits ≡ Ok ((x, y), two)
unfolding then_at
then_found first second x y bits one two e f = rw (e, f) refl

first_refused : {X Y : Type 0} (first : Reading X) (second : X → Reading Y) (e : Fault) (bits : List Bool) → first bits ≡ Err e
    → then_at first second bits ≡ Err e
unfolding then_at
first_refused first second e bits h = rw h refl

second_refused : {X Y : Type 0} (first : Reading X) (second : X → Reading Y) (x : X) (e : Fault) (bits one : List Bool) → first bits ≡ Ok (x, one)
    → second x one ≡ Err e → then_at first second bits ≡ Err e
unfolding then_at
second_refused first second x e bits one h k = rw (h, k) refl

-- the first two parts, three and four
abbrev two_at : Reading (ImagePart × PredictorPart)
two_at = then_at (part_at image) (λ i. part_at (predictor i))

abbrev three_at : Reading ((ImagePart × PredictorPart) × List ℤ)
three_at = then_at two_at (λ x. part_at (weights x.0 x.1))

abbrev four_at : Reading (((ImagePart × PredictorPart) × List ℤ) × CoderPart)
four_at = then_at three_at (λ x. part_at (coder (coder_start x.0.0 x.0.1) x.0.0))

-- what was read of a header so far
pub record HasRead (i : ImagePart) (p : PredictorPart) (bits one two : List Bool) : Type 0 where
  pub image : part_at image bits ≡ Ok (i, one)
  pub predictor : part_at (predictor i) one ≡ Ok (p, two)

pub image_refused : (bits : List Bool) (e : Fault) → part_at image bits ≡ Err e → parts_at bits ≡ Err e
unfolding parts_at
image_refused bits e h =
    first_refused four_at _ e bits (first_refused three_at _ e bits (first_refused two_at _ e bits (first_refused (part_at image) _ e bits h)))

pub predictor_refused : (i : ImagePart) (bits one : List Bool) (e : Fault) → part_at image bits ≡ Ok (i, one) → part_at (predictor i) one ≡ Err e
    → parts_at bits ≡ Err e
unfolding parts_at
predictor_refused i bits one e h k = first_refused four_at _ e bits
    (first_refused three_at _ e bits (first_refused two_at _ e bits (second_refused (part_at image) (λ i. part_at (predictor i)) i e bits one h k)))

two_found : (i : ImagePart) (p : PredictorPart) (bits one two : List Bool) → HasRead i p bits one two → two_at bits ≡ Ok ((i, p), two)
two_found i p bits one two h = then_found (part_at image) (λ i. part_at (predictor i)) i p bits one two h.image h.predictor

pub weights_refused : (i : ImagePart) (p : PredictorPart) (bits one two : List Bool) (e : Fault) → HasRead i p bits one two → part_at (weights i p) two ≡ Err e
    → parts_at bits ≡ Err e
unfolding parts_at
weights_refused i p bits one two e h k = first_refused four_at _ e bits
    (first_refused three_at _ e bits (second_refused two_at (λ x. part_at (weights x.0 x.1)) (i, p) e bits two (two_found i p bits one two h) k))

three_found : (i : ImagePart) (p : PredictorPart) (ws : List ℤ) (bits one two three : List Bool) → HasRead i p bits one two
    → part_at (weights i p) two ≡ Ok (ws, three) → three_at bits ≡ Ok (((i, p), ws), three)
three_found i p ws bits one two three h k = then_found two_at (λ x. part_at (weights x.0 x.1)) (i, p) ws bits two three (two_found i p bits one two h) k

pub coder_refused : (i : ImagePart) (p : PredictorPart) (ws : List ℤ) (bits one two three : List Bool) (e : Fault) → HasRead i p bits one two
    → part_at (weights i p) two ≡ Ok (ws, three) → part_at (coder (coder_start i p) i) three ≡ Err e → parts_at bits ≡ Err e
unfolding parts_at
coder_refused i p ws bits one two three e h k l =
    first_refused four_at _ e bits
    (second_refused three_at (λ x. part_at (coder (coder_start x.0.0 x.0.1) x.0.0)) ((i, p), ws) e bits three (three_found i p ws bits one two three h k) l)

four_found : (i : ImagePart) (p : PredictorPart) (ws : List ℤ) (c : CoderPart) (bits one two three four : List Bool) → HasRead i p bits one two
    → part_at (weights i p) two ≡ Ok (ws, three) → part_at (coder (coder_start i p) i) three ≡ Ok (c, four)
    → four_at bits ≡ Ok ((((i, p), ws), c), four)
four_found i p ws c bits one two three four h k l =
    then_found three_at (λ x. part_at (coder (coder_start x.0.0 x.0.1) x.0.0)) ((i, p), ws) c bits three four (three_found i p ws bits one two three h k) l

pub constants_refused : (i : ImagePart) (p : PredictorPart) (ws : List ℤ) (c : CoderPart) (bits one two three four : List Bool) (e : Fault)
    → HasRead i p bits one two → part_at (weights i p) two ≡ Ok (ws, three) → part_at (coder (coder_start i p) i) three ≡ Ok (c, four)
    → part_at (constants (coder_start i p + 16) i c) four ≡ Err e → parts_at bits ≡ Err e
unfolding parts_at
constants_refused i p ws c bits one two three four e h k l m =
    second_refused four_at (λ x. part_at (constants (coder_start x.0.0.0 x.0.0.1 + 16) x.0.0.0 x.1)) (((i, p), ws), c) e bits four
    (four_found i p ws c bits one two three four h k l) m

pub parts_found : (i : ImagePart) (p : PredictorPart) (ws : List ℤ) (c : CoderPart) (ks : List ℕ) (bits one two three four five : List Bool)
    → HasRead i p bits one two → part_at (weights i p) two ≡ Ok (ws, three) → part_at (coder (coder_start i p) i) three ≡ Ok (c, four)
    → part_at (constants (coder_start i p + 16) i c) four ≡ Ok (ks, five) → parts_at bits ≡ Ok (((((i, p), ws), c), ks), five)
unfolding parts_at
parts_found i p ws c ks bits one two three four five h k l m =
    then_found four_at (λ x. part_at (constants (coder_start x.0.0.0 x.0.0.1 + 16) x.0.0.0 x.1)) (((i, p), ws), c) ks bits four five
    (four_found i p ws c bits one two three four h k l) m

-- ---- what was read, in other words

pub header_refused : (bits : List Bool) (e : Fault) → parts_at bits ≡ Err e → header_at bits ≡ Err e
unfolding header_at as_at
header_refused bits e h = rw h refl

pub header_read : (s : HeaderContents) (p : Params) (bits left : List Bool) → parts_at bits ≡ Ok (s, left) → p ≡ params_of s → header_at bits ≡ Ok (p, left)
unfolding header_at as_at
header_read s p bits left h e = rw (h, ← e) refl

-- what is refused spells nothing
pub refused_spells_none : (bits : List Bool) (e : Fault) → header_at bits ≡ Err e → (p : Params) (h rest : List Bool) → SpellsHeader p h → bits ≡ h ++ rest → ⊥
refused_spells_none bits e refused p h rest spells is =
    no_both e (p, rest) (header_at bits) refused (ap header_at is ∙ header_exact.again p h rest spells)
  where
    no_both : {A : Type 0} (d : Fault) (x : A) (r : Result A Fault) → r ≡ Err d → r ≡ Ok x → ⊥
    no_both d x r a b = cc

-- what a part leaves
pub part_leaves : {X : Type 0} (part : Part X) (x : X) (bits rest : List Bool) → part_at part bits ≡ Ok (x, rest)
    → (rest ≡ drop (total part.fields) bits) × (total part.fields ≤ length bits)
unfolding part_at
part_leaves {X} part x bits rest e =
    let g = guard_ok (ltb (length bits) (total part.fields)) ShortHeader
    (part.tests (values part.fields bits) >>= λ _. Ok (part.contents (values part.fields bits), drop (total part.fields) bits)) (x, rest) e in
    let t = bind_ok (part.tests (values part.fields bits)) (λ _. Ok (part.contents (values part.fields bits), drop (total part.fields) bits)) (x, rest) g.1 in
    let same = ok_is (part.contents (values part.fields bits), drop (total part.fields) bits) (x, rest) t.2 in
    (sym (ap (λ (y : X × List Bool). y.1) same), ltb-false _ _ g.0)
