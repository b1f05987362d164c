-- Exactly what is spelt is read: of a part, and of parts that follow one another.
use Rattle.std.proofs.Common.{◌≡◌, ℕ, Bool, false, ltb, List, ◌++◌, length, drop, Ok, refl, sym, ap, subst, ◌∙◌, append_assoc, arith}
use Rattle.std.proofs.lemmas.Bool.{ltb-false, le-ltb}
use Rattle.std.proofs.lemmas.List.{drop_at, take-append-drop, length-append, append_cancel_right}
use Rattle.header_bits.specs.Layout.{total, spelled, values}
use Rattle.header_bits.proofs.Slots.{length-spelled, values_again, spelled_again}
use Rattle.cube_core.specs.declared.fault.Fault.TheVariants.{ShortHeader}
use Rattle.cube_core.specs.Steps.{◌>>=◌}
use Rattle.header_bits.specs.Reading.{Reading}
use Rattle.header_bits.specs.Parts.{Part, as_at, SpellsAs, part_at, SpellsPart, then_at, SpellsThen, IsExact}
use Rattle.header_bits.proofs.Fronts.{bind_ok, guard_ok}
use Rattle.header_bits.proofs.Reading.{done, ok_is}

pub part_exact : {X : Type 0} (part : Part X) → IsExact (part_at part) (SpellsPart part)
unfolding part_at
part_exact {X} part = record { again = again; found = found }
  where
    again : (x : X) (h rest : List Bool) → SpellsPart part x h → part_at part (h ++ rest) ≡ Ok (x, rest)
    again x h rest s =
        let v : List ℕ = s.numbers in
        let size : length (spelled part.fields v) ≡ total part.fields = length-spelled part.fields v s.held in
        let long : ltb (length (spelled part.fields v ++ rest)) (total part.fields) ≡ false =
        le-ltb _ _ (omega (arith, size, length-append (spelled part.fields v) rest)) in
        ap (λ (b : List Bool). part_at part (b ++ rest)) s.text
        ∙ rw (long, values_again part.fields v rest s.held, s.passed, s.contents, drop_at (spelled part.fields v) rest (total part.fields) size) refl

    found : (x : X) (bits rest : List Bool) → part_at part bits ≡ Ok (x, rest) → (h : List Bool) × SpellsPart part x h × (bits ≡ h ++ rest)
    found x bits rest e =
        let v : List ℕ = values part.fields bits in
        let n : ℕ = total part.fields in
        let g = guard_ok (ltb (length bits) n) ShortHeader (part.tests v >>= λ _. Ok (part.contents v, drop n bits)) (x, rest) e in
        let t = bind_ok (part.tests v) (λ _. Ok (part.contents v, drop n bits)) (x, rest) g.1 in
        let same = ok_is (part.contents v, drop n bits) (x, rest) t.2 in
        let s = spelled_again part.fields bits (ltb-false _ _ g.0) in
        let spells : SpellsPart part x (spelled part.fields v) =
        record { numbers = v; held = s.1; passed = t.1; contents = ap (λ (y : X × List Bool). y.0) same; text = refl } in (
          spelled part.fields v,
          spells,
          sym (take-append-drop n bits) ∙ ap (λ (f : List Bool). f ++ drop n bits) (sym s.0) ∙ ap (λ (y : X × List Bool). spelled part.fields v ++ y.1) same,
        )

pub then_exact : {X Y : Type 0} (first : Reading X) (second : X → Reading Y) (First : X → List Bool → Type 0) (Second : X → Y → List Bool → Type 0)
    → IsExact first First → ((x : X) → IsExact (second x) (Second x)) → IsExact (then_at first second) (SpellsThen First Second)
unfolding then_at
then_exact {X} {Y} first second First Second p q = record { again = again; found = found }
  where
    again : (x : X × Y) (h rest : List Bool) → SpellsThen First Second x h → then_at first second (h ++ rest) ≡ Ok (x, rest)
    again x h rest s =
        let regrouped : h ++ rest ≡ s.front ++ (s.back ++ rest) = ap (λ (b : List Bool). b ++ rest) s.text ∙ append_assoc s.front s.back rest in
        ap (then_at first second) regrouped ∙ rw (p.again x.0 s.front (s.back ++ rest) s.first, (q x.0).again x.1 s.back rest s.second) refl

    found : (x : X × Y) (bits rest : List Bool) → then_at first second bits ≡ Ok (x, rest) → (h : List Bool) × SpellsThen First Second x h × (bits ≡ h ++ rest)
    found x bits rest e =
        let a = bind_ok (first bits) (λ z. second z.0 z.1 >>= λ y. Ok ((z.0, y.0), y.1)) (x, rest) e in
        let b = bind_ok (second a.0.0 a.0.1) (λ y. Ok ((a.0.0, y.0), y.1)) (x, rest) a.2 in
        let same = ok_is ((a.0.0, b.0.0), b.0.1) (x, rest) b.2 in
        let one = p.found a.0.0 bits a.0.1 a.1 in
        let two = (q a.0.0).found b.0.0 a.0.1 b.0.1 b.1 in
        let whole : bits ≡ (one.0 ++ two.0) ++ b.0.1 = one.2 ∙ ap (λ (r : List Bool). one.0 ++ r) two.2 ∙ sym (append_assoc one.0 two.0 b.0.1) in
        let spells : SpellsThen First Second (a.0.0, b.0.0) (one.0 ++ two.0) =
        record { front = one.0; back = two.0; first = one.1; second = two.1; text = refl } in
        subst (λ (y : (X × Y) × List Bool). (h : List Bool) × SpellsThen First Second y.0 h × (bits ≡ h ++ y.1)) same (one.0 ++ two.0, spells, whole)

pub one_spelling : {X : Type 0} (read : Reading X) (Spells : X → List Bool → Type 0) → IsExact read Spells → (g h a b : List Bool) (x y : X) → Spells x g
    → Spells y h → g ++ a ≡ h ++ b → (x ≡ y) × (g ≡ h)
one_spelling {X} read Spells p g h a b x y s t e =
    let both : done (x, a) ≡ done (y, b) = sym (p.again x g a s) ∙ ap read e ∙ p.again y h b t in
    let same = ok_is (x, a) (y, b) both in
    let rest : a ≡ b = ap (λ (z : X × List Bool). z.1) same in
    (ap (λ (z : X × List Bool). z.0) same, append_cancel_right g h a (e ∙ ap (λ (r : List Bool). h ++ r) (sym rest)))

pub as_exact : {X Y : Type 0} (form : X → Y) (read : Reading X) (Spells : X → List Bool → Type 0) → IsExact read Spells
    → IsExact (as_at form read) (SpellsAs form Spells)
unfolding as_at
as_exact {X} {Y} form read Spells p = record { again = again; found = found }
  where
    again : (y : Y) (h rest : List Bool) → SpellsAs form Spells y h → as_at form read (h ++ rest) ≡ Ok (y, rest)
    again y h rest s = rw (p.again s.from h rest s.spells, s.same) refl

    found : (y : Y) (bits rest : List Bool) → as_at form read bits ≡ Ok (y, rest) → (h : List Bool) × SpellsAs form Spells y h × (bits ≡ h ++ rest)
    found y bits rest e =
        let a = bind_ok (read bits) (λ x. Ok (form x.0, x.1)) (y, rest) e in
        let same = ok_is (form a.0.0, a.0.1) (y, rest) a.2 in
        let one = p.found a.0.0 bits a.0.1 a.1 in
        let spells : SpellsAs form Spells (form a.0.0) one.0 = record { from = a.0.0; same = refl; spells = one.1 } in
        subst (λ (z : Y × List Bool). (h : List Bool) × SpellsAs form Spells z.0 h × (bits ≡ h ++ z.1)) same (one.0, spells, one.2)
