-- Bytes after a header change nothing in how it is read, or refused, unless it was too short.
use Rattle.std.proofs.Common.{◌≡◌, ◌⊎◌, ◌+◌, ◌≤◌, Bool, true, false, cond, ltb, List, [], ◌∷◌, ◌++◌, length, drop, Result, Ok, Err, refl, ap, ◌∙◌, inl, inr}
use Rattle.std.proofs.Common.{length-append, length-drop, arith}
use Rattle.std.proofs.lemmas.Bool.{ltb-false, le-ltb}
use Rattle.std.proofs.lemmas.List.{take-append-le, drop-append-le}
use Rattle.cube_core.specs.declared.fault.Fault.{Fault}
use Rattle.cube_core.specs.declared.fault.Fault.TheVariants.{ShortHeader}
use Rattle.cube_core.specs.Steps.{Test, ◌>>=◌}
use Rattle.header_bits.specs.declared.layout.Slot.{Slot}
use Rattle.header_bits.specs.Reading.{Reading}
use Rattle.header_bits.specs.Layout.{width, total, values}
use Rattle.header_bits.specs.Parts.{Part, part_at, then_at, as_at}
use Rattle.header_bits.specs.ImagePart.{image}
use Rattle.header_bits.specs.PredictorPart.{predictor}
use Rattle.header_bits.specs.CoderPart.{coder}
use Rattle.header_bits.specs.TableParts.{weights, constants}
use Rattle.header_bits.specs.Header.{parts_at, coder_start, params_of, header_at}
use Rattle.header_bits.specs.Laws.{FaultIsNoHeader}
use Rattle.header_bits.proofs.Headers.{header_exact}

-- what was read is read again where more bits follow, and what was refused is refused for the same, unless the bits ended too early
abbrev Goes : {X : Type 0} → List Bool → Result (X × List Bool) Fault → Result (X × List Bool) Fault → Type 0
Goes more (Ok x) later = later ≡ Ok (x.0, x.1 ++ more)
Goes more (Err e) later = (e ≡ ShortHeader) ⊎ (later ≡ Err e)

abbrev GoesOn : {X : Type 0} → Reading X → Type 0
GoesOn read = (more bits : List Bool) → Goes more (read bits) (read (bits ++ more))

goes_then : {A B : Type 0} (more : List Bool) (r s : Result (A × List Bool) Fault) (f : A × List Bool → Result (B × List Bool) Fault) → Goes more r s
    → ((a : A) (rest : List Bool) → Goes more (f (a, rest)) (f (a, rest ++ more)))
    → Goes more (r >>= f) (s >>= f)
goes_then more (Ok x) s f h k = rw h (k x.0 x.1)
goes_then more (Err e) s f (inl t) k = inl t
goes_then more (Err e) s f (inr h) k = inr (rw h refl)

-- the numbers in slots that the bits fill
values_same : (ss : List Slot) (bits more : List Bool) → total ss ≤ length bits → values ss (bits ++ more) ≡ values ss bits
unfolding values total
values_same [] bits more le = refl
values_same (s ∷ ss) bits more le =
    let here-enough : width s ≤ length bits = omega arith in
    let rest = values_same ss (drop (width s) bits) more (omega (arith, length-drop (width s) bits)) in
    rw (take-append-le (width s) bits more here-enough, drop-append-le (width s) bits more here-enough, rest) refl

tested : {X : Type 0} (more : List Bool) (t : Test) (x : X) (rest : List Bool) → Goes more (t >>= λ _. Ok (x, rest)) (t >>= λ _. Ok (x, rest ++ more))
tested more (Ok u) x rest = refl
tested more (Err e) x rest = inr refl

part_goes : {X : Type 0} (part : Part X) → GoesOn (part_at part)
unfolding part_at
part_goes {X} part more bits = by_test (ltb (length bits) (total part.fields)) refl
  where
    by_test : (b : Bool) → ltb (length bits) (total part.fields) ≡ b
        → Goes more (cond b (Err ShortHeader)
        (part.tests (values part.fields bits) >>= λ _. Ok (part.contents (values part.fields bits), drop (total part.fields) bits)))
        (cond (ltb (length (bits ++ more)) (total part.fields)) (Err ShortHeader) (part.tests (values part.fields (bits ++ more))
        >>= λ _. Ok (part.contents (values part.fields (bits ++ more)), drop (total part.fields) (bits ++ more))))
    by_test true e = inl refl
    by_test false e =
        let le : total part.fields ≤ length bits = ltb-false (length bits) (total part.fields) e in
        let there : ltb (length (bits ++ more)) (total part.fields) ≡ false =
        le-ltb (length (bits ++ more)) (total part.fields) (omega (arith, le, length-append bits more)) in
        rw (there, values_same part.fields bits more le, drop-append-le (total part.fields) bits more le)
        (tested more (part.tests (values part.fields bits)) (part.contents (values part.fields bits)) (drop (total part.fields) bits))

then_goes : {X Y : Type 0} (first : Reading X) (second : X → Reading Y) → GoesOn first → ((x : X) → GoesOn (second x)) → GoesOn (then_at first second)
unfolding then_at
then_goes first second p q more bits =
    goes_then more (first bits) (first (bits ++ more)) (λ x. second x.0 x.1 >>= λ y. Ok ((x.0, y.0), y.1)) (p more bits)
    (λ x rest. goes_then more (second x rest) (second x (rest ++ more)) (λ y. Ok ((x, y.0), y.1)) (q x more rest) (λ y last. refl))

as_goes : {X Y : Type 0} (form : X → Y) (read : Reading X) → GoesOn read → GoesOn (as_at form read)
unfolding as_at
as_goes form read p more bits = goes_then more (read bits) (read (bits ++ more)) (λ x. Ok (form x.0, x.1)) (p more bits) (λ x rest. refl)

parts_goes : GoesOn parts_at
unfolding parts_at
parts_goes =
    let one = then_goes (part_at image) (λ i. part_at (predictor i)) (part_goes image) (λ i. part_goes (predictor i)) in
    let two = then_goes _ (λ x. part_at (weights x.0 x.1)) one (λ x. part_goes (weights x.0 x.1)) in
    let three = then_goes _ (λ x. part_at (coder (coder_start x.0.0 x.0.1) x.0.0)) two (λ x. part_goes (coder (coder_start x.0.0 x.0.1) x.0.0)) in
    then_goes _ (λ x. part_at (constants (coder_start x.0.0.0 x.0.0.1 + 16) x.0.0.0 x.1)) three
    (λ x. part_goes (constants (coder_start x.0.0.0 x.0.0.1 + 16) x.0.0.0 x.1))

header_goes : GoesOn header_at
unfolding header_at
header_goes = as_goes params_of parts_at parts_goes

-- ---- what is refused is no header

no_both : {X : Type 0} (e : Fault) (x : X × List Bool) (r : Result (X × List Bool) Fault) → r ≡ Err e → r ≡ Ok x → ⊥
no_both e x r a b = absurd (cc)

pub fault_is_no_header : FaultIsNoHeader
fault_is_no_header e bits bad other more p h rest spelt begins =
    by_later (rw bad at (header_goes more bits))
  where
    by_later : (e ≡ ShortHeader) ⊎ (header_at (bits ++ more) ≡ Err e) → ⊥
    by_later (inl short) = other short
    by_later (inr later) = no_both e (p, rest) (header_at (bits ++ more)) later (ap header_at begins ∙ header_exact.again p h rest spelt)
