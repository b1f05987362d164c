-- The numbers of a table, written one after another.
use Rattle.std.proofs.Common.{◌≡◌, ℕ, zero, suc, ◌+◌, ◌*◌, ◌^◌, ◌<◌, ◌≤◌, Bool, List, [], ◌∷◌, ◌++◌, length, map, drop, get_or, ℤ, pos, sym, ap, ◌∙◌}
use Rattle.std.proofs.Common.{append_assoc, length-append, arith}
use Rattle.std.specs.List.{AllByRecursion}
use Rattle.std.proofs.lemmas.List.{drop_more, drop_all, append-nil}
use Rattle.header_bits.specs.declared.params.Params.{Params}
use Rattle.header_bits.specs.declared.params.WeightStart.{WeightStart}
use Rattle.header_bits.specs.declared.params.WeightStart.TheVariants.{Table}
use Rattle.header_bits.specs.declared.params.Coder.{Coder}
use Rattle.header_bits.specs.declared.params.Coder.TheVariants.{Sample}
use Rattle.header_bits.specs.declared.params.CountStart.{CountStart}
use Rattle.header_bits.specs.declared.params.CountStart.TheVariants.{Each}
use Rattle.header_bits.specs.Bits.{bits_of, Written}
use Rattle.header_bits.specs.Layout.{spelled}
use Rattle.header_bits.specs.TableParts.{fill_of, numbers_text, signed_code}
use Rattle.header_bits.specs.Lawful.{IsLawful, IsSigned, IsWeightStart}
use Rattle.header_bits.proofs.Numbers.{length-bits_of}
use Rattle.header_bits.proofs.TableNumbers.{numbers_text_next}
use Rattle.header_bits.specs.Header.{weight_bits, constant_bits}
use Rattle.header_bits.proofs.HeaderTexts.{weights_text, constants_text}
use Rattle.header_bits.proofs.TablePassing.{weight_bound}

-- of all numbers, the last ones are still to be written
pub record IsWriting (bits : ℕ) (all rest : List ℕ) (old new : Written) : Type 0 where
  pub written : new.bits ++ numbers_text bits rest ≡ old.bits ++ numbers_text bits all
  pub room : old.room + length (numbers_text bits rest) ≤ new.room + length (numbers_text bits all)
  pub still : new.room ≤ old.room

next_length : (bits v : ℕ) (rest more : List ℕ) → rest ≡ v ∷ more → length (numbers_text bits rest) ≡ bits + length (numbers_text bits more)
next_length bits v rest more e = ap (λ (x : List ℕ). length (numbers_text bits x)) e ∙ ap length (numbers_text_next bits v more)
    ∙ length-append (bits_of bits v) (numbers_text bits more) ∙ ap (λ n. n + length (numbers_text bits more)) (length-bits_of bits v)

pub writing_enough : (bits v : ℕ) (all rest more : List ℕ) (old new : Written) → rest ≡ v ∷ more → length (numbers_text bits all) ≤ old.room
    → IsWriting bits all rest old new → bits ≤ new.room
writing_enough bits v all rest more old new e enough h = omega (arith, h.room, enough, next_length bits v rest more e)

pub writing_next : (bits v : ℕ) (all rest more : List ℕ) (old mid new : Written) → rest ≡ v ∷ more → IsWriting bits all rest old mid
    → new.bits ≡ mid.bits ++ bits_of bits v → mid.room ≤ new.room + bits → new.room ≤ mid.room → IsWriting bits all more old new
writing_next bits v all rest more old mid new e h appended room still = record {
  written = ap (λ (x : List Bool). x ++ numbers_text bits more) appended ∙ append_assoc mid.bits (bits_of bits v) (numbers_text bits more)
      ∙ ap (λ (x : List Bool). mid.bits ++ x) (sym (numbers_text_next bits v more))
      ∙ ap (λ (x : List ℕ). mid.bits ++ numbers_text bits x) (sym e) ∙ h.written;
  room = omega (arith, h.room, room, next_length bits v rest more e);
  still = omega (arith, h.still, still);
}

none_left : (bits : ℕ) (rest : List ℕ) → rest ≡ [] → numbers_text bits rest ≡ []
unfolding spelled
none_left bits rest e = ap (numbers_text bits) e

pub writing_end : (bits : ℕ) (all rest : List ℕ) (old new : Written) → rest ≡ [] → IsWriting bits all rest old new
    → (new.bits ≡ old.bits ++ numbers_text bits all) × (old.room ≤ new.room + length (numbers_text bits all))
writing_end bits all rest old new e h =
    (sym (append-nil new.bits) ∙ ap (λ (x : List Bool). new.bits ++ x) (sym (none_left bits rest e)) ∙ h.written, omega (arith, h.room))

-- the first number that is left
pub number_left : (vs : List ℕ) (i : ℕ) → i < length vs → drop i vs ≡ get_or vs i 0 ∷ drop (i + 1) vs
number_left vs i lt = drop_more vs i 0 lt

pub code_left : (bits : ℕ) (vs : List ℤ) (i : ℕ) → i < length vs
    → map (signed_code bits) (drop i vs) ≡ signed_code bits (get_or vs i (pos 0)) ∷ map (signed_code bits) (drop (i + 1) vs)
code_left bits vs i lt = ap (map (signed_code bits)) (drop_more vs i (pos 0) lt)

pub no_code_left : (bits : ℕ) (vs : List ℤ) (i : ℕ) → length vs ≤ i → map (signed_code bits) (drop i vs) ≡ []
no_code_left bits vs i le = ap (map (signed_code bits)) (drop_all i vs le)

pub all_at : {X : Type 0} (P : X → Type 0) (vs : List X) (i : ℕ) (d : X) → i < length vs → AllByRecursion P vs → P (get_or vs i d)
all_at P [] i d lt h = absurd (omega arith)
all_at P (v ∷ vs) zero d lt h = h.0
all_at P (v ∷ vs) (suc i) d lt h = all_at P vs i d (omega arith) h.1

-- ---- the tables of lawful parameters

pub start_text : (q : ℕ) (values : List ℤ) (s : WeightStart) → s ≡ Table q values
    → weight_bits s ≡ numbers_text q (map (signed_code q) values) ++ bits_of (fill_of (length values * q)) 0
start_text q values s e = ap weight_bits e ∙ weights_text q values

pub start_length : (q : ℕ) (values : List ℤ) (s : WeightStart) → s ≡ Table q values
    → length (weight_bits s) ≡ length (numbers_text q (map (signed_code q) values)) + fill_of (length values * q)
start_length q values s e =
    ap length (start_text q values s e) ∙ length-append (numbers_text q (map (signed_code q) values)) (bits_of (fill_of (length values * q)) 0)
    ∙ ap (λ n. length (numbers_text q (map (signed_code q) values)) + n) (length-bits_of (fill_of (length values * q)) 0)

module _ {umax gamma_star gamma_zero : ℕ} {start : CountStart} {values : List ℕ} {c : Coder}
    (e : c ≡ Sample umax gamma_star gamma_zero start) (is : start ≡ Each values) where
  pub coder_text : constant_bits c ≡ numbers_text 4 values ++ bits_of (fill_of (length values * 4)) 0
  coder_text = rw (e, is) (constants_text umax gamma_star gamma_zero values)

  pub coder_length : length (constant_bits c) ≡ length (numbers_text 4 values) + fill_of (length values * 4)
  coder_length = ap length coder_text ∙ length-append (numbers_text 4 values) (bits_of (fill_of (length values * 4)) 0)
      ∙ ap (λ n. length (numbers_text 4 values) + n) (length-bits_of (fill_of (length values * 4)) 0)

pub table_lawful : (p : Params) (s : WeightStart) (q : ℕ) (values : List ℤ) → s ≡ Table q values → IsWeightStart p s → IsWeightStart p (Table q values)
table_lawful p s q values e h = rw e at h

pub record IsTable (q : ℕ) (values : List ℤ) : Type 0 where
  pub least : 1 ≤ q
  pub most : q ≤ 22
  pub count : length values ≤ 2 ^ 21
  pub signed : AllByRecursion (IsSigned q) values

pub weights_lawful : (p : Params) (q : ℕ) (values : List ℤ) → IsLawful p → p.start ≡ Table q values → IsTable q values
weights_lawful p q values h e =
    let t = table_lawful p p.start q values e h.start in
    let bound = weight_bound p.previous p.reduced p.shape.bands h.previous in
    record { least = omega (arith, t.0); most = omega (arith, t.0, h.omega); count = omega (arith, t.1, bound, h.sizes.bands); signed = t.2 }
