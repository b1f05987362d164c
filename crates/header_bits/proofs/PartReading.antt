-- A part that is looked through: it is too short, refused, or read.
use Rattle.std.proofs.Common.{◌≡◌, ℕ, ◌<◌, ◌≤◌, Bool, true, false, List, length, drop, Result, Ok, Err, refl, sym, subst}
use Rattle.std.proofs.lemmas.Bool.{le-ltb, lt-ltb}
use Rattle.cube_core.specs.declared.fault.Fault.{Fault}
use Rattle.cube_core.specs.declared.fault.Fault.TheVariants.{ShortHeader}
use Rattle.header_bits.specs.Layout.{AreValues, total, values}
use Rattle.header_bits.specs.Parts.{Part, fine, part_at}
use Rattle.header_bits.specs.declared.image_part.ImagePart.{ImagePart}
use Rattle.header_bits.specs.declared.coder_part.CoderPart.{CoderPart}
use Rattle.header_bits.specs.ImagePart.{image}
use Rattle.header_bits.specs.PredictorPart.{predictor}
use Rattle.header_bits.specs.CoderPart.{coder_by, coder}
use Rattle.header_bits.proofs.Slots.{spelled_again}

pub part_short : {X : Type 0} (part : Part X) (bits : List Bool) → length bits < total part.fields → part_at part bits ≡ Err ShortHeader
unfolding part_at
part_short part bits lt = rw (lt-ltb (length bits) (total part.fields) lt) refl

pub part_refused : {X : Type 0} (part : Part X) (bits : List Bool) (v : List ℕ) (e : Fault) → total part.fields ≤ length bits → v ≡ values part.fields bits
    → part.tests v ≡ Err e → part_at part bits ≡ Err e
unfolding part_at
part_refused part bits v e le is refused = rw (le-ltb (length bits) (total part.fields) le, ← is, refused) refl

pub part_is_read : {X : Type 0} (part : Part X) (bits : List Bool) (v : List ℕ) (x : X) → total part.fields ≤ length bits → v ≡ values part.fields bits
    → part.tests v ≡ fine → x ≡ part.contents v → part_at part bits ≡ Ok (x, drop (total part.fields) bits)
unfolding part_at
part_is_read part bits v x le is passed contents = rw (le-ltb (length bits) (total part.fields) le, ← is, passed, contents) refl

pub values_held : {X : Type 0} (part : Part X) (bits : List Bool) (v : List ℕ) → total part.fields ≤ length bits → v ≡ values part.fields bits
    → AreValues part.fields v
values_held part bits v le is = rw is ((spelled_again part.fields bits le).1)

pub image_size : total image.fields ≡ 96
unfolding total image
image_size = refl

pub predictor_size : (i : ImagePart) → total (predictor i).fields ≡ 40
unfolding total predictor
predictor_size i = refl

pub coder_by_size : (b : Bool) (at : ℕ) (i : ImagePart) → total (coder_by b at i).fields ≡ 16
unfolding total
coder_by_size true at i = refl
coder_by_size false at i = refl

pub coder_size : (at : ℕ) (i : ImagePart) → total (coder at i).fields ≡ 16
unfolding coder
coder_size at i = coder_by_size i.block at i

-- the coder that the image part names
pub coder_is : (b : Bool) (at : ℕ) (i : ImagePart) (bits : List Bool) (r : Result (CoderPart × List Bool) Fault) → i.block ≡ b
    → part_at (coder_by b at i) bits ≡ r → part_at (coder at i) bits ≡ r
unfolding coder
coder_is b at i bits r e h = subst (λ (c : Bool). part_at (coder_by c at i) bits ≡ r) (sym e) h
