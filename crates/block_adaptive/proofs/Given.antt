-- What a reader of an image's blocks has given.
use Rattle.std.proofs.Common.{◌≡◌, ◌+◌, ◌≤◌, ℕ, Bool, List, length, take, Result, Ok, Err, IfOk, refl, ap, ◌∙◌, length-append, arith}
use Rattle.std.proofs.lemmas.List.{take_at}
use Rattle.cube_core.specs.declared.fault.Fault.{Fault}
use Rattle.cube_core.specs.Shape.{sample_count}
use Rattle.header_bits.specs.declared.params.Params.{Params}
use Rattle.header_bits.specs.declared.params.Coder.{Coder}
use Rattle.header_bits.specs.declared.params.Coder.TheVariants.{Sample, Block}
use Rattle.header_bits.specs.Bits.{Unread}
use Rattle.block_adaptive.specs.Settings.{IsBlock, coder_cut, cut_by}
use Rattle.block_adaptive.specs.DataSets.{Cut, IsBlockBody, cut_of}
use Rattle.block_adaptive.specs.Given.{ReaderState, given_count, GivesMore, HasGivenOf, GivesMoreOf}

pub block_is : (k : Coder) → IsBlock k → (size : ℕ) × (restricted : Bool) × (reference : ℕ) × (k ≡ Block size restricted reference)
block_is (Block size restricted reference) is = (size, restricted, reference, refl)
block_is (Sample umax gamma_star gamma_zero start) is = absurd is

pub cut_bits : (p : Params) (c : Cut) → c ≡ cut_by p → c.set.bits ≡ p.kind.bits
cut_bits p c e =
    let cut : Coder → Cut = coder_cut p.kind.bits (sample_count p.shape) in
    rw e (elim p.coder as (λ k. (cut k).set.bits ≡ p.kind.bits) [ Block size restricted reference ↦ refl | Sample umax star zero start ↦ refl ])

pub more_given : {X : Type 0} (numbers_of : X → List ℕ) (r : Result X Fault) (p : Params) (old new : ReaderState) (numbers : List ℕ) (bits : List Bool)
    (unread : Unread) (left : List Bool) → HasGivenOf p old numbers bits → GivesMore numbers_of old unread r new left → new.cut ≡ old.cut
    → IfOk r (λ x. given_count new ≡ given_count old + length (numbers_of x)) → new.block ≤ new.cut.count
    → GivesMoreOf numbers_of r p numbers bits unread new left
more_given numbers_of (Ok x) p old new numbers bits unread left h gives kept counted inside =
    let did = gives numbers bits h.given in (
      rw (cut_bits p old.cut h.cut) at did.0,
      did.1,
      did.2,
      record {
        coder = h.coder;
        cut = kept ∙ h.cut;
        room = rw kept h.room;
        inside = inside;
        given = did.3;
        count = omega (arith, counted, h.count, length-append numbers (numbers_of x));
      },
    )
more_given numbers_of (Err fault) p old new numbers bits unread left h gives kept counted inside = rw h.cut at (gives numbers bits h.given)

-- where a number was given for each sample, the bits are a body of them
pub given_whole : (p : Params) (v : ReaderState) (numbers : List ℕ) (bits : List Bool) (h : HasGivenOf p v numbers bits) → length numbers ≡ sample_count p.shape
    → (let k = block_is p.coder h.coder in IsBlockBody (record { bits = p.kind.bits; restricted = k.1 }) k.0 k.2 numbers bits)
given_whole p v numbers bits h long =
    let k = block_is p.coder h.coder in
    let is : v.cut ≡ cut_of (record { bits = p.kind.bits; restricted = k.1 }) k.0 k.2 (length numbers) = rw long (rw k.3 at h.cut) in
    let last : v.block ≡ v.cut.count = omega (arith, h.inside, h.room.least v.block (omega (arith, h.count, long))) in
    record {
      data_sets = h.given.data_sets;
      lawful = rw is at (rw last at h.given.lawful);
      text = rw is at h.given.text;
      told = ap (take (length numbers)) (rw is at h.given.told) ∙ take_at numbers v.held (length numbers) refl;
    }
