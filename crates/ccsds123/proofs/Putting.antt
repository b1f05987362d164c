-- A cube's raw bytes in a room, or their refusal, as the outcome of decoding into it.
use Rattle.std.proofs.Common.{◌≡◌, ℕ, List, length, Ok, Err, OnOk, IfErr, OnErr, refl, inl, inr, subst}
use Rattle.cube_core.specs.declared.fault.Fault.TheVariants.{SampleRange}
use Rattle.cube_core.specs.declared.layout.Layout.{Layout}
use Rattle.cube_core.specs.Image.{Image}
use Rattle.cube_core.specs.Layout.{HaveBytes, raw_bytes}
use Rattle.cube_core.specs.Shape.{sample_count}
use Rattle.header_bits.specs.declared.params.Params.{Params}
use Rattle.file_format.specs.Files.{IsFile}
use Rattle.ccsds123.specs.declared.records.LayoutRecord.{LayoutRecord}
use Rattle.ccsds123.specs.declared.refusal.Refusal.{Refusal}
use Rattle.ccsds123.specs.Asked.{Ask, ◌and◌, layout_of, layout_test}
use Rattle.ccsds123.specs.Header.{fronted, length_test}
use Rattle.ccsds123.specs.Coding.{DecodesInto, IsPutFault, IsRawOfFile}

-- layout and length pass, and the bytes are a file
pub record IsRead (l : LayoutRecord) (laid : Layout) (file : List ℕ) (c : Image) : Type 0 where
  pub passed : layout_test l ≡ Ok tt
  pub laid_is : laid ≡ layout_of l
  pub short : length_test file ≡ Ok tt
  pub params : Params
  pub decoded : IsFile file params c

raw_of : (l : LayoutRecord) (laid : Layout) (file : List ℕ) (c : Image) → IsRead l laid file c → HaveBytes c laid (sample_count c.shape)
    → IsRawOfFile (layout_of l) file (raw_bytes c laid)
raw_of l laid file c h fits =
    subst (λ (x : Layout). IsRawOfFile x file (raw_bytes c laid)) h.laid_is
    (record { cube = c; decoded = (h.params, h.decoded); fits = fits; raw_is = refl })

pub cube_put : (l : LayoutRecord) (laid : Layout) (file old new : List ℕ) (told : ℕ) (c : Image) → IsRead l laid file c
    → HaveBytes c laid (sample_count c.shape) → new ≡ fronted (raw_bytes c laid) old → told ≡ length (raw_bytes c laid)
    → DecodesInto l file old new told (Ok tt)
unfolding DecodesInto
cube_put l laid file old new told c h fits put count =
    let head : (layout_test l and length_test file) ≡ Ok tt = rw h.passed h.short in
    (head, raw_bytes c laid, raw_of l laid file c h fits, put, count)

pub cube_not_put : (l : LayoutRecord) (laid : Layout) (file old : List ℕ) (c : Image) (e : Refusal) → IsRead l laid file c
    → IsPutFault c laid (length old) e → DecodesInto l file old old 0 (Err e)
unfolding DecodesInto
cube_not_put l laid file old c e h (inl (i, is, unfit)) =
    let head : (layout_test l and length_test file) ≡ Ok tt = rw h.passed h.short in
    (inr (head, inl (SampleRange i, is, inr (inr (c, (h.params, h.decoded), inr (i, refl, rw (← h.laid_is) unfit))))), refl, refl)
cube_not_put l laid file old c e h (inr (fits, small, is)) =
    let head : (layout_test l and length_test file) ≡ Ok tt = rw h.passed h.short in
    (inr (head, inr (raw_bytes c laid, raw_of l laid file c h fits, small, is)), refl, refl)

pub cube_outcome : (l : LayoutRecord) (laid : Layout) (file old new : List ℕ) (told : ℕ) (c : Image) (outcome : Ask) → IsRead l laid file c
    → OnOk outcome (HaveBytes c laid (sample_count c.shape) × (new ≡ fronted (raw_bytes c laid) old) × (told ≡ length (raw_bytes c laid)))
    → IfErr outcome (IsPutFault c laid (length old)) → OnErr outcome ((new ≡ old) × (told ≡ 0)) → DecodesInto l file old new told outcome
cube_outcome l laid file old new told c (Ok tt) h put refused same = cube_put l laid file old new told c h put.0 put.1 put.2
cube_outcome l laid file old new told c (Err e) h put refused same = rw (same.0, same.1) (cube_not_put l laid file old c e h refused)
