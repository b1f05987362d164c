-- A fault of the coder is the refusal of encoding or decoding into a room.
use Rattle.std.proofs.Common.{◌≡◌, ℕ, List, Ok, Err, refl, inl, inr, subst}
use Rattle.cube_core.specs.declared.fault.Fault.{Fault}
use Rattle.cube_core.specs.declared.layout.Layout.{Layout}
use Rattle.header_bits.specs.declared.params.Params.{Params}
use Rattle.ccsds123.specs.declared.records.LayoutRecord.{LayoutRecord}
use Rattle.ccsds123.specs.declared.refusal.Refusal.TheVariants as refusal
use Rattle.ccsds123.specs.Asked.{AsksParams, ◌and◌, layout_of, layout_test}
use Rattle.ccsds123.specs.Header.{length_test}
use Rattle.ccsds123.specs.Coding.{Encoding, EncodesInto, DecodesInto, IsRawRefusal, IsFileRefusal}

pub raw_refused : (g : Encoding) (p : Params) (laid : Layout) (old : List ℕ) (fault : Fault) → AsksParams g.params g.weights g.accumulators (Ok p)
    → layout_test g.layout ≡ Ok tt → laid ≡ layout_of g.layout → IsRawRefusal p laid g.raw fault → EncodesInto g old old 0 (Err (refusal.Coder fault))
unfolding EncodesInto AsksParams
raw_refused g p laid old fault asked passed is refused =
    let moved = subst (λ (l : Layout). IsRawRefusal p l g.raw fault) is refused in
    let told = subst (λ (q : Params). IsRawRefusal q (layout_of g.layout) g.raw fault) asked.2 moved in
    (inr (inr (inr (inl ((asked.0, passed), fault, refl, told)))), refl, refl)

pub file_refused : (l : LayoutRecord) (laid : Layout) (file old : List ℕ) (fault : Fault) → layout_test l ≡ Ok tt → laid ≡ layout_of l
    → length_test file ≡ Ok tt → IsFileRefusal laid file fault → DecodesInto l file old old 0 (Err (refusal.Coder fault))
unfolding DecodesInto
file_refused l laid file old fault passed is short refused =
    let head : (layout_test l and length_test file) ≡ Ok tt = rw passed short in
    (inr (head, inl (fault, refl, subst (λ (x : Layout). IsFileRefusal x file fault) is refused)), refl, refl)
