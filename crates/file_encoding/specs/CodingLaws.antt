-- File encoders take lists one after another. It stands among the definitions since an implementation states its laws by them alone.
use Rattle.std.proofs.Common.{◌^◌, ◌<◌, ℕ, Bool, true, false, List, [], ◌++◌, refl, sym, subst, append-nil, append_assoc, length-append, arith}
use Rattle.header_bits.proofs.Items.{all_first, all_last}
use Rattle.file_encoding.specs.Ends.{FileEncoderState, HasCoded, MayCodeAll}
use Rattle.file_encoding.specs.Takings.{AreTakings}
use Rattle.file_encoding.specs.Codings.{Takes}

takes_less : (e : FileEncoderState) (xs ys : List ℕ) → MayCodeAll e (xs ++ ys) → MayCodeAll e xs
takes_less e xs ys h =
    record {
      params = h.params;
      numbers = h.numbers;
      lawful = h.lawful;
      coded = h.coded;
      more = omega (arith, h.more, length-append xs ys);
      range = all_first (λ n. n < 2 ^ h.params.kind.bits) xs ys h.range;
    }

takes_more : (old new : FileEncoderState) (xs ys : List ℕ) → Takes old new true xs → MayCodeAll old (xs ++ ys) → MayCodeAll new ys
takes_more old new xs ys a h =
    record {
      params = h.params;
      numbers = h.numbers ++ xs;
      lawful = h.lawful;
      coded = a refl h.params h.numbers h.coded;
      more = omega (arith, h.more, length-append xs ys, length-append h.numbers xs);
      range = all_last (λ n. n < 2 ^ h.params.kind.bits) xs ys h.range;
    }

takes_none : (e : FileEncoderState) → MayCodeAll e [] → Takes e e true []
takes_none e h all p numbers coded = subst (HasCoded p e) (sym (append-nil numbers)) coded

takes_append : (old mid new : FileEncoderState) (all : Bool) (xs ys : List ℕ) → Takes old mid true xs → Takes mid new all ys → Takes old new all (xs ++ ys)
takes_append old mid new all xs ys a b h p numbers coded = subst (HasCoded p new) (append_assoc numbers xs ys) (b h p (numbers ++ xs) (a refl p numbers coded))

takes_cut : (old new : FileEncoderState) (xs ys : List ℕ) → Takes old new false xs → Takes old new false (xs ++ ys)
takes_cut old new xs ys a h = absurd (cc)

pub codings_are : AreTakings {S = FileEncoderState} (λ e list. MayCodeAll e list) (λ old new all list. Takes old new all list)
codings_are = record { less = takes_less; more = takes_more; none = takes_none; append = takes_append; cut = takes_cut }
