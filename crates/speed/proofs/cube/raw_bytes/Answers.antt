use Rattle.std.proofs.Common.{◌≡◌, ◌+◌, ◌∷◌, ◌++◌, [], ℕ, List, Vec, Global, refl, sym, ap, ◌∙◌}
use Rattle.speed.specs.declared.cube.Format.{Format}
use Rattle.speed.specs.declared.cube.Format.TheVariants.{Little, Big, Byte}
use Rattle.speed.specs.Formats.{format_bits, number_bytes, synthetic_bytes}
use Rattle.speed.specs.Numbers.{next_state, state_after, highest}
use Rattle.speed.proofs.Draws.{state_after_none, state_after_one, pieces_more}
use Rattle.speed.proofs.cube.raw_bytes.Goals as goal
use Rattle.speed.proofs.cube.raw_bytes.Goals.{Joined-format, in-Little+in_ok-extend_from_slice-in-Little, in-Big+in_ok-extend_from_slice-in-Big}
use Rattle.speed.proofs.cube.raw_bytes.Goals.{in-Byte+in_ok-push-in-Byte}

pub loop-sample-init : goal.loop-sample-init
loop-sample-init c = record { state = c.new-generator.ensures ∙ sym state_after_none; value = c.new-bytes.ensures.items }

drawn : (c : Joined-format) → c.number-number.new.self ≡ state_after (c.loop-sample._sample + 1)
drawn c = c.number-number.ensures.state ∙ ap next_state c.loop-sample.invariant.state ∙ sym (state_after_one c.loop-sample._sample)

number_is : (c : Joined-format) → c.number-number.result ≡ highest (format_bits c.args.format) (state_after (c.loop-sample._sample + 1))
number_is c = c.number-number.ensures.number ∙ ap (λ (n : ℕ). highest n c.number-number.new.self) c.bits.ensures.value
    ∙ ap (highest (format_bits c.args.format)) (drawn c)

-- the bytes grow by those of the number
grown : (c : Joined-format) (bytes : List ℕ) (format : Format) → c.match-format.bytes.items ≡ c.loop-sample.bytes.items ++ bytes
    → bytes ≡ number_bytes format c.number-number.result → c.args.format ≡ format
    → c.match-format.bytes.items ≡ c.loop-sample.bytes.items ++ number_bytes c.args.format c.number-number.result
grown c bytes format more value is =
    more ∙ ap (λ (ns : List ℕ). c.loop-sample.bytes.items ++ ns) (value ∙ ap (λ (f : Format). number_bytes f c.number-number.result) (sym is))

bytes_are : (c : Joined-format) → c.match-format.bytes.items ≡ c.loop-sample.bytes.items ++ number_bytes c.args.format c.number-number.result
bytes_are c = elim c.match-format.branch [
  | in-Little+in_ok-extend_from_slice-in-Little w ↦ grown c w.to_le_bytes.result Little
      (ap (λ (v : Vec ℕ Global). v.items) w.bytes-is ∙ w.in_ok-extend_from_slice-in-Little.ensures.items) w.to_le_bytes.ensures w.in-Little.is
  | in-Big+in_ok-extend_from_slice-in-Big w ↦ grown c w.to_be_bytes.result Big
      (ap (λ (v : Vec ℕ Global). v.items) w.bytes-is ∙ w.in_ok-extend_from_slice-in-Big.ensures.items) w.to_be_bytes.ensures w.in-Big.is
  | in-Byte+in_ok-push-in-Byte w ↦
      grown c (c.number-number.result ∷ []) Byte (ap (λ (v : Vec ℕ Global). v.items) w.bytes-is ∙ w.in_ok-push-in-Byte.ensures.items) refl w.in-Byte.is
]

pub loop-sample-preserved : goal.loop-sample-preserved
loop-sample-preserved c = record {
  state = drawn c;
  value = bytes_are c
      ∙ ap (λ (bytes : List ℕ). bytes ++ number_bytes c.args.format c.number-number.result) c.loop-sample.invariant.value
      ∙ ap (λ (n : ℕ). synthetic_bytes c.args.format c.loop-sample._sample ++ number_bytes c.args.format n) (number_is c)
      ∙ sym (pieces_more (λ i. number_bytes c.args.format (highest (format_bits c.args.format) (state_after (i + 1)))) c.loop-sample._sample);
}
