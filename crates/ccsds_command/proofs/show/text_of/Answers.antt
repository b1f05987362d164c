use Rattle.std.proofs.Common.{◌≡◌, ◌∙◌, Result, Ok, Err, sym, inl, inr, ap, arith, subst, rules}
use Rattle.cube_core.specs.declared.fault.Fault.{Fault}
use Rattle.cube_core.specs.Kind.{SampleKind}
use Rattle.ccsds_command.specs.Show.{shown_kind, shown_layout}
use Rattle.cube_core.specs.Raw.{IsBadSample}
use Rattle.ccsds_command.proofs.Showing.{bytes_are_samples}
use Rattle.ccsds_command.proofs.show.text_of.Goals as goal

eight : (k : SampleKind) → (let made : Result SampleKind Fault = Ok k in made) ≡ Ok shown_kind → k ≡ shown_kind
eight k e = cc

pub returns-in-Err-clause-refused : goal.returns-in-Err-clause-refused
returns-in-Err-clause-refused c =
    elim c.in-Err.ensures.refused [
      | inl h ↦ absurd (c.in-Err.ensures.length.0 (ap (λ (f : Fault). Err f) h) (omega (arith, c.if-raw-sample_count.false, c.sample_count.ensures.value)))
      | inr (inl h) ↦ inl h
      | inr (inr h) ↦ absurd (bytes_are_samples c.args.raw.now c.in-Err.fault (λ i. omega (arith, c.type_inv.raw i)) (subst (λ (k : SampleKind).
          IsBadSample k shown_layout c.args.raw.now c.in-Err.fault) (eight c.unwrap-kind.result (sym c.unwrap-kind.ensures ∙ c.new.ensures.value)) h))
    ]

pub returns-clause-text : goal.returns-clause-text
returns-clause-text c = search rules
