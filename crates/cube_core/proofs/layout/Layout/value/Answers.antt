use Rattle.cube_core.proofs.layout.Layout.value.Goals.{then-self-eq1, else-self-eq1+then-self, else-self-eq1+else-self}
use Rattle.cube_core.proofs.Putting.{two_wide}
use Rattle.cube_core.specs.Layout.{raw_number}
use Rattle.std.proofs.Common.{w32, SFits, to_z-of_z, ◌≡◌, refl, ◌∙◌, arith}
use Rattle.cube_core.proofs.layout.Layout.value.Goals as goal

pub returns-clause-value : goal.returns-clause-value
returns-clause-value c =
    let two = two_wide _ _ refl c.requires.layout in
    let number : c.if-self-eq1.number ≡ raw_number c.args.self c.args.bytes.now = elim c.if-self-eq1.branch [
      | then-self-eq1 w ↦ rw w.if-self-eq1.true (w.number-is ∙ w.from-number.ensures)
      | else-self-eq1+then-self w ↦ rw (two w.if-self-eq1.false, w.if-self.true) (omega (arith, w.number-is, w.read_u16.ensures))
      | else-self-eq1+else-self w ↦ rw (two w.if-self-eq1.false, w.if-self.false) (omega (arith, w.number-is, w.read_u16-else-self.ensures))
    ] in
    let fits : SFits w32 c.signed_value.result = record { sfits = c.signed_value.type_inv } in
    rw (to_z-of_z fits, c.signed_value.ensures.value, c.is_signed.ensures, number) refl
