use Rattle.std.proofs.Common.{◌≡◌, ◌+◌, ◌*◌, ◌≤◌, ◌∙◌, ℕ, suc, List, true, false, length, arith, sym, ap}
use Rattle.std.proofs.lemmas.Bool.{ne_eqb, eq-eqb}
use Rattle.std.specs.Prelude.{not}
use Rattle.cube_core.proofs.Putting.{byte_put, byte_kept, pair_put, pair_kept, no_more, two_wide}
use Rattle.cube_core.proofs.Spelled.{one_byte, little_first, big_first}
use Rattle.cube_core.proofs.piece.put_number.Goals as goal

room : (i bytes width length_is : ℕ) → bytes ≡ width → bytes ≡ 2 → (i + 1) * width ≤ length_is → 2 * i + 2 ≤ length_is
room i bytes width length_is e two there = let w : width ≡ 2 = omega arith in let t : (i + 1) * 2 ≤ length_is = rw w at there in omega arith

pub returns-then-this-eq1 : goal.returns-then-this-eq1
returns-then-this-eq1 g c =
    let one : c.args.layout.bytes ≡ 1 = c.requires.form ∙ c.if-this-eq1.true in
    let there : (c.args.i + 1) * 1 ≤ length c.args.bytes.now = rw c.if-this-eq1.true at c.requires.there in
    record {
      there = λ v code. rw one (byte_put c.args.bytes.now c.args.i c.args.number (omega (arith, there)))
          ∙ one_byte c.args.layout v c.args.number one (sym code);
      others = λ j other. rw one (byte_kept c.args.bytes.now c.args.i c.args.number j other);
    }

pub returns-then-this-ne0 : goal.returns-then-this-ne0
returns-then-this-ne0 g c =
    let two = two_wide _ _ c.requires.form c.requires.width c.if-this-eq1.false in
    let fits = room c.args.i _ _ (length c.args.bytes.now) c.requires.form two c.requires.there in
    let long : length c.write_u16.new.buf ≡ 2 = ap length c.write_u16.ensures ∙ ap (λ (xs : List ℕ). suc (suc (length xs))) (no_more _ (2 * c.args.i) fits) in
    let end : c.args.layout.little ≡ true = c.requires.end (sym c.requires.form ∙ two) ∙ ap not (ne_eqb _ _ c.if-this-ne0.true) in
    record {
      there = λ v code. rw two (pair_put _ _ _ _ fits long) ∙ c.write_u16.ensures
          ∙ rw (no_more c.args.bytes.now (2 * c.args.i) fits) (little_first _ v _ two end (sym code) (omega arith));
      others = λ j other. rw two (pair_kept c.args.bytes.now c.write_u16.new.buf c.args.i _ j fits long (omega arith) other);
    }

pub returns-else-this-ne0 : goal.returns-else-this-ne0
returns-else-this-ne0 g c =
    let two = two_wide _ _ c.requires.form c.requires.width c.if-this-eq1.false in
    let fits = room c.args.i _ _ (length c.args.bytes.now) c.requires.form two c.requires.there in
    let written = c.write_u16-else-this-ne0 in
    let long : length written.new.buf ≡ 2 = ap length written.ensures ∙ ap (λ (xs : List ℕ). suc (suc (length xs))) (no_more _ (2 * c.args.i) fits) in
    let end : c.args.layout.little ≡ false = c.requires.end (sym c.requires.form ∙ two) ∙ ap not (eq-eqb _ _ c.if-this-ne0.false) in
    record {
      there = λ v code. rw two (pair_put _ _ _ _ fits long) ∙ written.ensures
          ∙ rw (no_more c.args.bytes.now (2 * c.args.i) fits) (big_first _ v _ two end (sym code) (omega arith));
      others = λ j other. rw two (pair_kept c.args.bytes.now written.new.buf c.args.i _ j fits long (omega arith) other);
    }
