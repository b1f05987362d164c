use Rattle.std.proofs.Common.{◌≡◌, ◌∙◌, ◌+◌, length, ap, arith}
use Rattle.cube_core.specs.Shape.{sample_count}
use Rattle.ccsds_command.specs.Show.{sizes_of}
use Rattle.ccsds_command.proofs.Showing.{within_limit, shown_by, refused_by}
use Rattle.ccsds_command.proofs.show.shown_text.Given.{Over}
use Rattle.ccsds_command.proofs.show.shown_text.Goals as goal
use Rattle.ccsds_command.proofs.show.shown_text.Goals.{After-sample_count}

module _ (g : Over) (c : After-sample_count g) where
  -- six bytes of sizes were read
  six : length c.in_ok-sizes.sizes.items ≡ 6
  six = omega (arith, c.in_ok-sizes.ensures.limited, c.if-len-lt-SIZES.false, c.len.ensures, c.in_ok-sizes.sizes.ok.0)

  -- the shape has as many samples as the sizes say
  count : c.sample_count.result ≡ sample_count (sizes_of c.in_ok-sizes.sizes.items)
  count = c.sample_count.ensures.value ∙ ap sample_count (c.shape_of-shape.ensures ∙ ap sizes_of c.deref.ensures.value)

pub returns-in_err-raw-clause-bounded : goal.returns-in_err-raw-clause-bounded
returns-in_err-raw-clause-bounded g c =
    let d = (goal.at.returns-in_err-raw-clause-bounded g c).After-sample_count in
    within_limit _ _ _ c.in_ok-sizes.sizes.items (c.sample_count.result + 1) (six g d)
    (ap (λ n. n + 1) (count g d)) c.in_ok-sizes.ensures.given c.read_up_to-2.ensures.bounded

pub returns-clause-shown : goal.returns-clause-shown
returns-clause-shown g c =
    let d = (goal.at.returns-clause-shown g c).After-sample_count in
    shown_by c.text_of.result (λ v. v.items) _ _ _ c.in_ok-sizes.sizes.items c.in_ok-raw.raw.items c.sample_count.result (six g d) c.in_ok-sizes.ensures.given
    c.in_ok-raw.ensures.given c.in_ok-raw.ensures.whole
    (rw (c.deref-3.ensures.value, ← c.sample_count.ensures.value) at c.text_of.ensures.whole)
    (rw (c.deref-2.ensures.value, c.deref-3.ensures.value) at c.text_of.ensures.text)

pub returns-clause-refused : goal.returns-clause-refused
returns-clause-refused g c =
    let d = (goal.at.returns-clause-refused g c).After-sample_count in
    refused_by c.text_of.result _ _ _ c.in_ok-sizes.sizes.items c.in_ok-raw.raw.items c.sample_count.result _ _ (six g d) (count g d)
    c.in_ok-sizes.ensures.given c.in_ok-raw.ensures.given c.in_ok-raw.ensures.limited c.in_ok-raw.ensures.whole
    (rw (c.deref-3.ensures.value, ← c.sample_count.ensures.value) at c.text_of.ensures.refused)

pub returns-clause-bounded : goal.returns-clause-bounded
returns-clause-bounded g c =
    let d = (goal.at.returns-clause-bounded g c).After-sample_count in
    within_limit _ _ _ c.in_ok-sizes.sizes.items (c.sample_count.result + 1) (six g d)
    (ap (λ n. n + 1) (count g d)) c.in_ok-sizes.ensures.given c.read_up_to-2.ensures.bounded
