use Rattle.std.proofs.Common.{get_or, ◌≡◌, ◌∷◌, [], append-nil, arith, ◌∙◌, refl, ap}
use Rattle.std.proofs.lemmas.List.{map-append}
use Rattle.file_encoding.specs.Walks.{IsAt}
use Rattle.header_bits.proofs.Items.{all_append}
use Rattle.file_encoding.proofs.Groups.{own_split, own_one, own_none}
use Rattle.coder_pipe.proofs.cube_feed.own_bands.Goals as goal
use Rattle.coder_pipe.proofs.cube_feed.own_bands.Goals.{then-from-predictor+in_ok-new+in_ok-push, else-from-predictor}

pub loop-z-preserved : goal.loop-z-preserved
loop-z-preserved c =
    let p = c.args.plan.now.params in
    let was = c.loop-z.invariant in
    let owner : c.from.result ≡ get_or c.args.plan.now.deal c.loop-z.z 0 = c.from.ensures ∙ ap (λ d. get_or d c.loop-z.z 0) c.deal.ensures in
    elim c.if-from-predictor.branch [
      | then-from-predictor+in_ok-new+in_ok-push w ↦ (
          let made = rw w.params-then-from-predictor.ensures at w.in_ok-new.ensures.made in
          let follows = rw w.params-then-from-predictor.ensures at w.in_ok-new.ensures.follows in
          rw (w.bands-is, w.in_ok-push.ensures.items) (record {
            own = rw (map-append, own_split, own_one c.args.predictor c.loop-z.z _ _ owner w.if-from-predictor.true, was.own, made.1) refl;
            at = λ image. all_append (IsAt p image 0) c.loop-z.bands.items (w.in_ok-new.field-0 ∷ []) (was.at image)
                (record { follows = follows image; next = made.2; inside = omega (arith, made.1, ap (λ q. q.shape.bands) c.params.ensures) }, tt);
          }))
      | else-from-predictor w ↦ rw w.bands-is
          (record { own = rw (own_split, own_none c.args.predictor c.loop-z.z _ _ owner w.if-from-predictor.false, append-nil) was.own; at = was.at })
    ]

pub returns-clause-fresh : goal.returns-clause-fresh
returns-clause-fresh c = λ image.
    let all : c.loop-z.z ≡ c.args.plan.now.params.shape.bands = omega (arith, ap (λ p. p.shape.bands) c.params.ensures) in
    record { own = rw all at c.loop-z.invariant.own; at = c.loop-z.invariant.at image }
