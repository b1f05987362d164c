use Rattle.std.proofs.Common.{◌≡◌, ◌∙◌, ◌%◌, ◌++◌, ◌∷◌, ◌+◌, [], ℕ, List, map, sym, ap, arith}
use Rattle.std.proofs.lemmas.List.{map_push}
use Rattle.cube_core.specs.Order.{upto}
use Rattle.file_encoding.proofs.Sending.{upto_split}
use Rattle.ccsds_command.proofs.piped.dealt.Goals as goal

-- one band more is dealt
dealt_more : (p z : ℕ) (deal new : List ℕ) (owner : ℕ) → deal ≡ map (λ k. k % p) (upto z) → new ≡ deal ++ owner ∷ [] → owner ≡ z % p
    → new ≡ map (λ k. k % p) (upto (z + 1))
dealt_more p z deal new owner h e is =
    e ∙ ap (λ ks. ks ++ owner ∷ []) h ∙ ap (λ k. map (λ k. k % p) (upto z) ++ k ∷ []) is
    ∙ sym (ap (map (λ k. k % p)) (upto_split z 1) ∙ map_push (λ k. k % p) (upto z) z)

pub loop-z-preserved : goal.loop-z-preserved
loop-z-preserved c = dealt_more c.args.settings.now.predictors c.loop-z.z c.loop-z.deal.items _ _ c.loop-z.invariant c.in_ok-push.ensures.items (omega arith)
