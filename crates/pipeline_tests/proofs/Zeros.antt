-- A feed of six zeros for each of two predictors, which own a band each of an image of three columns and two rows.
use Rattle.std.proofs.Common.{◌≡◌, ◌<◌, ℕ, zero, suc, List, [], ◌∷◌, length, get_or, refl, sym, ap, ◌∙◌, arith}
use Rattle.cube_core.specs.declared.order.Order.TheVariants.{Bi}
use Rattle.cube_core.specs.Order.{places}
use Rattle.coder_pipe.specs.Piping.{AreFeeds}
use Rattle.coder_pipe.specs.Plans.{PlanState}
use Rattle.coder_pipe.specs.Weave.{share}
use Rattle.file_encoding.specs.Own.{owners_of}

abbrev pub zeros : List ℕ
zeros = 0 ∷ 0 ∷ 0 ∷ 0 ∷ 0 ∷ 0 ∷ []

zero_at : (k d : ℕ) → k < 6 → get_or zeros k d ≡ 0
zero_at zero d lt = refl
zero_at (suc zero) d lt = refl
zero_at (suc (suc zero)) d lt = refl
zero_at (suc (suc (suc zero))) d lt = refl
zero_at (suc (suc (suc (suc zero)))) d lt = refl
zero_at (suc (suc (suc (suc (suc zero))))) d lt = refl
zero_at (suc (suc (suc (suc (suc (suc k)))))) d lt = absurd (omega arith)

-- each predictor owns six places
six : (q : ℕ) → q < 2 → share q (owners_of (0 ∷ 1 ∷ []) (places (record { columns = 3; rows = 2; bands = 2 }) (Bi 2))) ≡ 6
unfolding owners_of places
six zero lt = refl
six (suc zero) lt = refl
six (suc (suc q)) lt = absurd (omega arith)

module _ {F : Type 0} where
  named_at : (predictor : F → ℕ) (f g h : F) (q : ℕ) → q < 2 → predictor f ≡ 0 → predictor g ≡ 1 → predictor (get_or (f ∷ g ∷ []) q h) ≡ q
  named_at predictor f g h zero lt first second = first
  named_at predictor f g h (suc zero) lt first second = second
  named_at predictor f g h (suc (suc q)) lt first second = absurd (omega arith)

  items_at : (items : F → List ℕ) (f g h : F) (q : ℕ) → q < 2 → items f ≡ zeros → items g ≡ zeros → items (get_or (f ∷ g ∷ []) q h) ≡ zeros
  items_at items f g h zero lt first second = first
  items_at items f g h (suc zero) lt first second = second
  items_at items f g h (suc (suc q)) lt first second = absurd (omega arith)

  pub are_feeds : (predictor : F → ℕ) (items : F → List ℕ) (plan : PlanState) (f g : F)
      → plan.predictors ≡ 2 → plan.deal ≡ 0 ∷ 1 ∷ [] → plan.params.shape ≡ record { columns = 3; rows = 2; bands = 2 } → plan.params.kind.bits ≡ 8
      → plan.params.order ≡ Bi 2
      → predictor f ≡ 0 → predictor g ≡ 1 → items f ≡ zeros → items g ≡ zeros → AreFeeds predictor items plan (f ∷ g ∷ [])
  are_feeds predictor items plan f g many deal shape bits order named_f named_g zeros_f zeros_g = record {
    many = sym many;
    named = λ q h lt. named_at predictor f g h q (rw many at lt) named_f named_g;
    whole = λ q h lt. ap (λ (ns : List ℕ). length ns) (items_at items f g h q (rw many at lt) zeros_f zeros_g)
        ∙ sym (rw (deal, shape, order) (six q (rw many at lt)));
    range = λ q h lt k e below.
        let all = items_at items f g h q (rw many at lt) zeros_f zeros_g in
        rw (all, zero_at k e (rw all at below), bits) (omega arith);
  }
