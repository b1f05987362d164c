-- The body that the sample-adaptive coder writes: code words along the encoding order.
use Rattle.std.specs.Prelude.{ℕ, ◌==◌, Bool, if◌then◌else◌, List, [], ◌∷◌, ◌++◌}
use Rattle.cube_core.specs.declared.order.Place.{Place}
use Rattle.sample_adaptive.specs.Statistics.{CoderSettings}
use Rattle.sample_adaptive.specs.Words.{code_word, code_at}

-- the residuals of band z, among the residuals of these places
unfoldable pub band_residuals : ℕ → List Place → List ℕ → List ℕ
band_residuals z [] residuals = []
band_residuals z (p ∷ places) [] = []
band_residuals z (p ∷ places) (residual ∷ residuals) =
    if p.z == z then residual ∷ band_residuals z places residuals else band_residuals z places residuals

-- the code words of the residuals of places, each by the earlier residuals of its band; the places `gone` and their residuals `before` come first
unfoldable pub words_after : CoderSettings → List Place → List ℕ → List Place → List ℕ → List Bool
words_after c gone before [] residuals = []
words_after c gone before (p ∷ places) [] = []
words_after c gone before (p ∷ places) (residual ∷ residuals) =
    code_word (code_at c p.z (band_residuals p.z gone before)) residual
    ++ words_after c (gone ++ p ∷ []) (before ++ residual ∷ []) places residuals

-- the body of the residuals of places
unfoldable pub sample_body : CoderSettings → List Place → List ℕ → List Bool
sample_body c places residuals = words_after c [] [] places residuals
