-- A refused row ends its encoder.
use Rattle.std.proofs.Common.{◌≡◌, ℕ, List, Option, None, Some, Err, refl}
use Rattle.cube_core.specs.declared.fault.Fault.{Fault}
use Rattle.ccsds123.specs.declared.scene.SceneEncoder.{SceneEncoder}
use Rattle.ccsds123.specs.declared.refusal.Refusal.TheVariants as refusal
use Rattle.ccsds123.specs.Rows.{IsRowsRefusal, TakesRows}
use Rattle.ccsds123.specs.Scenes.{scene_of, told_scene}

pub rows_refused : (old : Option SceneEncoder) (s : SceneEncoder) (bytes : List ℕ) (new : Option SceneEncoder) (fault : Fault) → old ≡ Some s
    → IsRowsRefusal (scene_of s) bytes fault → new ≡ None → TakesRows (told_scene old) bytes (told_scene new) (Err (refusal.Coder fault))
unfolding TakesRows
rows_refused old s bytes new fault is refused ended = rw (is, ended) ((fault, refl, refused), refl)
