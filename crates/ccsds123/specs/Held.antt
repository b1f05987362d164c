-- What a handle of an encoder owns: the scene at its address, which is under way; or nothing.
use Rattle.std.specs.Prelude.{Option, None, Some}
use base.Fml.{Fml, ftrue, fsep, fex}
use denote.RawPtr.{Ptr}
use Rattle.std.specs.declared.alloc.Global.{Global}
use Rattle.std.specs.contracts.impls.GlobalAllocator.TheImpl.{ghosts}
use Rattle.std_alloc.specs.Box.Ownership.{box_owns}
use Rattle.ccsds123.specs.declared.scene.SceneEncoder.{SceneEncoder}
use Rattle.ccsds123.specs.contracts.scene.SceneEncoder.{the_row}
use Rattle.ccsds123.specs.Scenes.{IsOpen}

abbrev pub held_owns : Ptr → Option SceneEncoder → Fml
held_owns at None = ftrue
held_owns at (Some scene) = fsep (fex Global (λ alloc. box_owns (ghosts.dealloc_token alloc) the_row at scene)) (fex (IsOpen scene) (λ _. ftrue))
