-- What a refusal tells of the source, and what holds with any result.
use Rattle.std.proofs.Common.{◌≡◌, ℕ, ◌*◌, List, [], Option, Result, Ok, Err, IfErr, OnOk, ◌∙◌, inl, inr, arith}
use Rattle.cube_core.specs.declared.fault.Fault.{Fault}
use Rattle.cube_core.specs.declared.layout.Layout.{Layout}
use Rattle.cube_core.specs.declared.part.Part.{Part}
use Rattle.cube_core.specs.Parts.{IsPart, part_samples}
use Rattle.cube_core.specs.Shape.{Sizes}
use Rattle.command_devices.specs.Devices.{GaveWithin}
use Rattle.command_devices.specs.Reading.{ToldAsRead}
use Rattle.raw_streams.specs.Streams.{IsPartRefusal, IsEndRefusal, most_read}
use Rattle.raw_streams.proofs.Streams.{part_inside, within_more, gave_none}

pub part_told : (s : Sizes) (l : Layout) (part : Part) (b c : Option (List ℕ)) (f0 f1 f2 : ℕ) (fault : Fault) → f1 ≡ f0 → IsPartRefusal s l part b c f1 f2 fault
    → ToldAsRead f0 f2 fault
part_told s l part b c f0 f1 f2 fault same (inl (e, rose)) = inl e
part_told s l part b c f0 f1 f2 fault same (inr (more, came, end, short, worked, e)) = inr (worked ∙ same)

pub end_told : (s : Sizes) (l : Layout) (b c : Option (List ℕ)) (f0 f1 f2 : ℕ) (fault : Fault) → f1 ≡ f0 → IsEndRefusal s l b c f1 f2 fault → ToldAsRead f0 f2 fault
end_told s l b c f0 f1 f2 fault same (inl (e, rose)) = inl e
end_told s l b c f0 f1 f2 fault same (inr (more, came, one, worked, e)) = inr (worked ∙ same)

-- no more of a part than its bytes
pub from_start : (l : Layout) (s : Sizes) (part : Part) (a b : Option (List ℕ)) → IsPart l s part → GaveWithin (λ _. part_samples l s part * l.bytes) a b
    → GaveWithin (λ _. most_read s l) a b
from_start l s part a b within gave =
    within_more a a b [] (part_samples l s part * l.bytes) (most_read s l) (gave_none a) gave (omega (arith, part_inside l s part within))

pub ok_anyway : {T : Type 0} {f0 f1 : ℕ} (r : Result T Fault) → f1 ≡ f0 → OnOk r (f1 ≡ f0)
ok_anyway (Ok x) same = same
ok_anyway (Err e) same = tt

pub err_anyway : {T : Type 0} {f0 f1 : ℕ} (r : Result T Fault) → f1 ≡ f0 → IfErr r (ToldAsRead f0 f1)
err_anyway (Ok x) same = tt
err_anyway (Err e) same = inr same
