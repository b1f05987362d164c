-- What readers and writers that tell their bytes tell of the sources and sinks over them.
use Rattle.std.proofs.Common.{ℕ, List, [], ◌++◌, Option, Some, None, refl, sym, ap, ◌∙◌, append-nil}
use Rattle.std.proofs.lemmas.Option.{none-some, same_Some}
use Rattle.std.specs.Io.KnownBytes.{Consumes, Keeps, Appends, IsAtEnd}
use Rattle.command_devices.specs.Devices.{Gave, Took, IsEnd}

pub consumed_gave : (old new : Option (List ℕ)) (bytes : List ℕ) → Consumes old new bytes → Gave old new bytes
consumed_gave None new bytes h before e = absurd (none-some before e)
consumed_gave (Some xs) None bytes h before e = absurd h
consumed_gave (Some xs) (Some ys) bytes h before e = (ys, refl, sym (same_Some xs before e) ∙ h)

pub kept_gave : (old new : Option (List ℕ)) → Keeps old new → Gave old new []
kept_gave None new h before e = absurd (none-some before e)
kept_gave (Some xs) None h before e = absurd h
kept_gave (Some xs) (Some ys) h before e = (ys, refl, sym (same_Some xs before e) ∙ sym h)

pub at_end : (left : Option (List ℕ)) → IsAtEnd left → IsEnd left
at_end None h rest e = absurd (none-some rest e)
at_end (Some xs) h rest e = sym (same_Some xs rest e) ∙ h

pub appended_took : (old new : Option (List ℕ)) (bytes : List ℕ) → Appends old new bytes → Took old new bytes
appended_took None new bytes h before e = absurd (none-some before e)
appended_took (Some xs) None bytes h before e = absurd h
appended_took (Some xs) (Some ys) bytes h before e = ap (λ (x : List ℕ). Some x) (h ∙ ap (λ (x : List ℕ). x ++ bytes) (same_Some xs before e))

pub kept_took : (old new : Option (List ℕ)) → Keeps old new → Took old new []
kept_took None new h before e = absurd (none-some before e)
kept_took (Some xs) None h before e = absurd h
kept_took (Some xs) (Some ys) h before e = ap (λ (x : List ℕ). Some x) (h ∙ same_Some xs before e ∙ sym (append-nil before))
