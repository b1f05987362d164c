-- Words that ask for a command, and words that ask for none.
use Rattle.std.proofs.Common.{◌≡◌, ◌∙◌, ◌⊎◌, ℕ, List, [], Result, IfErr, IsErrAnd, inl, inr, sym, slice_index_or, codes, String, Global}
use Rattle.clap.specs.Simple.{matches_of}
use Rattle.cube_core.specs.declared.fault.Fault.{Fault}
use Rattle.cube_core.specs.declared.fault.Fault.TheVariants.{Usage, WantOfMemory}
use Rattle.cube_core.specs.declared.layout.Layout.{Layout}
use Rattle.command_words.specs.declared.settings.CompressSettings.{CompressSettings}
use Rattle.command_words.specs.declared.settings.Settings.TheVariants.{Show, Compress, Expand, Inspect}
use Rattle.command_words.specs.Options.{compress_app, expand_app}
use Rattle.command_words.specs.Settings.{AreInRange}
use Rattle.command_words.specs.Words.{AreCompressed, AreExpanded, AreTaken, AskForNone, BeginWith}
use Rattle.command_words.proofs.Refused.{passed}

-- two words that aren't the same don't both come first
other : (words : List (List ℕ)) (a b : List ℕ) → slice_index_or words 0 [] ≡ a → slice_index_or words 0 [] ≡ b → a ≡ b
other words a b h k = sym h ∙ k

pub expand_none : (words : List (List ℕ)) → BeginWith (codes "expand") words
    → ((l : Layout) (from to : String Global) → AreTaken expand_app words → AreExpanded (matches_of expand_app words) l from to
    → ¬ (AreInRange (Expand l from to))) → AskForNone words
expand_none words first none Show asked range = let e : codes "expand" ≡ codes "show" = other words _ _ first.1 asked.1 in absurd (cc)
expand_none words first none (Compress s from to) asked range = let e : codes "expand" ≡ codes "compress" = other words _ _ first.1 asked.0.1 in absurd (cc)
expand_none words first none (Expand l from to) asked range = none l from to asked.1 asked.2 range
expand_none words first none Inspect asked range = let e : codes "expand" ≡ codes "inspect" = other words _ _ first.1 asked.1 in absurd (cc)

pub compress_none : (words : List (List ℕ)) → BeginWith (codes "compress") words
    → ((s : CompressSettings) (from to : String Global) → AreTaken compress_app words → AreCompressed (matches_of compress_app words) s from to
    → ¬ (AreInRange (Compress s from to))) → AskForNone words
compress_none words first none Show asked range = let e : codes "compress" ≡ codes "show" = other words _ _ first.1 asked.1 in absurd (cc)
compress_none words first none (Compress s from to) asked range = none s from to asked.1 asked.2 range
compress_none words first none (Expand l from to) asked range = let e : codes "compress" ≡ codes "expand" = other words _ _ first.1 asked.0.1 in absurd (cc)
compress_none words first none Inspect asked range = let e : codes "compress" ≡ codes "inspect" = other words _ _ first.1 asked.1 in absurd (cc)

-- a refusal that is passed on, and why
pub passed_for : {T : Type 0} (r : Result T Fault) (e : Fault) (Why Then : Type 0) → IsErrAnd r (λ f. f ≡ e) → (Why → Then)
    → ((e ≡ Usage) × Why) ⊎ (e ≡ WantOfMemory)
    → IfErr r (λ f. ((f ≡ Usage) × Then) ⊎ (f ≡ WantOfMemory))
passed_for r e Why Then h turn (inl w) = passed r e (λ f. ((f ≡ Usage) × Then) ⊎ (f ≡ WantOfMemory)) h (inl (w.0, turn w.1))
passed_for r e Why Then h turn (inr w) = passed r e (λ f. ((f ≡ Usage) × Then) ⊎ (f ≡ WantOfMemory)) h (inr w)
