-- How a command comes by its options.
use Rattle.std.proofs.Common.{◌≡◌, ◌∙◌, ◌<◌, ◌≤◌, ◌+◌, ◌∷◌, ◌++◌, ℕ, List, add-one, arith, ap₂, ap, drop, false, get_or, length, map, refl, sym, true, suc}
use Rattle.std.proofs.lemmas.List.{drop_all}
use Rattle.std.proofs.Math.Seq.{drop-cons}
use Rattle.std.proofs.lemmas.Grind.{common_steps}
use Rattle.clap.proofs.OnLiterals.{clap_on_literals}
use Rattle.clap.specs.Built.{AddsArg}
use Rattle.clap.specs.Simple.{App, app_of, is_simple, with_rule}
use Rattle.clap.specs.Faults.{is_simple_and_free}
use Rattle.clap.specs.Walk.{Rule, is_simple_arg, rule_of}
use Rattle.clap.specs.declared.builder.arg.Arg.{Arg}
use Rattle.clap.specs.declared.builder.command.Command.{Command}
use Rattle.command_words.specs.Options.{compress_app, expand_app, flags, image_rules, layout_rules, options, sizes, with_rules}

simple_is_local : (a : Arg) → is_simple_arg a ≡ true → a.global ≡ false
simple_is_local a simple = grind (arith, common_steps)

-- one `arg` more is one rule more
pub one_more : {old new : Command} {a : Arg} {before : App} {rule : Rule}
    → AddsArg old a new → rule_of a ≡ rule → rule.is_simple ≡ true → app_of old ≡ before → app_of new ≡ with_rule before rule
one_more {a = a} {rule = rule} adds is simple start =
    adds.shape (simple_is_local a (ap (λ (r : Rule). r.is_simple) is ∙ simple))
    ∙ ap₂ with_rule start is

pub expand_is_simple : is_simple expand_app ≡ true
unfolding clap_on_literals expand_app layout_rules
expand_is_simple = refl

pub expand_is_free : is_simple_and_free expand_app ≡ true
unfolding clap_on_literals expand_app layout_rules
expand_is_free = refl

pub compress_is_simple : is_simple compress_app ≡ true
unfolding clap_on_literals compress_app image_rules sizes options flags layout_rules
compress_is_simple = refl

pub compress_is_free : is_simple_and_free compress_app ≡ true
unfolding clap_on_literals compress_app image_rules sizes options flags layout_rules
compress_is_free = refl

-- with the rules of xs from place i on, and these after them, the command has all that it is to have
pub record Leads {X : Type 0} (rule : X → Rule) (xs : List X) (i : ℕ) (later : List Rule) (c : Command) (all : App) : Type 0 where
  pub leads : with_rules (app_of c) (map rule (drop i xs) ++ later) ≡ all

-- a step takes the next rule
pub next : {X : Type 0} {rule : X → Rule} {xs : List X} {i : ℕ} (d : X) {later : List Rule} {old new : Command} {a : Arg} {all : App}
    → Leads rule xs i later old all → i < length xs → AddsArg old a new → rule_of a ≡ rule (get_or xs i d) → ((x : X) → (rule x).is_simple ≡ true)
    → Leads rule xs (i + 1) later new all
next {rule = rule} {xs = xs} {i = i} d {later = later} {old = old} {new = new} {all = all} before lt adds is simple =
    let added : app_of new ≡ with_rule (app_of old) (rule (get_or xs i d)) = one_more adds is (simple _) refl in
    let first : with_rules (app_of old) (rule (get_or xs i d) ∷ map rule (drop (suc i) xs) ++ later) ≡ all =
    ap (λ ys. with_rules (app_of old) (map rule ys ++ later)) (sym (drop-cons xs i d lt)) ∙ before.leads in
    record { leads = rw (add-one, added) first }

-- after the last of xs come the others
pub over : {X : Type 0} {rule : X → Rule} {xs : List X} {i : ℕ} {later : List Rule} {c : Command} {all : App}
    → Leads rule xs i later c all → length xs ≤ i → with_rules (app_of c) later ≡ all
over {rule = rule} {xs = xs} {i = i} {later = later} {c = c} before past =
    ap (λ ys. with_rules (app_of c) (map rule ys ++ later)) (sym (drop_all i xs past)) ∙ before.leads
