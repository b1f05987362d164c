use Rattle.std.proofs.Common.{◌≡◌, ◌∙◌, ◌+◌, ◌++◌, ◌∷◌, [], ℕ, List, map, take, get_or, string_bytes, sym, ap, Bor, String, Global}
use Rattle.std.proofs.lemmas.List.{map_push, map_more, take_all}
use Rattle.command_words.specs.Words.{texts}
use Rattle.command_words.proofs.command_line.texts_of.Goals as goal

-- one word more, on both sides
push_word : (told : List (Bor (List ℕ))) (word : Bor (List ℕ)) (words : List (String Global)) (i : ℕ) (item : String Global)
    → texts told ≡ map string_bytes (take i words)
    → map string_bytes (take (i + 1) words) ≡ map string_bytes (take i words) ++ string_bytes (get_or words i item) ∷ []
    → item ≡ get_or words i item → word.now ≡ string_bytes item → texts (told ++ word ∷ []) ≡ map string_bytes (take (i + 1) words)
push_word told word words i item e more is same =
    map_push (λ w. w.now) told word ∙ ap (λ l. l ++ word.now ∷ []) e
    ∙ ap (λ b. map string_bytes (take i words) ++ b ∷ []) (same ∙ ap string_bytes is) ∙ sym more

pub loop-word-preserved : goal.loop-word-preserved
loop-word-preserved c =
    ap texts c.in_ok-push.ensures.items
    ∙ push_word c.loop-word.texts.items c.as_str.result c.args.words.now c.loop-word.word-index c.word-item.result c.loop-word.invariant
    (map_more string_bytes c.args.words.now c.loop-word.word-index c.word-item.result c.loop-word-test.true) c.word-item.is c.as_str.ensures.value

pub returns : goal.returns
returns c = c.loop-word.invariant ∙ ap (map (string_bytes {Z = Global})) (take_all c.loop-word.word-index c.args.words.now c.loop-word-test.false)
