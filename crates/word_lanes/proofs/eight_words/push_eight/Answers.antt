use Rattle.std.proofs.Common.{◌≡◌, ◌+◌, ◌++◌, List, Bool, sym, ap, ap₂, ◌∙◌, length}
use Rattle.std.proofs.lemmas.List.{length-append}
use Rattle.header_bits.proofs.Numbers.{length-bits_of}
use Rattle.lanes.specs.Lanes.{number}
use Rattle.word_lanes.specs.EightWords.{text_at, texts, word_text}
use Rattle.word_lanes.proofs.Merging.{eight_texts, short_length}
use Rattle.word_lanes.proofs.eight_words.push_eight.Goals as goal
use Rattle.word_lanes.proofs.eight_words.push_eight.Goals.{After-quads_of}

module _ (c : After-quads_of) where
  two_are_eight : text_at c.quads_of.result.bits c.quads_of.result.lengths 0 ++ text_at c.quads_of.result.bits c.quads_of.result.lengths 1
      ≡ texts (word_text c.args.words) 0 8
  two_are_eight =
      let p = c.pairs_of.result in let q = c.quads_of.result in
      eight_texts (word_text c.args.words) (text_at p.bits p.lengths) (text_at q.bits q.lengths) c.pairs_of.ensures.pairs c.quads_of.ensures.pairs

  all_length : length (texts (word_text c.args.words) 0 8) ≡ number c.quads_of.result.lengths 0 + number c.quads_of.result.lengths 1
  all_length =
      let q = c.quads_of.result in
      ap length (sym two_are_eight) ∙ length-append (text_at q.bits q.lengths 0) (text_at q.bits q.lengths 1)
      ∙ ap₂ (λ x y. x + y) (length-bits_of (number q.lengths 0) (number q.bits 0)) (length-bits_of (number q.lengths 1) (number q.bits 1))

pub push_two-requires-clause-room : goal.push_two-requires-clause-room
push_two-requires-clause-room c = rw (all_length c) at c.requires.room

pub returns-clause-text : goal.returns-clause-text
returns-clause-text c = c.push_two.ensures.text ∙ ap (λ (bits : List Bool). c.args.writer.bits ++ bits) (two_are_eight c.before)

pub returns-clause-room : goal.returns-clause-room
returns-clause-room c = rw (all_length c.before) c.push_two.ensures.room

pub returns-clause-most : goal.returns-clause-most
returns-clause-most c = short_length c.args.words c.requires.words
