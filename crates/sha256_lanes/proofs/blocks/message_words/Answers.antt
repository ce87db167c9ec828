use Rattle.std.proofs.Common.{ℕ, ◌∙◌, arith}
use Rattle.sha2.specs.Sha256.{word_at}
use Rattle.sha256_lanes.specs.Lanes.{message_of}
use Rattle.sha256_lanes.proofs.Pieces.{eight_of, message_word}
use Rattle.sha256_lanes.proofs.blocks.message_words.Goals as goal

pub returns : goal.returns
returns c = λ lane lt.
    let bytes = c.args.messages.now in
    let len = c.args.len in
    let at = c.args.at in
    c.from_array.ensures lane lt
    ∙ eight_of (λ (l : ℕ). word_at (message_of len l bytes) at) _ _ _ _ _ _ _ _
    (c.word_of.ensures ∙ message_word bytes len 0 at _ c.requires.within (omega arith))
    (c.word_of-2.ensures ∙ message_word bytes len 1 at _ c.requires.within (omega arith))
    (c.word_of-3.ensures ∙ message_word bytes len 2 at _ c.requires.within (omega arith))
    (c.word_of-4.ensures ∙ message_word bytes len 3 at _ c.requires.within (omega arith))
    (c.word_of-5.ensures ∙ message_word bytes len 4 at _ c.requires.within (omega arith))
    (c.word_of-6.ensures ∙ message_word bytes len 5 at _ c.requires.within (omega arith))
    (c.word_of-7.ensures ∙ message_word bytes len 6 at _ c.requires.within (omega arith))
    (c.word_of-8.ensures ∙ message_word bytes len 7 at _ c.requires.within (omega arith))
    lane lt
