use Rattle.std.proofs.Common.{ℕ, length, ◌∙◌, arith}
use Rattle.sha2.specs.Sha256.{padded_message, padding, word_at}
use Rattle.sha256_lanes.specs.Lanes.{message_of}
use Rattle.sha256_lanes.proofs.Pieces.{eight_of, end_word, message_length, word_in_front}
use Rattle.sha256_lanes.proofs.blocks.padded_words.Goals as goal

pub returns-then-at-len : goal.returns-then-at-len
returns-then-at-len c = λ lane lt.
    let m = message_of c.args.len lane c.args.messages.now in
    c.message_words.ensures lane lt
    ∙ word_in_front m (padding (length m)) c.args.at
    (omega (arith, message_length c.args.messages.now c.args.len lane c.requires.length lt, c.if-at-len.true))

pub returns-then-at-len-2 : goal.returns-then-at-len-2
returns-then-at-len-2 c = λ lane lt.
    c.splat.ensures lane lt ∙ c.word_of.ensures
    ∙ end_word (message_of c.args.len lane c.args.messages.now) c.args.end.now c.args.len c.args.at
    (message_length c.args.messages.now c.args.len lane c.requires.length lt) c.requires.end (omega arith) c.requires.within

pub returns-else-at-len-2 : goal.returns-else-at-len-2
returns-else-at-len-2 c = λ lane lt.
    c.from_array.ensures lane lt
    ∙ eight_of (λ (l : ℕ). word_at (padded_message (message_of c.args.len l c.args.messages.now)) c.args.at) _ _ _ _ _ _ _ _
    c.padded_word.ensures c.padded_word-else-at-len-2.ensures c.padded_word-else-at-len-2-2.ensures c.padded_word-else-at-len-2-3.ensures
    c.padded_word-else-at-len-2-4.ensures c.padded_word-else-at-len-2-5.ensures c.padded_word-else-at-len-2-6.ensures c.padded_word-else-at-len-2-7.ensures lane lt
