use Rattle.std.proofs.Common.{ℕ, ◌+◌, ◌*◌, length, length-set, ◌∙◌, arith}
use Rattle.sha2.specs.Sha256.{padded_message, padding, word_at}
use Rattle.sha256_lanes.specs.Lanes.{message_of}
use Rattle.sha256_lanes.proofs.Pieces.{block_word, message_length, rows_next, word_in_front}
use Rattle.sha256_lanes.proofs.blocks.load_whole_block.Goals as goal

pub words-preserved : goal.words-preserved
words-preserved c = (
  length-set c.words.window c.words.k c.message_words.result ∙ c.words.invariant.0,
  rows_next (λ (lane j : ℕ). word_at (message_of c.args.len lane c.args.messages.now) (64 * c.args.n + 4 * j))
      c.words.window c.words.k c.message_words.result c.words.invariant.0 (omega arith) c.words.invariant.1 c.message_words.ensures,
)

pub returns : goal.returns
returns c = λ lane lt j below.
    let m = message_of c.args.len lane c.args.messages.now in
    c.words.invariant.1 lane j lt (omega arith)
    ∙ word_in_front m (padding (length m)) (64 * c.args.n + 4 * j)
    (omega (arith, message_length c.args.messages.now c.args.len lane c.requires.length lt, c.requires.within, below))
    ∙ block_word (padded_message m) c.args.n j below
