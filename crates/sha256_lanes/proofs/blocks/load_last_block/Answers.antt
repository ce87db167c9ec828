use Rattle.std.proofs.Common.{ℕ, ◌+◌, ◌*◌, length-set, ◌∙◌, arith}
use Rattle.sha2.specs.Sha256.{padded_message, word_at}
use Rattle.sha256_lanes.specs.Lanes.{message_of}
use Rattle.sha256_lanes.proofs.Pieces.{block_word, rows_next}
use Rattle.sha256_lanes.proofs.blocks.load_last_block.Goals as goal

pub words-preserved : goal.words-preserved
words-preserved c = (
  length-set c.words.window c.words.k c.padded_words.result ∙ c.words.invariant.0,
  rows_next (λ (lane j : ℕ). word_at (padded_message (message_of c.args.len lane c.args.messages.now)) (64 * c.args.n + 4 * j))
      c.words.window c.words.k c.padded_words.result c.words.invariant.0 (omega arith) c.words.invariant.1 c.padded_words.ensures,
)

pub returns : goal.returns
returns c = λ lane lt j below.
    c.words.invariant.1 lane j lt (omega arith)
    ∙ block_word (padded_message (message_of c.args.len lane c.args.messages.now)) c.args.n j below
