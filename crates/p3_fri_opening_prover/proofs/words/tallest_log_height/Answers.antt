use Rattle.std.proofs.Common.{◌∙◌}
use Rattle.p3_fri_prover.proofs.Lists.{height_of_item}
use Rattle.p3_fri_opening_prover.proofs.Tallest.{some_word}
use Rattle.p3_fri_opening_prover.proofs.words.tallest_log_height.Goals as goal

pub returns : goal.returns
returns g c = λ heights have.
    height_of_item c.args.words.now 0 c.index-words-0.result
    (some_word c.requires.words.0 c.args.words.now c.requires.words.1) c.index-words-0.is heights
    c.log2_strict_usize.result have (c.log2_strict_usize.ensures.power ∙ c.len.ensures)
