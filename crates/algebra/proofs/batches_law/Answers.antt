use Rattle.algebra.specs.Words.{IsCosetWord}
use Rattle.algebra.specs.Quotients.{IsOpenedOff}
use Rattle.algebra.proofs.Lists.{each_from_All}
use Rattle.algebra.proofs.Batches.{batch_coset_word, quotient_word_below}
use Rattle.algebra.proofs.batches_law.Goals as goal

pub returns-clause-words : goal.returns-clause-words
returns-clause-words g c F L w shift k d alpha words h =
    batch_coset_word F L.ring w shift k d alpha words (each_from_All (IsCosetWord F w shift k d) words h)

pub returns-clause-openings : goal.returns-clause-openings
returns-clause-openings g c F L K M lift H w shift k d alpha ms h =
    quotient_word_below F K lift L M H w shift k d alpha ms (each_from_All (IsOpenedOff F lift w shift k d) ms h)
