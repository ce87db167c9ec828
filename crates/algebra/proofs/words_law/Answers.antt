use Rattle.algebra.proofs.Words.{coset_words}
use Rattle.algebra.proofs.words_law.Goals as goal

pub returns : goal.returns
returns g c = λ F L top w W shift z k m b. coset_words F L top w W shift z k m b
