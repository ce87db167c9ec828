use Rattle.algebra.proofs.Rounds.{rounds_lower_degrees}
use Rattle.algebra.proofs.Chains.{chain_through_words, chain_rows_through_words}
use Rattle.algebra.proofs.FinalPolynomials.{chain_ends_at_final_polynomial}
use Rattle.algebra.proofs.rounds_law.Goals as goal

pub returns-clause-chains : goal.returns-clause-chains
returns-clause-chains g c F fold inputs values k rounds ys q n b l met = record {
  last = chain_through_words F fold inputs values k rounds ys q n b l met;
  rows = chain_rows_through_words F fold inputs values k rounds ys q n b l met;
}

pub returns-clause-degrees : goal.returns-clause-degrees
returns-clause-degrees g c F L top w fold falls inputs log_blowup low =
    rounds_lower_degrees F L.ring w top fold falls inputs log_blowup low

pub returns-clause-ends : goal.returns-clause-ends
returns-clause-ends g c F L top w W = chain_ends_at_final_polynomial F L top w W
