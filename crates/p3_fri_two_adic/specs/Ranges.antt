-- For which parameters a scheme over two-adic words is used: all words of the field are folded, and
-- no bits of an index are drawn beside a position's.
use Rattle.std.specs.Prelude.{ℕ}
use Rattle.p3_fri_relation.specs.Setting.{Parameters}
use Rattle.p3_fri_opening_prover.specs.Ranges.{IsInOpeningRange}
use Rattle.p3_fri_opening_verifier.specs.Ranges.{IsInVerifierRange}

-- over a field of this two-adicity, from a challenger that draws `most_bits` at once
module _ (p : Parameters) (two_adicity most_bits : ℕ) where
  -- the parameters are in the prover's range
  abbrev pub InProverRange : Type 0
  InProverRange = IsInOpeningRange p two_adicity 0 two_adicity most_bits

  -- and in the verifier's
  abbrev pub InVerifierRange : Type 0
  InVerifierRange = IsInVerifierRange p two_adicity 0 two_adicity most_bits
