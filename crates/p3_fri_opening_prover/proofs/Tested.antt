-- What the test of the quotients' words asks for.
use Rattle.std.proofs.Common.{◌≡◌, ◌≢◌, ◌<◌, ◌≤◌, ℕ, suc, List, [], All, sym, arith, subst}
use Rattle.p3_fri_relation.specs.Setting.{Fields, Parameters}
use Rattle.p3_fri_openings.specs.declared.round.OpeningRound.{OpeningRound}
use Rattle.p3_fri_openings.specs.Rounds.{IsRound, log_height}
use Rattle.p3_fri_openings.specs.Refusals.{AreTallEnough}
use Rattle.p3_fri_batch.specs.Words.{Opened}
use Rattle.p3_fri_batch.specs.Rounds.{opened_of}
use Rattle.p3_fri_prover.specs.Inputs.{HaveHeights, AreInputs}
use Rattle.p3_fri_relation.specs.TallEnough.{IsTallEnough}
use Rattle.p3_fri_opening_prover.specs.Opening.{heights, top, words}
use Rattle.p3_fri_opening_prover.proofs.Matrices.{opened_cosets, opened_tall}
use Rattle.p3_fri_opening_prover.proofs.Tallest.{words_have, words_are_inputs, tallest_within}
use Rattle.p3_fri_opening_prover.proofs.Tallest.{tallest_bounds, all_heights}

module _ {F E : Type 0} (f : Fields F E) (rounds : List (OpeningRound F E))
    (values : List (List (List (List E)))) where
  abbrev ms : List (Opened F E)
  ms = opened_of rounds values

  pub top_within : top f ms ≤ f.two_adicity
  top_within = tallest_within ms f.two_adicity

  pub tall_heights : (p : Parameters) → All (λ r. AreTallEnough p r.matrices.now) rounds
      → All (IsTallEnough p) (heights f ms)
  tall_heights p tall =
      all_heights ms (IsTallEnough p) (opened_tall p rounds values tall) (suc f.two_adicity)

  module _ (are : All (IsRound f.two_adicity) rounds) where
    below : All (λ m. log_height m.matrix < suc f.two_adicity) ms
    below = opened_cosets f.two_adicity rounds values are

    pub none_above : All (λ m. log_height m.matrix ≤ top f ms) ms
    none_above = tallest_bounds ms (suc f.two_adicity) below

    pub small_heights : f.two_adicity < 64 → All (λ h. h < 64) (heights f ms)
    small_heights small = all_heights ms (λ h. h < 64)
        (λ k d l. let b = below k d l in omega (arith, b, small)) (suc f.two_adicity)

    pub are_inputs : (alpha : E) → ms ≢ [] → AreInputs (top f ms) (words f ms alpha)
    are_inputs alpha some = words_are_inputs ms f alpha (suc f.two_adicity) below some

-- words that were made of the quotients, with the log height of the tallest
pub record Made {F E : Type 0} (f : Fields F E) (ms : List (Opened F E)) (alpha : E)
    (found : List (List E)) (log_height : ℕ) : Type 0 where
  pub words_are : found ≡ words f ms alpha
  pub top_is : log_height ≡ top f ms

module _ {F E : Type 0} {f : Fields F E} {ms : List (Opened F E)} {alpha : E}
    {found : List (List E)} {log_height : ℕ} (made : Made f ms alpha found log_height) where
  -- what holds of them holds of the quotients' words, and the other way round
  pub of_words : (P : ℕ → List (List E) → Type 0) → P log_height found
      → P (top f ms) (words f ms alpha)
  of_words P h = subst (λ ws. P (top f ms) ws) made.words_are
      (subst (λ t. P t found) made.top_is h)

  pub of_made : (P : ℕ → List (List E) → Type 0) → P (top f ms) (words f ms alpha)
      → P log_height found
  of_made P h = subst (λ t. P t found) (sym made.top_is)
      (subst (λ ws. P (top f ms) ws) (sym made.words_are) h)

  pub made_have : HaveHeights (heights f ms) found
  made_have = of_made (λ t ws. HaveHeights (heights f ms) ws) (words_have ms f alpha (heights f ms))
