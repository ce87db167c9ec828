-- Words of low degree have no bad challenges.
use Rattle.std.specs.Prelude.{◌≡◌, ℕ, ◌+◌, ◌-◌, ◌^◌, ◌≤◌, List, Some}
use Rattle.algebra.specs.Field.{FieldOps, IsField}
use Rattle.algebra.specs.TwoAdic.{AreRoots}
use Rattle.algebra.specs.Words.{IsWord}
use Rattle.fri_soundness.specs.FoldTests.{Step, IsBadIn}

-- the step's word is of low degree, and so is its input, if it has one
pub record IsHonestStep {A : Type 0} (F : FieldOps A) (w : ℕ → A) (log_blowup : ℕ) (s : Step A)
    : Type 0 where
  pub word : IsWord F w (s.height + s.round.log_arity)
      (2 ^ (s.height + s.round.log_arity - log_blowup)) s.word
  pub input : (us : List A) → s.input ≡ Some us
      → IsWord F w s.height (2 ^ (s.height - log_blowup)) us

-- No challenge is bad for an honest step.
abbrev pub HonestStepsHaveNoBad : Type 0 → Type 0
HonestStepsHaveNoBad A = (F : FieldOps A) → IsField F → (top : ℕ) (w : ℕ → A)
    → AreRoots F top w → (log_blowup : ℕ) (e : ℕ → ℕ) (s : Step A)
    → s.height + s.round.log_arity ≤ top → log_blowup ≤ s.height
    → IsHonestStep F w log_blowup s
    → (beta : A) → ¬ (IsBadIn F w log_blowup e s beta)
