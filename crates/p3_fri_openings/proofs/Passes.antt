-- A test that passed, and one that failed.
use Rattle.std.proofs.Common.{◌≡◌, ℕ, Bool, true, false, refl, sym, ◌∙◌}
use Rattle.std.specs.Prelude.{◌↔◌, IsTrue}
use Rattle.std.specs.Int.{IsPowerOfTwo, is_power_of_two}
use Rattle.std.proofs.lemmas.Bool.{false≢true}
use Rattle.p3_field_core.proofs.IndexPowers.{IsPowerOfTwo_test}

pub passed : {P : Type 0} → P → IsTrue true ↔ P
passed p = ((λ t. p), (λ q. refl))

pub failed : {P : Type 0} → (P → ⊥) → IsTrue false ↔ P
failed none = ((λ t. absurd (false≢true t)), (λ p. absurd (none p)))

-- what a test says that failed doesn't hold
pub not_tested : {P : Type 0} (b : Bool) → (IsTrue b ↔ P) → b ≡ false → P → ⊥
not_tested b test fails p = false≢true (sym fails ∙ test.1 p)

-- a test of powers of two
pub power_tested : (n : ℕ) (b : Bool) → b ≡ is_power_of_two n → IsTrue b ↔ IsPowerOfTwo n
power_tested n b is = (
  λ t. (IsPowerOfTwo_test n).0 (sym is ∙ t),
  λ power. is ∙ (IsPowerOfTwo_test n).1 power,
)
