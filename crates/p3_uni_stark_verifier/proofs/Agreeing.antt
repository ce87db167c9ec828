-- What is decided of equal entries and of equal quotients is decided alike.
use Rattle.std.proofs.Common.{◌≡◌, ◌↔◌, ℕ, Bool, List, Result, IsTrue, map, ap, ◌∙◌, subst}
use Rattle.std.specs.Prelude.{IfOk}
use Rattle.algebra.specs.Field.{FieldOps}
use Rattle.p3_air.specs.Nodes.{Entries}
use Rattle.p3_uni_stark_identity.specs.Chunks.{quotient_at}

pub decided : {A B X : Type 0} (P : A → B → Type 0) (answer : Result Bool X) (a a' : A) (b b' : B)
    → a ≡ a' → b ≡ b' → IfOk answer (λ holds. IsTrue holds ↔ P a b)
    → IfOk answer (λ holds. IsTrue holds ↔ P a' b')
decided P answer a a' b b' e f h = subst (λ x. IfOk answer (λ holds. IsTrue holds ↔ P a' x)) f
    (subst (λ x. IfOk answer (λ holds. IsTrue holds ↔ P x b)) e h)

module _ {V E : Type 0} where
  abbrev entries : (local next preprocessed preprocessed_next : List E) (public_values : List V)
      (periodic : List E) → Entries V E
  entries local next preprocessed preprocessed_next public_values periodic = record {
    local = local;
    next = next;
    preprocessed = preprocessed;
    preprocessed_next = preprocessed_next;
    public_values = public_values;
    periodic = periodic;
  }

  pub same_entries : (l l' n n' p p' q q' : List E) (public_values : List V) (periodic : List E)
      → l ≡ l' → n ≡ n' → p ≡ p' → q ≡ q'
      → entries l n p q public_values periodic ≡ entries l' n' p' q' public_values periodic
  same_entries l l' n n' p p' q q' publics periodic el en ep eq =
      ap (λ x. entries x n p q publics periodic) el ∙ ap (λ x. entries l' x p q publics periodic) en
      ∙ ap (λ x. entries l' n' x q publics periodic) ep
      ∙ ap (λ x. entries l' n' p' x publics periodic) eq

  pub same_quotient : (K : FieldOps E) (d : ℕ) (basis : ℕ → E) (lift : V → E) (z : E) (k k' : ℕ)
      (shifts shifts' : List V) (chunks chunks' : List (List E)) → k ≡ k' → shifts ≡ shifts'
      → chunks ≡ chunks' → quotient_at K d basis k (map lift shifts) chunks z
      ≡ quotient_at K d basis k' (map lift shifts') chunks' z
  same_quotient K d basis lift z k k' shifts shifts' chunks chunks' ek es ec =
      ap (λ x. quotient_at K d basis x (map lift shifts) chunks z) ek
      ∙ ap (λ x. quotient_at K d basis k' (map lift x) chunks z) es
      ∙ ap (λ x. quotient_at K d basis k' (map lift shifts') x z) ec
