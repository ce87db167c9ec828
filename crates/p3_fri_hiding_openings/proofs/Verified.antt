-- What the verifier of all values answers, said of the claims and the random values.
use Rattle.std.proofs.Common.{◌≡◌, ◌≢◌, ◌⊎◌, inl, inr, ℕ, List, Option, Result, Ok, Err}
use Rattle.std.proofs.Common.{◌++◌, length, take, drop, refl, sym, ap, ◌∙◌, subst, arith}
use Rattle.std.specs.Prelude.{◌↔◌, IsOk, IfErr}
use Rattle.std.proofs.lemmas.List.{take_all, drop_all, append-nil}
use Rattle.p3_fri_folding.specs.declared.pow_phase.PowPhase.{PowPhase}
use Rattle.p3_fri_folding.specs.declared.pow_phase.PowPhase.TheVariants.{Batch}
use Rattle.p3_fri_relation.specs.declared.error.FriError.{FriError}
use Rattle.p3_fri_relation.specs.declared.error.FriError as refusal
use refusal.TheVariants.{HidingRandomOpeningRoundCountMismatch}
use refusal.TheVariants.{HidingRandomOpeningMatrixCountMismatch}
use refusal.TheVariants.{HidingRandomOpeningPointCountMismatch}
use refusal.TheVariants.{HidingRandomOpeningValueCountMismatch}
use refusal.TheVariants.{HidingPreprocessedCommitmentOutOfBounds}
use refusal.TheVariants.{InsufficientHidingRandomCodewords, HidingBudgetExceeded, OutOfMemory}
use refusal.TheVariants.{InvalidPowWitness, NonCanonicalPowWitness}
use Rattle.p3_fri_relation.specs.Setting.{Setting, Parameters, CommitmentClaim, Proof}
use Rattle.p3_fri_relation.specs.Acceptance.{Accepts}
use Rattle.p3_fri_relation.specs.Faults.{StandsInScheme}
use Rattle.p3_fri_hiding_openings.specs.RandomValues.{MayAppend, with_random_values}
use Rattle.p3_fri_hiding_openings.specs.Hiding.{HidingAccepts, StandsInHidingScheme}
use Rattle.p3_fri_hiding_openings.specs.Hiding.{LeavesHidingVerifier}

-- what none of these shows is not shown
none_of : {P I K W O R M : Type 0} → P ⊎ (I ⊎ (K ⊎ (W ⊎ ((O ⊎ R) ⊎ M)))) → (P → ⊥) → (I → ⊥)
    → (K → ⊥) → (W → ⊥) → (O → ⊥) → (R → ⊥) → (M → ⊥) → ⊥
none_of (inl h) p i k w o r m = p h
none_of (inr (inl h)) p i k w o r m = i h
none_of (inr (inr (inl h))) p i k w o r m = k h
none_of (inr (inr (inr (inl h)))) p i k w o r m = w h
none_of (inr (inr (inr (inr (inl (inl h)))))) p i k w o r m = o h
none_of (inr (inr (inr (inr (inl (inr h)))))) p i k w o r m = r h
none_of (inr (inr (inr (inr (inr h))))) p i k w o r m = m h

module _ {A B F E C Com Path InCom InPath : Type 0} (s : Setting F E C Com Path InCom InPath)
    (p : Parameters) (num_random : ℕ) (preprocessing : Option ℕ)
    (claims whole : List (CommitmentClaim E InCom)) (random : List (List (List (List E))))
    (proof : Proof F E Com Path InPath) (c : C) where
  pub exactly_with : (result : Result Unit (FriError A B))
      → MayAppend num_random p.num_queries s.fields.degree preprocessing claims random
      → whole ≡ with_random_values claims random
      → (result ≢ Err OutOfMemory → IsOk result ↔ Accepts s p whole proof c)
      → result ≢ Err OutOfMemory
      → IsOk result ↔ HidingAccepts s p num_random preprocessing claims random proof c
  exactly_with result may same exact other = (
    (λ ok. record {
      appends = may;
      accepts = subst (λ (cs : List (CommitmentClaim E InCom)). Accepts s p cs proof c) same
          ((exact other).0 ok);
    }),
    (λ a. (exact other).1 (subst
        (λ (cs : List (CommitmentClaim E InCom)). Accepts s p cs proof c) (sym same) a.accepts)),
  )

  pub stands_with : (result : Result Unit (FriError A B))
      → MayAppend num_random p.num_queries s.fields.degree preprocessing claims random
      → whole ≡ with_random_values claims random
      → IfErr result (StandsInScheme s p whole proof c)
      → IfErr result (StandsInHidingScheme s p num_random preprocessing claims random proof c)
  stands_with (Ok v) may same h = tt
  stands_with (Err e) may same h = inr (
    may,
    subst (λ (cs : List (CommitmentClaim E InCom)). StandsInScheme s p cs proof c e) same h,
  )

  -- of the plain scheme's refusals one alone leaves the challenger
  pub unmoved_with : {X : Type 0} (result : Result Unit (FriError A B))
      → IfErr result (StandsInScheme s p whole proof c)
      → ((phase : PowPhase) → result ≡ Err (NonCanonicalPowWitness phase) → X)
      → IfErr result (λ e. LeavesHidingVerifier e → X)
  unmoved_with (Ok v) h f = tt
  unmoved_with (Err (NonCanonicalPowWitness phase)) h f = λ leaves. f phase refl
  unmoved_with (Err (HidingRandomOpeningRoundCountMismatch expected got)) h f =
      λ leaves. absurd (none_of h
      (λ q. let k : ◌≡◌ {A = FriError A B} (HidingRandomOpeningRoundCountMismatch expected got)
      (InvalidPowWitness Batch) = q.0 in cc)
      (λ q. q) (λ q. q) (λ q. q) (λ q. q) (λ q. q)
      (λ q. let k : ◌≡◌ {A = FriError A B} (HidingRandomOpeningRoundCountMismatch expected got)
      OutOfMemory = q in cc))
  unmoved_with (Err (HidingRandomOpeningMatrixCountMismatch round expected got)) h f =
      λ leaves. absurd (none_of h
      (λ q. let k : ◌≡◌ {A = FriError A B} (HidingRandomOpeningMatrixCountMismatch round expected got)
      (InvalidPowWitness Batch) = q.0 in cc)
      (λ q. q) (λ q. q) (λ q. q) (λ q. q) (λ q. q)
      (λ q. let k : ◌≡◌ {A = FriError A B} (HidingRandomOpeningMatrixCountMismatch round expected got)
      OutOfMemory = q in cc))
  unmoved_with (Err (HidingRandomOpeningPointCountMismatch round matrix expected got)) h f =
      λ leaves. absurd (none_of h
      (λ q. let k : ◌≡◌ {A = FriError A B} (HidingRandomOpeningPointCountMismatch round matrix expected got)
      (InvalidPowWitness Batch) = q.0 in cc)
      (λ q. q) (λ q. q) (λ q. q) (λ q. q) (λ q. q)
      (λ q. let k : ◌≡◌ {A = FriError A B} (HidingRandomOpeningPointCountMismatch round matrix expected got)
      OutOfMemory = q in cc))
  unmoved_with (Err (HidingRandomOpeningValueCountMismatch round matrix point expected got)) h f =
      λ leaves. absurd (none_of h
      (λ q. let k : ◌≡◌ {A = FriError A B} (HidingRandomOpeningValueCountMismatch round matrix point expected got)
      (InvalidPowWitness Batch) = q.0 in cc)
      (λ q. q) (λ q. q) (λ q. q) (λ q. q) (λ q. q)
      (λ q. let k : ◌≡◌ {A = FriError A B} (HidingRandomOpeningValueCountMismatch round matrix point expected got)
      OutOfMemory = q in cc))
  unmoved_with (Err (HidingPreprocessedCommitmentOutOfBounds index num_rounds)) h f =
      λ leaves. absurd (none_of h
      (λ q. let k : ◌≡◌ {A = FriError A B} (HidingPreprocessedCommitmentOutOfBounds index num_rounds)
      (InvalidPowWitness Batch) = q.0 in cc)
      (λ q. q) (λ q. q) (λ q. q) (λ q. q) (λ q. q)
      (λ q. let k : ◌≡◌ {A = FriError A B} (HidingPreprocessedCommitmentOutOfBounds index num_rounds)
      OutOfMemory = q in cc))
  unmoved_with (Err (InsufficientHidingRandomCodewords required got)) h f =
      λ leaves. absurd (none_of h
      (λ q. let k : ◌≡◌ {A = FriError A B} (InsufficientHidingRandomCodewords required got)
      (InvalidPowWitness Batch) = q.0 in cc)
      (λ q. q) (λ q. q) (λ q. q) (λ q. q) (λ q. q)
      (λ q. let k : ◌≡◌ {A = FriError A B} (InsufficientHidingRandomCodewords required got)
      OutOfMemory = q in cc))
  unmoved_with (Err (HidingBudgetExceeded round matrix height queries points degree)) h f =
      λ leaves. absurd (none_of h
      (λ q. let k : ◌≡◌ {A = FriError A B} (HidingBudgetExceeded round matrix height queries points degree)
      (InvalidPowWitness Batch) = q.0 in cc)
      (λ q. q) (λ q. q) (λ q. q) (λ q. q) (λ q. q)
      (λ q. let k : ◌≡◌ {A = FriError A B} (HidingBudgetExceeded round matrix height queries points degree)
      OutOfMemory = q in cc))
  unmoved_with (Err _) h f = λ leaves. absurd leaves

-- what a slice holds that was lent by a vector and keeps its length
pub written_back : {X : Type 0} (new old : List X) (n : ℕ) → length new ≡ length old
    → n ≡ length old → take n (new ++ drop (length new) old) ≡ new
written_back new old n e m =
    ap (λ rest. take n (new ++ rest)) (drop_all (length new) old (omega arith))
    ∙ ap (take n) (append-nil new) ∙ take_all n new (omega arith)
