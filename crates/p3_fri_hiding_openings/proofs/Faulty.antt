-- Faults of a matrix, of a commitment and of all, and that none stands where the values may be
-- appended.
use Rattle.std.proofs.Common.{◌≡◌, ◌≢◌, ℕ, ◌<◌, ◌≤◌, ◌/◌, ◌^◌, List, length, get_or, All}
use Rattle.std.proofs.Common.{Option, Some, None}
use Rattle.std.proofs.Common.{refl, sym, ap, ap₂, ◌∙◌, subst, arith}
use Rattle.std.proofs.Common.{Result, Ok, Err}
use Rattle.std.specs.Prelude.{IfSome, OnOk, IfErr, IsOk, ◌↔◌}
use Rattle.std.specs.List.{AllZip, zip, enumerate_from}
use Rattle.algebra.proofs.Lists.{all_zip-weaker}
use Rattle.p3_fri_pow.specs.Counts.{IsWrongCount}
use Rattle.p3_fri_relation.specs.declared.error.FriError.{FriError}
use Rattle.p3_fri_relation.specs.declared.error.FriError as refusal
use refusal.TheVariants.{HidingRandomOpeningRoundCountMismatch}
use refusal.TheVariants.{HidingRandomOpeningMatrixCountMismatch}
use refusal.TheVariants.{HidingRandomOpeningPointCountMismatch}
use refusal.TheVariants.{HidingRandomOpeningValueCountMismatch}
use refusal.TheVariants.{HidingPreprocessedCommitmentOutOfBounds}
use refusal.TheVariants.{InsufficientHidingRandomCodewords, HidingBudgetExceeded, OutOfMemory}
use Rattle.p3_fri_masks.specs.Budget.{required_height}
use Rattle.p3_fri_relation.specs.Setting.{MatrixClaim, CommitmentClaim}
use Rattle.p3_fri_relation.specs.Faults.{At}
use Rattle.p3_fri_hiding_openings.specs.RandomValues.{count_at, NestInMatrix, MeetsBudget}
use Rattle.p3_fri_hiding_openings.specs.RandomValues.{mask_height, MayAppend, FitsMatrix, FitRounds}
use Rattle.p3_fri_hiding_openings.specs.RandomFaults.{OfMatrix, MatrixFaults, AtMatrixOf}
use Rattle.p3_fri_hiding_openings.specs.RandomFaults.{HidingFaults}
use Rattle.p3_fri_hiding_openings.proofs.Places.{at_zip, of_pair, of_placed, of_left, of_right}
use Rattle.p3_fri_hiding_openings.proofs.Places.{all_zip-length, placed_length}
use Rattle.p3_fri_hiding_openings.proofs.Places.{left_of_placed, left_of_all}

pub budget_met : {E : Type 0} (num_queries degree num_points size : ℕ) (m : MatrixClaim E)
    → num_points ≡ length m.points → size ≡ 2 ^ m.domain
    → required_height num_queries degree num_points ≤ size / 2
    → MeetsBudget num_queries degree m
budget_met num_queries degree num_points size m e s met =
    subst (λ (n : ℕ). required_height num_queries degree n ≤ mask_height m) e
    (subst (λ (n : ℕ). required_height num_queries degree num_points ≤ n / 2) s met)

module _ {A B E : Type 0} (num_queries degree : ℕ) where
  -- what holds of a matrix by `S` holds of it by `T`
  faults_within : (S T : (round matrix : ℕ) → OfMatrix E → Type 0)
      → ((r k : ℕ) (Holds : OfMatrix E) → S r k Holds → T r k Holds)
      → (e : FriError A B) → MatrixFaults num_queries degree S e
      → MatrixFaults num_queries degree T e
  faults_within S T f (HidingBudgetExceeded r k height queries points dimensions) h =
      (h.0, h.1, f r k _ h.2)
  faults_within S T f (HidingRandomOpeningPointCountMismatch r k expected got) h = f r k _ h
  faults_within S T f (HidingRandomOpeningValueCountMismatch r k point expected got) h = f r k _ h
  faults_within S T f OutOfMemory h = tt
  faults_within S T f _ h = absurd h

  -- a matrix's fault among those of its commitment
  pub matrix_fault : (round i count : ℕ) (matrices : List (MatrixClaim E))
      (random : List (List (List E))) (m : MatrixClaim E) (points : List (List E))
      → i < length matrices → i < length random → m ≡ get_or matrices i m
      → points ≡ get_or random i points → (e : FriError A B)
      → MatrixFaults num_queries degree
      (λ r k Holds. (r ≡ round) × (k ≡ i) × Holds count m points) e
      → MatrixFaults num_queries degree (λ r k Holds.
      (r ≡ round) × At k (λ (m, points). Holds count m points) (zip matrices random)) e
  matrix_fault round i count matrices random m points l n read beside =
      faults_within (λ r k Holds. (r ≡ round) × (k ≡ i) × Holds count m points)
      (λ r k Holds. (r ≡ round) × At k (λ (m, points). Holds count m points)
      (zip matrices random))
      (λ r k Holds h. (
        h.0,
        subst
            (λ (j : ℕ). At j (λ (m, points). Holds count m points) (zip matrices random)) (sym h.1)
            (at_zip (λ (m, points). Holds count m points) i matrices random m points l n read beside
            h.2),
      ))

-- a commitment with another number of matrices
pub count_fault : {E Com : Type 0} (claims : List (CommitmentClaim E Com))
    (random : List (List (List (List E)))) (i expected got : ℕ) (c : CommitmentClaim E Com)
    (matrices : List (List (List E))) → i < length claims → i < length random
    → c ≡ get_or claims i c → matrices ≡ get_or random i matrices
    → expected ≡ length c.matrices → got ≡ length matrices → got ≢ expected
    → At i (λ (c, matrices). IsWrongCount (length c.matrices) (length matrices) expected got)
    (zip claims random)
count_fault claims random i expected got c matrices l n read beside asked found differ =
    at_zip (λ (c, matrices). IsWrongCount (length c.matrices) (length matrices) expected got)
    i claims random c matrices l n read beside
    (record { expected_is = asked; got_is = found; differ = λ same. differ (sym same) })

-- a count that is as asked isn't wrong
not_wrong : {asked found expected got : ℕ} → IsWrongCount asked found expected got
    → asked ≡ found → ⊥
not_wrong wrong same = wrong.differ (wrong.expected_is ∙ same ∙ sym wrong.got_is)

-- a mask that is too low is no mask that is high enough
budget_missed : {E : Type 0} (num_queries degree queries dimensions height points : ℕ)
    (m : MatrixClaim E) → queries ≡ num_queries → dimensions ≡ degree → height ≡ mask_height m
    → points ≡ length m.points → height < required_height queries dimensions points
    → MeetsBudget num_queries degree m → ⊥
budget_missed num_queries degree queries dimensions height points m q d h n low met =
    let same : required_height queries dimensions points
    ≡ required_height num_queries degree (length m.points) =
    ap₂ (λ a b. required_height a b points) q d
    ∙ ap (λ k. required_height num_queries degree k) n in
    omega (arith, low, met, same, h)

module _ {A B E Com : Type 0} (num_random num_queries degree : ℕ) (preprocessing : Option ℕ)
    (claims : List (CommitmentClaim E Com)) (random : List (List (List (List E)))) where
  -- a matrix's fault among those of all
  among_all : (e : FriError A B)
      → MatrixFaults num_queries degree (AtMatrixOf num_random preprocessing claims random) e
      → HidingFaults num_random num_queries degree preprocessing claims random e
  among_all (HidingPreprocessedCommitmentOutOfBounds index num_rounds) h = absurd h
  among_all (InsufficientHidingRandomCodewords required got) h = absurd h
  among_all (HidingRandomOpeningRoundCountMismatch expected got) h = absurd h
  among_all (HidingRandomOpeningMatrixCountMismatch round expected got) h = absurd h
  among_all _ h = h

  -- a fault of a commitment's matrices among those of all
  pub round_fault : (i : ℕ) (c : CommitmentClaim E Com) (matrices : List (List (List E)))
      → i < length claims → i < length random → c ≡ get_or claims i c
      → matrices ≡ get_or random i matrices → (e : FriError A B)
      → MatrixFaults num_queries degree (λ r k Holds. (r ≡ i) × At k (λ (m, points).
      Holds (count_at num_random preprocessing i) m points) (zip c.matrices matrices)) e
      → HidingFaults num_random num_queries degree preprocessing claims random e
  round_fault i c matrices l n read beside e h =
      among_all e (faults_within num_queries degree
      (λ r k Holds. (r ≡ i) × At k (λ (m, points).
      Holds (count_at num_random preprocessing i) m points) (zip c.matrices matrices))
      (AtMatrixOf num_random preprocessing claims random)
      (λ r k Holds h. subst
      (λ (j : ℕ). AtMatrixOf num_random preprocessing claims random j k Holds) (sym h.0)
      (at_zip (λ (c, matrices). At k (λ (m, points).
      Holds (count_at num_random preprocessing i) m points) (zip c.matrices matrices))
      i claims random c matrices l n read beside h.1)) e h)

  -- no fault stands where the values may be appended
  pub no_fault : (e : FriError A B) → e ≢ OutOfMemory
      → MayAppend num_random num_queries degree preprocessing claims random
      → HidingFaults num_random num_queries degree preprocessing claims random e → ⊥
  no_fault (HidingPreprocessedCommitmentOutOfBounds index num_rounds) other may h =
      let within : index < length claims =
      subst (λ (o : Option ℕ). IfSome o (λ i. i < length claims)) h.0 may.among_claims in
      omega arith
  no_fault (InsufficientHidingRandomCodewords required got) other may h =
      omega (arith, may.enough_columns)
  no_fault (HidingRandomOpeningRoundCountMismatch expected got) other may h =
      not_wrong h (placed_length _ 0 claims random may.nest)
  no_fault (HidingRandomOpeningMatrixCountMismatch round expected got) other may h =
      let found = of_placed _ _ 0 round round claims random (omega arith) h may.nest in
      not_wrong found.1 (all_zip-length _ _ _ found.2)
  no_fault (HidingBudgetExceeded round matrix height queries points dimensions) other may h =
      let found = of_left _ (λ c. All (MeetsBudget num_queries degree) c.matrices)
      round claims random h.2 may.budgets in
      let inner = of_left _ (MeetsBudget num_queries degree) matrix found.0.0.matrices found.0.1 found.1 found.2 in
      budget_missed num_queries degree queries dimensions height points inner.0.0 h.0 h.1
      inner.1.0 inner.1.1 inner.1.2 inner.2
  no_fault (HidingRandomOpeningPointCountMismatch round matrix expected got) other may h =
      let found = of_placed _ _ 0 round round claims random (omega arith) h may.nest in
      let inner = of_pair _ _ matrix found.0.0.matrices found.0.1 found.1 found.2 in
      not_wrong inner.1 (all_zip-length _ _ _ inner.2)
  no_fault (HidingRandomOpeningValueCountMismatch round matrix point expected got) other may h =
      let found = of_placed _ _ 0 round round claims random (omega arith) h may.nest in
      let inner = of_pair _ _ matrix found.0.0.matrices found.0.1 found.1 found.2 in
      let last = of_right _ _ point _ _ inner.1 inner.2 in
      not_wrong last.1 (sym last.2)
  no_fault OutOfMemory other may h = other refl
  no_fault _ other may h = absurd h

  -- where the values fit, there is an answer exactly where they may be appended
  pub exactly_where : (result : Result Unit (FriError A B))
      → OnOk result (MayAppend num_random num_queries degree preprocessing claims random)
      → IfErr result (HidingFaults num_random num_queries degree preprocessing claims random)
      → result ≢ Err OutOfMemory
      → IsOk result ↔ MayAppend num_random num_queries degree preprocessing claims random
  exactly_where (Ok v) may stands other = ((λ ok. may), (λ m. refl))
  exactly_where (Err e) may stands other =
      ((λ ok. cc), (λ m. absurd (no_fault e (λ same. other (ap Err same)) m stands)))

-- what holds matrix by matrix, and of the numbers
pub may_append : {E Com : Type 0} (num_random num_queries degree : ℕ) (preprocessing : Option ℕ)
    (claims : List (CommitmentClaim E Com)) (random : List (List (List (List E))))
    → IfSome preprocessing (λ index. index < length claims) → degree ≤ num_random
    → FitRounds num_random num_queries degree preprocessing claims random
    → MayAppend num_random num_queries degree preprocessing claims random
may_append num_random num_queries degree preprocessing claims random among columns fit = record {
  among_claims = among;
  enough_columns = columns;
  budgets = left_of_placed _ (λ c. All (MeetsBudget num_queries degree) c.matrices) 0 claims random
      (λ k c matrices fits. left_of_all
      (FitsMatrix num_queries degree (count_at num_random preprocessing k))
      (MeetsBudget num_queries degree) c.matrices matrices (λ m points both. both.budget) fits) fit;
  nest = all_zip-weaker _ (λ (k, c) matrices.
      AllZip (NestInMatrix (count_at num_random preprocessing k)) c.matrices matrices)
      (enumerate_from 0 claims) random
      (λ (k, c) matrices fits. all_zip-weaker
      (FitsMatrix num_queries degree (count_at num_random preprocessing k))
      (NestInMatrix (count_at num_random preprocessing k)) c.matrices matrices
      (λ m points both. both.nest) fits) fit;
}

-- the same where an answer says so
pub may_append_on : {A E Com : Type 0} (result : Result Unit A) (num_random num_queries degree : ℕ)
    (preprocessing : Option ℕ) (claims : List (CommitmentClaim E Com))
    (random : List (List (List (List E))))
    → IfSome preprocessing (λ index. index < length claims) → degree ≤ num_random
    → OnOk result (FitRounds num_random num_queries degree preprocessing claims random)
    → OnOk result (MayAppend num_random num_queries degree preprocessing claims random)
may_append_on (Ok v) num_random num_queries degree preprocessing claims random among columns fit =
    may_append num_random num_queries degree preprocessing claims random among columns fit
may_append_on (Err e) num_random num_queries degree preprocessing claims random among columns fit =
    tt

-- no commitment is preprocessed
pub among_none : (preprocessing : Option ℕ) (n : ℕ)
    → ((index : ℕ) → preprocessing ≡ Some index → ⊥) → IfSome preprocessing (λ index. index < n)
among_none None n never = tt
among_none (Some index) n never = absurd (never index refl)
