-- What is said over any scheme, said of the plain one.
use Rattle.std.proofs.Common.{◌≡◌, ℕ, Bool, true, false, List, [], ◌∷◌, map, All, refl, sym, subst, ap, ap₂, ◌∙◌}
use Rattle.std.specs.List.{AllZip}
use Rattle.algebra.specs.Nested.{lists}
use Rattle.algebra.proofs.Lists.{map-agree}
use Rattle.p3_matrix.specs.declared.dense.RowMajorMatrix.{RowMajorMatrix}
use Rattle.p3_mmcs.specs.ProverData.{matrices_of, root_over}
use Rattle.p3_pcs.specs.Claims.{zip_with}
use Rattle.p3_pcs.specs.Requests.{Held}
use Rattle.p3_pcs.specs.Scheme.{Scheme}
use Rattle.p3_stark_pcs.specs.Evaluations.{HasPolynomials}
use Rattle.p3_stark_pcs.specs.Scheme.{StarkScheme}
use Rattle.p3_fri_openings.specs.Rounds.{HasCoset}
use Rattle.p3_fri_openings.specs.Held.{held_of, HoldsWords}
use Rattle.p3_fri_two_adic.specs.Held.{Extends}
use Rattle.fri_records.specs.declared.records.Matrix.{Matrix}
use Rattle.fri_records.specs.declared.records.Batch.{Batch}
use Rattle.fri_statement.specs.Setting.{SchemeFields}
use Rattle.fri_commitments.specs.declared.committed.Committed.{Committed}
use Rattle.fri_numbers.specs.Claims.{BatchNumbers}
use Rattle.fri_numbers.specs.Listed.{IsListed}
use Rattle.fri_commitments.specs.Committed.{MayOpen}
use Rattle.fri_commitments.specs.Committed.{IsCommittedTo, Keeps, RefusesMatrices}
use Rattle.fri_requests.specs.Commitments.{IsCommitmentTo}
use Rattle.fri_requests.specs.Matrices.{held_listed}
use Rattle.fri_numbers.specs.Numbers.{extension_of, extension_numbers}
use Rattle.fri_opening.specs.Openings.{values_opened, matrix_opened, IsOpenedBy}
use Rattle.fri_requests.specs.Opened.{opened_numbers, IsOpened}
use Rattle.fri_opening.specs.Openings.{request_for, requests_for}
use Rattle.fri_commitments.specs.Refusals.{RefusesBatch}
use Rattle.fri_requests.specs.PlainRequests.{InputData, KeepsBatch}
use Rattle.fri_numbers.proofs.Listed.{HaveNumbers}
use Rattle.fri_requests.proofs.Polynomials.{held_same}

module _ {F E : Type 0} (f : SchemeFields F E) where
  -- values that are opened are those of the listed polynomials
  pub opened_plain : (hs : List (Held E)) (ms : List Matrix)
      → AllZip HasPolynomials hs (map (held_listed f) ms)
      → zip_with (matrix_opened f false) hs ms ≡ map (opened_numbers f) ms
  opened_plain [] [] p = refl
  opened_plain [] (m ∷ ms) p = absurd p
  opened_plain (h ∷ hs) [] p = refl
  opened_plain (h ∷ hs) (m ∷ ms) p =
      ap₂ (λ x xs. x ∷ xs)
      (ap (λ zs. record { shift = m.domain.shift; log_size = m.domain.log_size; points = zs })
      (map-agree (values_opened f h) (values_opened f (held_listed f m))
      (λ z. ap (λ vs. record { point = z; values = map (extension_numbers f) vs })
      (p.0.values (extension_of f z))) (lists m.points.items)))
      (opened_plain hs ms p.1)

  module _ (numbered : HaveNumbers f) {Dom : Type 0} (shift_of : Dom → F) (log_size_of : Dom → ℕ) where
    -- what is held has the listed polynomials
    listed_polynomials : (hs : List (Held E)) (es : List (Dom × RowMajorMatrix F)) (ms : List Matrix)
        → AllZip (λ m e. Extends f.relation (shift_of e.0) (log_size_of e.0) e.1 m) hs es
        → AllZip (IsListed f false shift_of log_size_of) es ms
        → AllZip HasPolynomials hs (map (held_listed f) ms)
    listed_polynomials [] [] [] p q = tt
    listed_polynomials [] [] (m ∷ ms) p q = absurd q
    listed_polynomials [] (e ∷ es) ms p q = absurd p
    listed_polynomials (h ∷ hs) [] ms p q = absurd p
    listed_polynomials (h ∷ hs) (e ∷ es) [] p q = absurd q
    listed_polynomials (h ∷ hs) (e ∷ es) (m ∷ ms) p q = (
      subst (λ held. HasPolynomials h held)
          (held_same f numbered (shift_of e.0) (log_size_of e.0) e.1 m (ap (λ d. d.shift) q.0.domain)
          (ap (λ d. d.log_size) q.0.domain) q.0.width q.0.listed_rows)
          p.0.polynomials,
      listed_polynomials hs es ms p.1 q.1,
    )

  -- rules that are those of the plain scheme of this blowup
  pub record ArePlain (input_length : ℕ) {C Dom Proof Error ProverError : Type 0}
      (r : Scheme E C F Dom (List ℕ) (InputData f input_length) Proof Error ProverError)
      (t : StarkScheme E F Dom (InputData f input_length) ProverError) (shift_of : Dom → F)
      (log_size_of : Dom → ℕ) (b : ℕ) : Type 0 where
    pub extends : (m : Held E) (e : Dom × RowMajorMatrix F) → r.Extends m e
        → Extends f.relation (shift_of e.0) (log_size_of e.0) e.1 m
    pub honest : (d : InputData f input_length) → r.IsHonest d
        → All (HoldsWords f.relation b) (matrices_of d)
    pub openable : (d : InputData f input_length) → r.CanOpen d
        → All (HasCoset f.relation.two_adicity) (matrices_of d)
    pub preprocessed : (d : InputData f input_length) → t.CanOpenPreprocessed d
        → All (HasCoset f.relation.two_adicity) (matrices_of d)
    pub polynomials : (d : InputData f input_length)
        → r.committed_polynomials d ≡ held_of f.relation matrices_of b d
    pub commitments : (d : InputData f input_length) → r.commitment_of d ≡ root_over d

module _ {F E : Type 0} (f : SchemeFields F E) (numbered : HaveNumbers f) (input_length : ℕ)
    {C Dom Proof Error ProverError : Type 0}
    (r : Scheme E C F Dom (List ℕ) (InputData f input_length) Proof Error ProverError)
    (t : StarkScheme E F Dom (InputData f input_length) ProverError) (shift_of : Dom → F)
    (log_size_of : Dom → ℕ) (b : ℕ) (plain : ArePlain f input_length r t shift_of log_size_of b) where
  abbrev Data : Type 0
  Data = InputData f input_length

  weaker_extends : (hs : List (Held E)) (es : List (Dom × RowMajorMatrix F)) → AllZip r.Extends hs es
      → AllZip (λ m e. Extends f.relation (shift_of e.0) (log_size_of e.0) e.1 m) hs es
  weaker_extends [] [] p = tt
  weaker_extends [] (e ∷ es) p = absurd p
  weaker_extends (h ∷ hs) [] p = absurd p
  weaker_extends (h ∷ hs) (e ∷ es) p = (plain.extends h e p.0, weaker_extends hs es p.1)

  polynomials_of : (commitment : List ℕ) (d : Data) (batch : Batch)
      → IsCommittedTo f r t false shift_of log_size_of commitment d batch
      → AllZip HasPolynomials (r.committed_polynomials d) (map (held_listed f) batch.matrices.items)
  polynomials_of commitment d batch h =
      listed_polynomials f numbered shift_of log_size_of (r.committed_polynomials d) h.evaluations batch.matrices.items
      (weaker_extends (r.committed_polynomials d) h.evaluations h.commits.extends) h.listed

  is_commitment : (commitment : List ℕ) (d : Data) (batch : Batch)
      → IsCommittedTo f r t false shift_of log_size_of commitment d batch → IsCommitmentTo f b commitment batch
  is_commitment commitment d batch h = record {
    words = matrices_of d;
    low_degree = plain.honest d h.commits.honest;
    polynomials = subst (λ hs. AllZip HasPolynomials hs (map (held_listed f) batch.matrices.items)) (plain.polynomials d)
        (polynomials_of commitment d batch h);
    log_height = d.log_height;
    height = d.greatest;
    root = sym h.commits.commits ∙ plain.commitments d;
  }

  pub plain_commitments : (commitments : List (List ℕ)) (batches : List Batch)
      → AllZip (λ commitment batch. (datum : Data) × IsCommittedTo f r t false shift_of log_size_of commitment datum batch)
      commitments batches → AllZip (IsCommitmentTo f b) commitments batches
  plain_commitments [] [] p = tt
  plain_commitments [] (batch ∷ batches) p = absurd p
  plain_commitments (c ∷ cs) [] p = absurd p
  plain_commitments (c ∷ cs) (batch ∷ batches) p =
      (is_commitment c p.0.0 batch p.0.1, plain_commitments cs batches p.1)

  is_opened : (claimed : BatchNumbers) (batch : Batch) → IsOpenedBy f r t false shift_of log_size_of claimed batch
      → IsOpened f b claimed batch
  is_opened claimed batch h = record {
    commitment = h.commitment;
    written = h.written;
    committed = is_commitment h.commitment h.datum batch h.committed;
    matrices = h.matrices ∙ opened_plain f (r.committed_polynomials h.datum) batch.matrices.items
        (polynomials_of h.commitment h.datum batch h.committed);
  }

  pub plain_openings : (claimed : List BatchNumbers) (batches : List Batch)
      → AllZip (IsOpenedBy f r t false shift_of log_size_of) claimed batches → AllZip (IsOpened f b) claimed batches
  plain_openings [] [] p = tt
  plain_openings [] (batch ∷ batches) p = absurd p
  plain_openings (c ∷ cs) [] p = absurd p
  plain_openings (c ∷ cs) (batch ∷ batches) p = (is_opened c batch p.0, plain_openings cs batches p.1)

  opens : (p : Bool) (d : Data) → MayOpen r t p d → All (HasCoset f.relation.two_adicity) (matrices_of d)
  opens true d h = plain.preprocessed d h
  opens false d h = plain.openable d h

  -- what is kept of a batch, of the data alone
  pub keeps_of : (commitment : List ℕ) (d : Data) (batch : Batch)
      → IsCommittedTo f r t false shift_of log_size_of commitment d batch → KeepsBatch f input_length b d batch
  keeps_of commitment d batch h = record {
    openable = opens batch.preprocessed d h.commits.openable;
    low_degree = plain.honest d h.commits.honest;
    polynomials = subst (λ hs. AllZip HasPolynomials hs (map (held_listed f) batch.matrices.items)) (plain.polynomials d)
        (polynomials_of commitment d batch h);
  }

  keeps_batch : (c : Committed Data Dom) (batch : Batch) → Keeps f r t false shift_of log_size_of c batch
      → KeepsBatch f input_length b c.data batch
  keeps_batch c batch h = keeps_of c.commitment c.data batch h.committed

  pub plain_kept : (cs : List (Committed Data Dom)) (batches : List Batch)
      → AllZip (Keeps f r t false shift_of log_size_of) cs batches → AllZip (KeepsBatch f input_length b) (map (λ c. c.data) cs) batches
  plain_kept [] [] p = tt
  plain_kept [] (batch ∷ batches) p = absurd p
  plain_kept (c ∷ cs) [] p = absurd p
  plain_kept (c ∷ cs) (batch ∷ batches) p = (keeps_batch c batch p.0, plain_kept cs batches p.1)

  pub plain_roots : (cs : List (Committed Data Dom)) (batches : List Batch)
      → AllZip (Keeps f r t false shift_of log_size_of) cs batches
      → map (λ c. c.commitment) cs ≡ map root_over (map (λ c. c.data) cs)
  plain_roots [] [] p = refl
  plain_roots [] (batch ∷ batches) p = absurd p
  plain_roots (c ∷ cs) [] p = absurd p
  plain_roots (c ∷ cs) (batch ∷ batches) p =
      ap₂ (λ x xs. x ∷ xs) (sym p.0.committed.commits.commits ∙ plain.commitments c.data) (plain_roots cs batches p.1)

pub same_requests : {D Dom E : Type 0} (cs : List (Committed D Dom)) (pss : List (List (List E)))
    → requests_for cs pss ≡ zip_with request_for (map (λ c. c.data) cs) pss
same_requests [] pss = refl
same_requests (c ∷ cs) [] = refl
same_requests (c ∷ cs) (ps ∷ pss) = ap (λ rs. request_for c.data ps ∷ rs) (same_requests cs pss)

-- a scheme that refuses matrices for want of memory alone
only_memory : {F E C Dom D Proof Error ProverError : Type 0} (IsMemory : ProverError → Type 0) (e : ProverError)
    (r : Scheme E C F Dom (List ℕ) D Proof Error ProverError)
    (t : StarkScheme E F Dom D ProverError)
    → ((es : List (Dom × RowMajorMatrix F)) → r.CommitRefuses es e → IsMemory e)
    → ((es : List (Dom × RowMajorMatrix F)) → t.PreprocessingRefuses es e → IsMemory e) → (p : Bool)
    (es : List (Dom × RowMajorMatrix F)) → RefusesMatrices r t p es e → IsMemory e
only_memory IsMemory e r t plain preprocessed true es h = preprocessed es h
only_memory IsMemory e r t plain preprocessed false es h = plain es h

module _ {F E : Type 0} {f : SchemeFields F E} {P C Dom D Proof Error ProverError : Type 0}
    {rules : P → Scheme E C F Dom (List ℕ) D Proof Error ProverError}
    {stark_rules : P → StarkScheme E F Dom D ProverError} {IsMemory : ProverError → Type 0}
    {IsScheme : P → Type 0} {hides : Bool} {shift_of : Dom → F} {log_size_of : Dom → ℕ} {batches : List Batch}
    {e : ProverError} where
  pub none_refused : RefusesBatch f rules stark_rules IsMemory IsScheme hides shift_of log_size_of batches e
      → ((s : P) (es : List (Dom × RowMajorMatrix F)) → (rules s).CommitRefuses es e → IsMemory e)
      → ((s : P) (es : List (Dom × RowMajorMatrix F)) → (stark_rules s).PreprocessingRefuses es e → IsMemory e)
      → ⊥
  none_refused h plain preprocessed =
      h.not_memory (only_memory IsMemory e (rules h.scheme) (stark_rules h.scheme) (plain h.scheme)
      (preprocessed h.scheme) h.batch.preprocessed h.evaluations h.refused)
