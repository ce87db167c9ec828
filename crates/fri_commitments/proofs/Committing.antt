-- What is kept of batches that were read is of their records, and so are refusals.
use Rattle.std.proofs.Common.{ℕ, List, [], ◌∷◌, map}
use Rattle.std.proofs.Common.{Bool, true, false, sym, subst, ap, ◌∙◌}
use Rattle.std.specs.List.{AllZip}
use Rattle.algebra.proofs.Lists.{all_zip-weaker}
use Rattle.p3_matrix.specs.declared.dense.RowMajorMatrix.{RowMajorMatrix}
use Rattle.p3_pcs.specs.Scheme.{Scheme, IsLawful, AreKept}
use Rattle.p3_stark_pcs.specs.Scheme.{StarkScheme, AreKeptStark}
use Rattle.fri_records.specs.declared.records.Batch.{Batch}
use Rattle.fri_commitments.specs.declared.committed.Committed.{Committed}
use Rattle.fri_commitments.specs.declared.reading.ListedBatch.{ListedBatch}
use Rattle.fri_statement.specs.Setting.{SchemeFields}
use Rattle.fri_numbers.specs.Listed.{domain_of, domain_committed, IsListed}
use Rattle.fri_commitments.specs.Committed.{Lists, MayOpen, CommitsTo}
use Rattle.fri_commitments.specs.Committed.{KeepsRead, IsCommittedTo, Keeps, RefusesMatrices}
use Rattle.fri_commitments.specs.Refusals.{RefusesRead, RefusesBatch}
use Rattle.fri_numbers.proofs.Kept.{pairs_same, pairs_through, through, paired_among}

-- what was kept of batches that were read is kept of the batches
module _ {F E : Type 0} (f : SchemeFields F E) {C Dom D Proof Error ProverError : Type 0}
    (r : Scheme E C F Dom (List ℕ) D Proof Error ProverError)
    (t : StarkScheme E F Dom D ProverError) (hides : Bool) (shift_of : Dom → F)
    (log_size_of : Dom → ℕ) where
  keeps_listed : IsLawful r → (c : Committed D Dom) (read : ListedBatch F Dom) (batch : Batch)
      → KeepsRead r t c read → Lists f hides shift_of log_size_of read batch
      → Keeps f r t hides shift_of log_size_of c batch
  keeps_listed lawful c read batch k l =
      let es = read.evaluations.items in record {
        committed = record {
          evaluations = es;
          listed = l.evaluations;
          commits = subst (λ p. CommitsTo r t c.commitment c.data p es) l.preprocessed k.commits;
        };
        domains = through (λ d. domain_of f (shift_of d) (log_size_of d)) (λ e. e.0) es c.domains.items _ k.domains
            (sym (pairs_same (IsListed f hides shift_of log_size_of) (λ e. domain_of f (shift_of e.0) (log_size_of e.0))
            (λ m. domain_committed hides m.domain) (λ e m h. h.domain) es batch.matrices.items l.evaluations));
        sizes = through r.domain_size (λ e. e.0) es c.domains.items _ k.domains
            (pairs_same r.Extends (λ m. m.size) (λ e. r.domain_size e.0) lawful.extends_size
            (r.committed_polynomials c.data) es k.commits.extends);
      }

  pub all_keep : IsLawful r → (cs : List (Committed D Dom)) (all : List (ListedBatch F Dom)) (batches : List Batch)
      → AllZip (KeepsRead r t) cs all → AllZip (Lists f hides shift_of log_size_of) all batches
      → AllZip (Keeps f r t hides shift_of log_size_of) cs batches
  all_keep lawful cs all batches kept listed =
      pairs_through (KeepsRead r t) (Lists f hides shift_of log_size_of) (Keeps f r t hides shift_of log_size_of)
      (keeps_listed lawful) cs all batches kept listed

-- and by a later scheme
module _ {F E C Dom D Proof Error ProverError : Type 0}
    (r s : Scheme E C F Dom (List ℕ) D Proof Error ProverError)
    (t u : StarkScheme E F Dom D ProverError) (kept : AreKept r s) (kept_stark : AreKeptStark t u)
  where
    openable_on : (p : Bool) (d : D) → MayOpen r t p d → MayOpen s u p d
    openable_on true d h = kept_stark.preprocessed d h
    openable_on false d h = kept.openable d h

    commits_on : (commitment : List ℕ) (d : D) (p : Bool) (es : List (Dom × RowMajorMatrix F))
        → CommitsTo r t commitment d p es → CommitsTo s u commitment d p es
    commits_on commitment d p es h = record {
      commits = ap (λ f. f d) kept.commitments ∙ h.commits;
      honest = kept.honest d h.honest;
      openable = openable_on p d h.openable;
      extends = subst (λ hs. AllZip s.Extends hs es) (sym (kept.polynomials d))
          (all_zip-weaker r.Extends s.Extends (r.committed_polynomials d) es kept.extends h.extends);
    }

    pub keeps_on : (cs : List (Committed D Dom)) (all : List (ListedBatch F Dom))
        → AllZip (KeepsRead r t) cs all → AllZip (KeepsRead s u) cs all
    keeps_on cs all pairs = all_zip-weaker (KeepsRead r t) (KeepsRead s u) cs all
        (λ c read h. record {
          commits = commits_on c.commitment c.data read.preprocessed read.evaluations.items h.commits;
          domains = h.domains;
        }) pairs

module _ {F E : Type 0} (f : SchemeFields F E) {C Dom D Proof Error ProverError : Type 0}
    (r : Scheme E C F Dom (List ℕ) D Proof Error ProverError)
    (t : StarkScheme E F Dom D ProverError) (hides : Bool) (shift_of : Dom → F)
    (log_size_of : Dom → ℕ) where
  abbrev Kept : Committed D Dom → Batch → Type 0
  Kept c batch = Keeps f r t hides shift_of log_size_of c batch

  -- the commitments alone
  pub are_commitments : (cs : List (Committed D Dom)) (batches : List Batch) → AllZip Kept cs batches
      → AllZip (λ commitment batch. (datum : D) × IsCommittedTo f r t hides shift_of log_size_of commitment datum batch)
      (map (λ c. c.commitment) cs) batches
  are_commitments [] [] pairs = tt
  are_commitments [] (batch ∷ batches) pairs = absurd pairs
  are_commitments (c ∷ cs) [] pairs = absurd pairs
  are_commitments (c ∷ cs) (batch ∷ batches) pairs =
      ((c.data, pairs.0.committed), are_commitments cs batches pairs.1)

-- a refusal of batches that were read is one of the batches
module _ {F E P C Dom D Proof Error ProverError : Type 0}
    (rules : P → Scheme E C F Dom (List ℕ) D Proof Error ProverError)
    (stark_rules : P → StarkScheme E F Dom D ProverError) (IsMemory : ProverError → Type 0)
    (e : ProverError) where
  pub refuses_of : (IsScheme Other : P → Type 0) → ((s : P) → IsScheme s → Other s)
      → (all : List (ListedBatch F Dom)) → RefusesRead rules stark_rules IsMemory IsScheme all e
      → RefusesRead rules stark_rules IsMemory Other all e
  refuses_of IsScheme Other weaker all h = record {
    scheme = h.scheme;
    is_of = weaker h.scheme h.is_of;
    before = h.before;
    read = h.read;
    after = h.after;
    among = h.among;
    refused = h.refused;
    not_memory = h.not_memory;
  }

  -- whatever it was refused for, if that isn't want of memory
  pub refuses_but_memory : (IsScheme : P → Type 0) (all : List (ListedBatch F Dom)) → ¬ IsMemory e
      → RefusesRead rules stark_rules (λ _. ⊥) IsScheme all e
      → RefusesRead rules stark_rules IsMemory IsScheme all e
  refuses_but_memory IsScheme all not_memory h = record {
    scheme = h.scheme;
    is_of = h.is_of;
    before = h.before;
    read = h.read;
    after = h.after;
    among = h.among;
    refused = h.refused;
    not_memory = not_memory;
  }

  module _ (f : SchemeFields F E) (hides : Bool) (shift_of : Dom → F) (log_size_of : Dom → ℕ)
      (batches : List Batch) where
    pub refuses_batch : (IsScheme : P → Type 0) (all : List (ListedBatch F Dom))
        → AllZip (Lists f hides shift_of log_size_of) all batches
        → RefusesRead rules stark_rules IsMemory IsScheme all e
        → RefusesBatch f rules stark_rules IsMemory IsScheme hides shift_of log_size_of batches e
    refuses_batch IsScheme all listed h =
        let p = paired_among (Lists f hides shift_of log_size_of) h.before h.after h.read batches
        (subst (λ xs. AllZip (Lists f hides shift_of log_size_of) xs batches) h.among listed) in record {
          scheme = h.scheme;
          is_of = h.is_of;
          before = p.before;
          batch = p.entry;
          after = p.after;
          among = p.among;
          evaluations = h.read.evaluations.items;
          listed = p.pair.evaluations;
          refused = subst (λ b. RefusesMatrices (rules h.scheme) (stark_rules h.scheme) b h.read.evaluations.items e)
              p.pair.preprocessed h.refused;
          not_memory = h.not_memory;
        }

    pub refuses_batch_of : (IsScheme Other : P → Type 0) → ((s : P) → IsScheme s → Other s)
        → RefusesBatch f rules stark_rules IsMemory IsScheme hides shift_of log_size_of batches e
        → RefusesBatch f rules stark_rules IsMemory Other hides shift_of log_size_of batches e
    refuses_batch_of IsScheme Other weaker h = record {
      scheme = h.scheme;
      is_of = weaker h.scheme h.is_of;
      before = h.before;
      batch = h.batch;
      after = h.after;
      among = h.among;
      evaluations = h.evaluations;
      listed = h.listed;
      refused = h.refused;
      not_memory = h.not_memory;
    }
