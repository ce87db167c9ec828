-- What a prover's data are commitments to.
use Rattle.std.specs.Prelude.{◌≡◌, ◌*◌, Bool, true, false, List, [], ◌∷◌, map, Option, None, Some}
use Rattle.std.specs.Prelude.{if◌then◌else◌}
use Rattle.std.specs.List.{AllZip}
use Rattle.p3_matrix.specs.declared.dense.RowMajorMatrix.{RowMajorMatrix}
use Rattle.p3_pcs.specs.Requests.{Held}
use Rattle.p3_pcs.specs.Scheme.{Scheme}
use Rattle.p3_stark_pcs.specs.Evaluations.{HasShape}
use Rattle.p3_stark_pcs.specs.Scheme.{StarkScheme}
use Rattle.p3_uni_stark_phases.specs.declared.commits.Committed.{Committed}

module _ {E C V Dom Com D Opening Error ProverError : Type 0}
    (r : Scheme E C V Dom Com D Opening Error ProverError) where
  -- the datum is honest of this commitment
  pub record IsCommittedTo (known : Com) (d : D) : Type 0 where
    pub honest : r.IsHonest d
    pub commitment : r.commitment_of d ≡ known

  -- it is a commitment to the columns of this matrix on the domain
  abbrev pub ExtendsOne : (domain : Dom) (matrix : RowMajorMatrix V) (d : D) → Type 0
  ExtendsOne domain matrix d =
      AllZip r.Extends (r.committed_polynomials d) ((domain, matrix) ∷ [])

  -- a trace that is committed to
  pub record HoldsTrace (domain : Dom) (trace : RowMajorMatrix V) (commitment : Com) (d : D)
      : Type 0 where
    pub committed : IsCommittedTo commitment d
    pub openable : r.CanOpen d
    pub extends : ExtendsOne domain trace d

  module _ (t : StarkScheme E V Dom D ProverError) where
    -- chunks of a quotient that are committed to, by words that the scheme extends them to: what
    -- is committed to recombines as the chunks do
    pub record HoldsChunks (zk : Bool) (recombined : List Dom → List (List E) → E → List E)
        (chunk_polynomials : Dom × RowMajorMatrix V → Held E)
        (chunks : List (Dom × RowMajorMatrix V)) (commitment : Com) (d : D) : Type 0 where
      pub committed : IsCommittedTo commitment d
      pub openable : r.CanOpen d
      pub words : List (RowMajorMatrix V)
      pub extended : t.ExtendQuotients chunks words
      pub polynomials : r.committed_polynomials d ≡ map t.polynomials_of words
      pub sizes : AllZip (λ w e. (t.polynomials_of w).size
          ≡ (if zk then 2 else 1) * r.domain_size e.0) words chunks
      pub recombine : (z : E) → recombined (map (λ e. e.0) chunks)
          (map (λ w. (t.polynomials_of w).values_at z) words) z
          ≡ recombined (map (λ e. e.0) chunks)
          (map (λ e. (chunk_polynomials e).values_at z) chunks) z

    -- random polynomials that are committed to
    pub record HoldsRandom (domain : Dom) (commitment : Com) (d : D) : Type 0 where
      pub committed : IsCommittedTo commitment d
      pub openable : r.CanOpen d
      pub shape : AllZip (λ m e. HasShape (r.domain_size e) t.random_columns m)
          (r.committed_polynomials d) (domain ∷ [])

    -- there are such exactly where the scheme hides
    abbrev pub IsRandom : (zk : Bool) (domain : Dom) → Option (Committed Com D) → Type 0
    IsRandom zk domain None = zk ≡ false
    IsRandom zk domain (Some b) =
        (zk ≡ true) × HoldsRandom domain b.commitment b.prover_data
