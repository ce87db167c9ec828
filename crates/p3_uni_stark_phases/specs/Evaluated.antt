-- What is read of committed data on a coset.
use Rattle.std.specs.Prelude.{⊤, ℕ, Option, None, Some}
use Rattle.p3_matrix.specs.declared.dense.RowMajorMatrix.{RowMajorMatrix}
use Rattle.p3_pcs.specs.Scheme.{Scheme}
use Rattle.p3_stark_pcs.specs.Evaluations.{HoldsEvaluations, held_at}
use Rattle.p3_stark_pcs.specs.Scheme.{StarkScheme}

module _ {E V Dom D ProverError : Type 0} (t : StarkScheme E V Dom D ProverError) (coset : Dom)
  where
    -- the first matrix of a datum may be read on the coset, and holds words of low degree
    pub record CanBeRead (d : D) : Type 0 where
      pub readable : t.CanEvaluate d 0 coset
      pub honest : t.IsHonestAt d 0

    -- that of a datum that there may be
    abbrev pub CanBeReadIfAny : Option D → Type 0
    CanBeReadIfAny None = ⊤
    CanBeReadIfAny (Some d) = CanBeRead d

module _ {E C V Dom Com D Opening Error ProverError : Type 0}
    (r : Scheme E C V Dom Com D Opening Error ProverError) (embed : V → E)
    (point : Dom → ℕ → V) (coset : Dom) where
  -- row by row the values on the coset of the first matrix of a datum
  abbrev pub AreRead : D → RowMajorMatrix V → Type 0
  AreRead d values = HoldsEvaluations embed (λ i. embed (point coset i)) (r.domain_size coset)
      (held_at (r.committed_polynomials d) 0).values_at values

  -- of a datum that there may be
  abbrev pub AreReadIfAny : Option D → Option (RowMajorMatrix V) → Type 0
  AreReadIfAny None None = ⊤
  AreReadIfAny None (Some values) = ⊥
  AreReadIfAny (Some d) None = ⊥
  AreReadIfAny (Some d) (Some values) = AreRead d values
