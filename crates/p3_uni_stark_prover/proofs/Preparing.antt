-- Before anything is committed to: rooms and periodic columns.
use Rattle.std.proofs.Common.{◌≡◌, ℕ, ◌+◌, ◌^◌, ◌≤◌, Bool, List, sym, ap, ap₂, subst, ◌∙◌}
use Rattle.std.proofs.Common.{arith}
use Rattle.std.specs.List.{AllZip}
use Rattle.std.specs.declared.alloc.Global.{Global}
use Rattle.std.specs.declared.vec.Vec.{Vec}
use Rattle.std.proofs.Math.Pow.{pow_mono}
use Rattle.p3_field_core.specs.Coset.{coset_point}
use Rattle.p3_matrix.specs.declared.dense.RowMajorMatrix.{RowMajorMatrix}
use Rattle.p3_air.specs.declared.air.Air.{Air}
use Rattle.p3_periodic.specs.Values.{IsColumnValue}
use Rattle.p3_pcs.specs.Requests.{Held}
use Rattle.p3_pcs.specs.Scheme.{Scheme}
use Rattle.p3_stark_pcs.specs.Scheme.{StarkScheme}
use Rattle.p3_uni_stark_verifier.specs.Chunks.{hiding_bits, NeedsChunks}
use Rattle.p3_uni_stark_verifier.specs.Setting.{StarkFields}
use Rattle.p3_uni_stark_pcs.specs.Laws.{StarkPcsLaws}
use Rattle.p3_uni_stark_prover.proofs.Kept.{zip_weaker}

module _ {V : Type 0} (zk a b : Bool) (air : Air V) (log n : ℕ) (first : a ≡ zk) (second : b ≡ zk)
    (needs : NeedsChunks a air log) (counted : n ≡ log + hiding_bits b) where
  pub needs_then : NeedsChunks zk air log
  needs_then = subst (λ x. NeedsChunks x air log) first needs

  pub counted_then : n ≡ log + hiding_bits zk
  counted_then = counted ∙ ap (λ x. log + hiding_bits x) second

  pub within_then : (k top : ℕ)
      → ((log : ℕ) → NeedsChunks zk air log → k + (log + hiding_bits zk) ≤ top) → k + n ≤ top
  within_then k top room = subst (λ x. k + x ≤ top) (sym counted_then) (room log needs_then)

module _ {V E C Com Dom D Opening Error ProverError : Type 0} (fields : StarkFields V E)
    (shift : Dom → V) (log_size : Dom → ℕ) (zk : Bool)
    (r : Scheme E C V Dom Com D Opening Error ProverError)
    (t : StarkScheme E V Dom D ProverError) (embed : V → E) (point : Dom → ℕ → V)
    (chunk_polynomials : Dom × RowMajorMatrix V → Held E)
    (recombined : List Dom → List (List E) → E → List E)
    (IsPeriodicValue : Dom → V → Vec V Global → V → Type 0)
    (laws : StarkPcsLaws fields shift log_size zk r t embed point chunk_polynomials recombined
    IsPeriodicValue) (trace coset : Dom) (k n : ℕ) (trace_size : log_size trace ≡ k)
    (coset_size : log_size coset ≡ k + n) (coset_shift : shift coset ≡ fields.generator) where
  pub trace_points : r.domain_size trace ≡ 2 ^ k
  trace_points = laws.sizes trace ∙ ap (λ x. 2 ^ x) trace_size

  pub fewer_points : r.domain_size trace ≤ r.domain_size coset
  fewer_points = subst (λ x. x ≤ r.domain_size coset) (sym trace_points)
      (subst (λ x. 2 ^ k ≤ x) (sym (laws.sizes coset ∙ ap (λ x. 2 ^ x) coset_size))
      (pow_mono (let h : k ≤ k + n = omega arith in h)))

  points_are : (i : ℕ) → point coset i
      ≡ coset_point fields.base (fields.root (k + n)) fields.generator i
  points_are i = laws.points coset i
      ∙ ap₂ (λ m x. coset_point fields.base (fields.root m) x i) coset_size coset_shift

  -- periodic columns have their values on the coset
  pub periodic_there : (columns : List (Vec V Global)) (row : List V) (i : ℕ)
      → AllZip (IsPeriodicValue trace (point coset i)) columns row
      → AllZip (IsColumnValue fields.base fields.root k
      (coset_point fields.base (fields.root (k + n)) fields.generator i)) columns row
  periodic_there columns row i h = zip_weaker (IsPeriodicValue trace (point coset i))
      (IsColumnValue fields.base fields.root k
      (coset_point fields.base (fields.root (k + n)) fields.generator i))
      (λ column value there.
      subst (λ m. IsColumnValue fields.base fields.root m
      (coset_point fields.base (fields.root (k + n)) fields.generator i) column value) trace_size
      (subst (λ x. IsColumnValue fields.base fields.root (log_size trace) x column value)
      (points_are i) (laws.periodic trace (point coset i) column value there)))
      columns row h
