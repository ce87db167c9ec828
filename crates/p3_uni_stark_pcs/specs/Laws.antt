-- What holds of a scheme over cosets, whatever its state: what it commits to, extends and reads are
-- polynomials in the trace's field.
use Rattle.std.specs.Prelude.{◌≡◌, ◌<◌, ℕ, ◌^◌, Bool, true, List, [], map, length, All}
use Rattle.std.specs.Prelude.{slice_index_or}
use Rattle.std.specs.List.{AllZip}
use Rattle.std.specs.declared.alloc.Global.{Global}
use Rattle.std.specs.declared.vec.Vec.{Vec}
use Rattle.algebra.specs.Polynomial.{val}
use Rattle.algebra.specs.Quotients.{values_at}
use Rattle.algebra.specs.RecombinedQuotients.{recombined_columns}
use Rattle.p3_field_core.specs.Coset.{coset_point}
use Rattle.p3_matrix.specs.declared.dense.RowMajorMatrix.{RowMajorMatrix}
use Rattle.p3_matrix.specs.Matrix.{rows, matrix_width}
use Rattle.p3_periodic.specs.Values.{IsColumnValue}
use Rattle.p3_pcs.specs.Requests.{Held}
use Rattle.p3_pcs.specs.Scheme.{Scheme}
use Rattle.p3_stark_pcs.specs.Scheme.{StarkScheme}
use Rattle.p3_uni_stark_verifier.specs.Setting.{StarkFields}

module _ {V E : Type 0} (fields : StarkFields V E) where
  -- what is held are the values of polynomials of as many coefficients as its domain has points
  pub record HoldsPolynomials (m : Held E) : Type 0 where
    pub columns : List (List V)
    pub degrees : All (λ c. length c ≡ m.size) columns
    pub values : (z : E) → m.values_at z ≡ values_at fields.base fields.ext fields.lift columns z

  -- what is held are those of the polynomials of `2^k` coefficients that have the rows of `matrix`
  -- on the coset of `shift`
  pub record HoldsRowsOn (shift : V) (k : ℕ) (matrix : RowMajorMatrix V) (m : Held E) : Type 0 where
    pub columns : List (List V)
    pub count : length columns ≡ matrix_width matrix
    pub degrees : All (λ c. length c ≡ 2 ^ k) columns
    pub rows_there : (i : ℕ) → i < 2 ^ k → map (λ c. val fields.base c
        (coset_point fields.base (fields.root k) shift i)) columns
        ≡ slice_index_or (rows matrix) i []
    pub values : (z : E) → m.values_at z ≡ values_at fields.base fields.ext fields.lift columns z

-- of a scheme over domains of these shifts and log sizes: sizes and points are those of cosets,
-- what honest data holds, and a quotient's chunk, are polynomials in the trace's field, chunks
-- recombine as their values do, what a chunk is extended to keeps its width, and a scheme that
-- hides commits to as many random polynomials as an element has coefficients
pub record StarkPcsLaws {V E C Com Dom D Opening Error ProverError : Type 0}
    (fields : StarkFields V E) (shift : Dom → V) (log_size : Dom → ℕ) (zk : Bool)
    (r : Scheme E C V Dom Com D Opening Error ProverError)
    (t : StarkScheme E V Dom D ProverError) (embed : V → E) (point : Dom → ℕ → V)
    (chunk_polynomials : Dom × RowMajorMatrix V → Held E)
    (recombined : List Dom → List (List E) → E → List E)
    (IsPeriodicValue : Dom → V → Vec V Global → V → Type 0) : Type 0 where
  pub sizes : (d : Dom) → r.domain_size d ≡ 2 ^ log_size d
  pub embeds : (x : V) → embed x ≡ fields.lift x
  pub points : (d : Dom) (i : ℕ)
      → point d i ≡ coset_point fields.base (fields.root (log_size d)) (shift d) i
  pub polynomials : (d : D) → r.IsHonest d
      → All (HoldsPolynomials fields) (r.committed_polynomials d)
  pub chunks : (e : Dom × RowMajorMatrix V) → length (rows e.1) ≡ 2 ^ log_size e.0
      → HoldsRowsOn fields (shift e.0) (log_size e.0) e.1 (chunk_polynomials e)
  pub recombine : (domains : List Dom) (values : List (List E)) (z : E)
      → recombined domains values z ≡ recombined_columns fields.ext
      (slice_index_or (map log_size domains) 0 0) (map fields.lift (map shift domains)) values z
  pub widths : (chunks : List (Dom × RowMajorMatrix V)) (num_chunks : ℕ)
      (ldes : List (RowMajorMatrix V)) → t.CanExtend chunks num_chunks
      → t.ExtendQuotients chunks ldes → AllZip (λ lde e. (z : E)
      → length ((t.polynomials_of lde).values_at z) ≡ matrix_width e.1) ldes chunks
  pub periodic : (d : Dom) (x : V) (column : Vec V Global) (value : V)
      → IsPeriodicValue d x column value
      → IsColumnValue fields.base fields.root (log_size d) x column value
  pub random : zk ≡ true → t.random_columns ≡ fields.dimension
