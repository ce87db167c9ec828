-- The values that are opened agree, where the trace satisfies its constraints.
use Rattle.std.proofs.Common.{◌≡◌, ◌≢◌, ℕ, ◌+◌, ◌%◌, ◌^◌, ◌<◌, ◌≤◌, Bool, List}
use Rattle.std.proofs.Common.{length, map, get_or, All, refl, sym, ◌∙◌, arith}
use Rattle.std.proofs.Common.{Option}
use Rattle.std.specs.List.{AllZip}
use Rattle.std.proofs.Math.Pow.{pow_mono}
use Rattle.algebra.specs.Field.{IsField, IsHomomorphism, pow}
use Rattle.algebra.specs.Polynomial.{val}
use Rattle.algebra.specs.Quotients.{values_at}
use Rattle.algebra.specs.TwoAdic.{AreRoots}
use Rattle.p3_field_core.specs.Coset.{coset_point}
use Rattle.stark_algebra.specs.Laws.{HasBasis}
use Rattle.stark_algebra.specs.Selectors.{zerofier}
use Rattle.p3_matrix.specs.declared.dense.RowMajorMatrix.{RowMajorMatrix}
use Rattle.p3_matrix.specs.Matrix.{rows}
use Rattle.p3_air.specs.Satisfied.{IsSatisfied, row_at}
use Rattle.p3_air_laws.specs.Columns.{Columns, entries_over}
use Rattle.p3_periodic.specs.Columns.{HasPeriod}
use Rattle.p3_periodic.specs.Values.{IsColumnValue}
use Rattle.p3_periodic.specs.Views.{rows_if_any}
use Rattle.p3_uni_stark_identity.specs.Chunks.{chunk_shifts, quotient_at}
use Rattle.p3_uni_stark_identity.specs.Identity.{IsQuotientOf}
use Rattle.p3_uni_stark_quotient.specs.Quotient.{quotient_on_coset}
use Rattle.p3_uni_stark_quotient.proofs.Entries.{entries_same_in}
use Rattle.p3_uni_stark_quotient.proofs.Honest.{cosets_off}
use Rattle.p3_uni_stark_completeness.specs.Chunks.{AreChunkColumns}
use Rattle.p3_uni_stark_completeness.proofs.Chunked.{chunks_give}
use Rattle.p3_uni_stark_verifier.specs.declared.proof.Statement.{Statement}
use Rattle.p3_uni_stark_verifier.specs.Chunks.{hiding_bits, NeedsChunks}
use Rattle.p3_uni_stark_verifier.specs.Setting.{StarkFields}
use Rattle.p3_uni_stark_prover.specs.Held.{assigned_to}
use Rattle.p3_uni_stark_prover.specs.Quotients.{given_on}
use Rattle.p3_uni_stark_prover.proofs.Complete.{columns_with, are_columns, are_evaluations}
use Rattle.p3_uni_stark_prover.proofs.Degrees.{needs_fit}

-- polynomials of columns, of which these are the rows, the values at points, and the rows on a coset
pub record AreKnown {V E : Type 0} (fields : StarkFields V E) (k l size : ℕ) (point : ℕ → V)
    (given on : List (List V)) (values : E → List E) : Type 0 where
  pub columns : List (List V)
  pub degrees : All (λ c. length c ≡ l) columns
  pub rows_are : (i : ℕ) → i < 2 ^ k → row_at given i
      ≡ map (λ c. val fields.base c (pow fields.base (fields.root k) i)) columns
  pub values_are : (z : E) → values z
      ≡ values_at fields.base fields.ext fields.lift columns z
  pub read : (i : ℕ) → i < size → map fields.lift (row_at on i)
      ≡ values_at fields.base fields.ext fields.lift columns (fields.lift (point i))

module _ {V E Com : Type 0} (fields : StarkFields V E) (L : IsField fields.base)
    (M : IsField fields.ext) (H : IsHomomorphism fields.base fields.ext fields.lift)
    (W : AreRoots fields.base fields.two_adicity fields.root) (few : fields.two_adicity < 64)
    (nonzero : fields.generator ≢ fields.base.zero)
    (other : pow fields.base fields.generator (2 ^ fields.two_adicity) ≢ fields.base.one)
    (coefficients : E → List V)
    (has : HasBasis fields.ext fields.lift fields.dimension fields.basis
    (λ x e. get_or (coefficients x) e fields.base.zero))
    (zk : Bool) (s : Statement V Com) (k log : ℕ) (needs : NeedsChunks zk s.air.now log)
    (room : k + (log + hiding_bits zk) ≤ fields.two_adicity)
    (periods : All (HasPeriod (2 ^ k)) s.periodic.now) where
  abbrev d : ℕ
  d = log + hiding_bits zk

  abbrev l : ℕ
  l = 2 ^ (k + hiding_bits zk)

  abbrev point : ℕ → V
  point i = coset_point fields.base (fields.root (k + d)) fields.generator i

  module _ (trace preprocessed : List (List V)) (trace_rows : RowMajorMatrix V)
      (preprocessed_rows : Option (RowMajorMatrix V)) (periodic_rows : List (List V))
      (trace_values preprocessed_values : E → List E)
      (t : AreKnown fields k l (2 ^ (k + d)) point trace (rows trace_rows) trace_values)
      (p : AreKnown fields k l (2 ^ (k + d)) point preprocessed (rows_if_any preprocessed_rows)
      preprocessed_values)
      (height : length (rows trace_rows) ≡ 2 ^ (k + d))
      (periodic_there : (i : ℕ) → AllZip (IsColumnValue fields.base fields.root k (point i))
      s.periodic.now (row_at periodic_rows (i % length periodic_rows)))
      (satisfied : IsSatisfied fields.base s.air.now (assigned_to s trace preprocessed))
      (trace_height : length trace ≡ 2 ^ k) (alpha : E) where
    pub within : k ≤ fields.two_adicity
    within = omega (arith, room)

    pub whole : 2 ^ k ≤ l
    whole = pow_mono (let h : k ≤ k + hiding_bits zk = omega arith in h)

    abbrev pub columns : Columns V E
    columns = columns_with fields L M H W few k l within whole s.periodic.now periods t.columns
        p.columns

    abbrev values : List E
    values = quotient_on_coset fields.base fields.ext fields.lift s.air.now (fields.root k) (2 ^ k)
        alpha (given_on s trace_rows preprocessed_rows periodic_rows) (fields.root (k + d))
        fields.generator (2 ^ d) (k + d)

    pub identity_with : (chunks : List (List (List V)))
        → AreChunkColumns fields.base fields.ext.zero fields.root fields.generator k d
        fields.dimension coefficients values chunks
        → (z : E) → zerofier fields.ext (2 ^ k) z ≢ fields.ext.zero
        → IsQuotientOf fields.ext fields.lift fields.base.zero s.air.now
        (fields.lift (fields.root k)) (2 ^ k)
        (entries_over fields.base fields.ext fields.lift columns s.public_values.now z
        (fields.ext.mul (fields.lift (fields.root k)) z)) alpha z
        (quotient_at fields.ext fields.dimension fields.basis k (map fields.lift
        (chunk_shifts fields.base fields.root fields.generator k d))
        (map (λ chunk. values_at fields.base fields.ext fields.lift chunk z) chunks) z)
    identity_with chunks these z off =
        chunks_give fields.base L fields.ext M fields.lift H fields.two_adicity fields.root W k d
        room fields.generator fields.dimension coefficients nonzero
        (cosets_off fields.base L fields.two_adicity fields.root W fields.generator other k (k + d)
        within room)
        fields.basis has s.air.now (assigned_to s trace preprocessed) l columns
        (are_columns fields L M H W few k l within whole s.periodic.now periods
        (assigned_to s trace preprocessed) t.columns p.columns t.degrees p.degrees trace_height refl
        t.rows_are p.rows_are)
        (needs_fit zk s.air.now k log needs) satisfied alpha
        (given_on s trace_rows preprocessed_rows periodic_rows)
        (are_evaluations fields L M H W few k l within whole s.periodic.now periods point
        (2 ^ (k + d)) (given_on s trace_rows preprocessed_rows periodic_rows) t.columns p.columns
        height t.read p.read periodic_there)
        refl values refl chunks these z off

    -- what constraints see of opened values
    pub entries_with : (z : E) (local next first second : List E) → local ≡ trace_values z
        → next ≡ trace_values (fields.ext.mul (fields.lift (fields.root k)) z)
        → first ≡ preprocessed_values z
        → second ≡ preprocessed_values (fields.ext.mul (fields.lift (fields.root k)) z)
        → entries_over fields.base fields.ext fields.lift columns s.public_values.now z
        (fields.ext.mul (fields.lift (fields.root k)) z)
        ≡ record {
          local = local;
          next = next;
          preprocessed = first;
          preprocessed_next = second;
          public_values = s.public_values.now;
          periodic = map (λ f. f z) columns.periodic;
        }
    entries_with z local next first second a b c e =
        let y = fields.ext.mul (fields.lift (fields.root k)) z in
        entries_same_in s.public_values.now
        (values_at fields.base fields.ext fields.lift t.columns z) local
        (values_at fields.base fields.ext fields.lift t.columns y) next
        (values_at fields.base fields.ext fields.lift p.columns z) first
        (values_at fields.base fields.ext fields.lift p.columns y) second
        (map (λ f. f z) columns.periodic) (map (λ f. f z) columns.periodic)
        (sym (a ∙ t.values_are z)) (sym (b ∙ t.values_are y)) (sym (c ∙ p.values_are z))
        (sym (e ∙ p.values_are y)) refl
