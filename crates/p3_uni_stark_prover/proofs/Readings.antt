-- Committed columns may be read on the coset, and have their layout's widths.
use Rattle.std.proofs.Common.{if◌then◌else◌}
use Rattle.std.proofs.Common.{◌≡◌, ◌≢◌, ℕ, ◌+◌, ◌^◌, ◌<◌, ◌≤◌, ◌==◌, Bool, true, false, not, zero, suc}
use Rattle.std.proofs.Common.{List, [], length, All, refl, sym, ap, ap₂, subst, ◌∙◌, arith}
use Rattle.std.proofs.Common.{Option, None, Some, inl, inr}
use Rattle.std.proofs.lemmas.Bool.{cases_Bool, eqb-true}
use Rattle.std.specs.Option.{is_some}
use Rattle.std.specs.declared.alloc.Global.{Global}
use Rattle.std.specs.declared.vec.Vec.{Vec}
use Rattle.algebra.specs.Field.{IsField, IsHomomorphism}
use Rattle.algebra.specs.TwoAdic.{AreRoots}
use Rattle.p3_field_core.specs.Coset.{coset_point}
use Rattle.p3_matrix.specs.declared.dense.RowMajorMatrix.{RowMajorMatrix}
use Rattle.p3_matrix.specs.Matrix.{rows, matrix_width}
use Rattle.p3_pcs.specs.Requests.{Held, HasColumns}
use Rattle.p3_pcs.specs.Scheme.{Scheme, IsLawful}
use Rattle.p3_stark_pcs.specs.Evaluations.{held_at, HaveRows}
use Rattle.p3_stark_pcs.specs.Scheme.{StarkScheme, IsLawfulStark}
use Rattle.p3_uni_stark_verifier.specs.declared.proof.PreprocessedVerifierKey.{
  PreprocessedVerifierKey,
}
use Rattle.p3_uni_stark_verifier.specs.declared.proof.Statement.{Statement}
use Rattle.p3_uni_stark_verifier.specs.Chunks.{hiding_bits}
use Rattle.p3_uni_stark_verifier.specs.Setting.{StarkFields}
use Rattle.p3_uni_stark_phases.specs.Commits.{ExtendsOne, HoldsTrace}
use Rattle.p3_uni_stark_phases.specs.Evaluated.{CanBeRead, CanBeReadIfAny}
use Rattle.p3_uni_stark_opening.specs.Opened.{HoldsIfSome, values_of, values_if}
use Rattle.p3_uni_stark_pcs.specs.Laws.{StarkPcsLaws}
use Rattle.p3_uni_stark_prover.specs.Held.{HoldPreprocessed}
use Rattle.p3_uni_stark_prover.specs.Provable.{IsProvable}
use Rattle.p3_uni_stark_prover.specs.Quotients.{FitReadings}
use Rattle.p3_uni_stark_prover.proofs.Columns.{HasColumnsOf, only_one, columns_of, values_many}

-- a layout with a key of preprocessed columns has some, and one without has none
pub some_width : (w : ℕ) → true ≡ not (w == 0) → w ≢ 0
some_width zero e = cc
some_width (suc w) e = λ f. cc

pub no_width : (w : ℕ) → false ≡ not (w == 0) → w ≡ 0
no_width w e = elim (cases_Bool (w == 0)) [
  | inl f ↦ eqb-true w 0 f
  | inr f ↦ absurd (let h : false ≡ true = e ∙ ap not f in cc)
]

module _ {V E C Com Dom D Opening Error ProverError : Type 0} (fields : StarkFields V E)
    (L : IsField fields.base) (M : IsField fields.ext)
    (H : IsHomomorphism fields.base fields.ext fields.lift)
    (W : AreRoots fields.base fields.two_adicity fields.root) (shift : Dom → V)
    (log_size : Dom → ℕ) (zk : Bool) (r : Scheme E C V Dom Com D Opening Error ProverError)
    (t : StarkScheme E V Dom D ProverError) (embed : V → E) (point : Dom → ℕ → V)
    (chunk_polynomials : Dom × RowMajorMatrix V → Held E)
    (recombined : List Dom → List (List E) → E → List E)
    (IsPeriodicValue : Dom → V → Vec V Global → V → Type 0)
    (laws : StarkPcsLaws fields shift log_size zk r t embed point chunk_polynomials recombined
    IsPeriodicValue) (lawful : IsLawful r)
    (rows_law : (m : Held E) (e : Dom × RowMajorMatrix V) → r.Extends m e
    → HaveRows embed (point e.0) (if zk then 2 else 1) e.1 m)
    (k : ℕ) (b : k + hiding_bits zk ≤ fields.two_adicity) where
  -- the subgroup on which columns are committed to
  abbrev pub IsColumnDomain : Dom → Type 0
  IsColumnDomain x = (shift x ≡ fields.base.one) × (log_size x ≡ k + hiding_bits zk)

  points_are : (domain : Dom) → IsColumnDomain domain → (i : ℕ) → point domain i
      ≡ coset_point fields.base (fields.root (k + hiding_bits zk)) fields.base.one i
  points_are domain is i = laws.points domain i
      ∙ ap₂ (λ n x. coset_point fields.base (fields.root n) x i) is.1 is.0

  pub size_is : (domain : Dom) → IsColumnDomain domain
      → r.domain_size domain ≡ 2 ^ (k + hiding_bits zk)
  size_is domain is = laws.sizes domain ∙ ap (λ n. 2 ^ n) is.1

  -- the polynomials of a matrix that is committed to alone
  pub columns_in : (domain : Dom) → IsColumnDomain domain → (matrix : RowMajorMatrix V)
      → length (rows matrix) ≡ 2 ^ k → (d : D) → r.IsHonest d → ExtendsOne r domain matrix d
      → HasColumnsOf fields L M H W (values_of r) k (2 ^ (k + hiding_bits zk)) matrix d
  columns_in domain is matrix height d honest extends = columns_of fields L M H W r zk embed point
      laws.embeds lawful rows_law k b domain (points_are domain is) (size_is domain is) matrix
      height d (laws.polynomials d honest) extends

  -- its values are as many as it has columns
  pub values_in : (domain : Dom) → IsColumnDomain domain → (matrix : RowMajorMatrix V)
      → length (rows matrix) ≡ 2 ^ k → (d : D) → r.IsHonest d → ExtendsOne r domain matrix d
      → (z : E) → length (values_of r z d) ≡ matrix_width matrix
  values_in domain is matrix height d honest extends = values_many fields L M H W r zk embed point
      laws.embeds lawful rows_law k b domain (points_are domain is) (size_is domain is) matrix
      height d (columns_in domain is matrix height d honest extends)

  -- those of preprocessed columns that there may be
  pub preprocessed_values : (w : ℕ) (key : Option (PreprocessedVerifierKey Com)) (d : Option D)
      → is_some key ≡ not (w == 0) → HoldPreprocessed r t IsColumnDomain k w key d
      → (z : E) → length (values_if r z d) ≡ w
  preprocessed_values w None None e h z = sym (no_width w e)
  preprocessed_values w None (Some d) e h z = absurd h
  preprocessed_values w (Some key) None e h z = absurd h
  preprocessed_values w (Some key) (Some d) e h z =
      values_in h.domain h.is_domain h.columns h.height d h.committed.honest h.extends z ∙ h.width

  module _ (stark : IsLawfulStark r t) (coset : Dom) where
    one_readable : (domain : Dom) (matrix : RowMajorMatrix V) (d : D) → r.IsHonest d
        → t.IsReadable d → ExtendsOne r domain matrix d → CanBeRead t coset d
    one_readable domain matrix d honest readable extends =
        let o = only_one r.Extends (domain, matrix) (r.committed_polynomials d) extends in
        let some : 0 < length (r.committed_polynomials d) =
        subst (λ (hs : List (Held E)). 0 < length hs) (sym o.only) (omega arith) in
        record {
          readable = stark.evaluable d 0 coset readable
              (subst (λ (hs : List (Held E)). HasColumns (held_at hs 0)) (sym o.only)
              (lawful.extends_columns o.entry (domain, matrix) o.related));
          honest = stark.honest_at d 0 honest some;
        }

    preprocessed_readable : (w : ℕ) (key : Option (PreprocessedVerifierKey Com)) (d : Option D)
        → HoldPreprocessed r t IsColumnDomain k w key d → CanBeReadIfAny t coset d
    preprocessed_readable w None None h = tt
    preprocessed_readable w None (Some d) h = absurd h
    preprocessed_readable w (Some key) None h = absurd h
    preprocessed_readable w (Some key) (Some d) h = one_readable h.domain h.columns d
        h.committed.honest (stark.preprocessed_readable d h.openable) h.extends

    preprocessed_widths : (w : ℕ) (key : Option (PreprocessedVerifierKey Com)) (d : Option D)
        → HoldPreprocessed r t IsColumnDomain k w key d
        → HoldsIfSome (λ d. (z : E) → length (values_of r z d) ≡ w) d
    preprocessed_widths w None None h = tt
    preprocessed_widths w None (Some d) h = absurd h
    preprocessed_widths w (Some key) None h = absurd h
    preprocessed_widths w (Some key) (Some d) h = λ z. values_in h.domain h.is_domain h.columns
        h.height d h.committed.honest h.extends z ∙ h.width

    preprocessed_there : (w : ℕ) (key : Option (PreprocessedVerifierKey Com)) (d : Option D)
        → is_some key ≡ not (w == 0) → HoldPreprocessed r t IsColumnDomain k w key d → w ≢ 0
        → is_some d ≡ true
    preprocessed_there w None None e h n = absurd (n (no_width w e))
    preprocessed_there w None (Some d) e h n = absurd h
    preprocessed_there w (Some key) None e h n = absurd h
    preprocessed_there w (Some key) (Some d) e h n = refl

    -- all that a quotient's values are computed from may be read on the coset
    pub fit_readings : (n : ℕ) → log_size coset ≡ n → (s : Statement V Com) → IsProvable s
        → (domain : Dom) → IsColumnDomain domain
        → (trace : RowMajorMatrix V) → length (rows trace) ≡ 2 ^ k
        → matrix_width trace ≡ s.air.now.layout.width
        → (commitment : Com) (d : D) → HoldsTrace r domain trace commitment d
        → (pre : Option D) → HoldPreprocessed r t IsColumnDomain k
        s.air.now.layout.preprocessed_width s.preprocessed pre
        → (periodic : List (List V)) → (s.periodic.now ≢ [] → 0 < length periodic)
        → All (λ row. length row ≡ length s.periodic.now) periodic
        → FitReadings r t coset (2 ^ n) s periodic d pre
    fit_readings n fits s provable domain is trace height width commitment d held pre pre_held
        periodic some_row widths = record {
          well_formed = provable.well_formed;
          points = laws.sizes coset ∙ ap (λ n. 2 ^ n) fits;
          trace_readable = one_readable domain trace d held.committed.honest
              (stark.openable_readable d held.openable) held.extends;
          trace_width = λ z.
              values_in domain is trace height d held.committed.honest held.extends z ∙ width;
          preprocessed_readable = preprocessed_readable s.air.now.layout.preprocessed_width
              s.preprocessed pre pre_held;
          preprocessed_width = preprocessed_widths s.air.now.layout.preprocessed_width
              s.preprocessed pre pre_held;
          preprocessed_there = preprocessed_there s.air.now.layout.preprocessed_width
              s.preprocessed pre provable.preprocessed pre_held;
          periodic_there = λ some.
              some_row (λ e. some (sym provable.periodic_count ∙ ap length e));
          periodic_width = λ i d l. widths i d l ∙ provable.periodic_count;
          public_count = provable.public_count;
        }
