-- The polynomials of committed columns, and their entries.
use Rattle.std.proofs.Common.{if◌then◌else◌}
use Rattle.std.proofs.Common.{◌≡◌, ℕ, ◌+◌, ◌*◌, ◌^◌, ◌<◌, ◌≤◌, Bool, true, false, List, [], ◌∷◌}
use Rattle.std.proofs.Common.{length, map, All, refl, sym, ap, ap₂, subst, ◌∙◌, arith}
use Rattle.std.proofs.Common.{pow_pos}
use Rattle.std.specs.List.{AllZip}
use Rattle.std.proofs.lemmas.List.{length-map}
use Rattle.algebra.specs.Field.{IsField, IsHomomorphism, pow}
use Rattle.algebra.specs.Polynomial.{val}
use Rattle.algebra.specs.Quotients.{values_at}
use Rattle.algebra.specs.TwoAdic.{AreRoots}
use Rattle.p3_field_core.specs.Coset.{coset_point}
use Rattle.p3_matrix.specs.declared.dense.RowMajorMatrix.{RowMajorMatrix}
use Rattle.p3_matrix.specs.Matrix.{rows, matrix_width}
use Rattle.p3_air.specs.Satisfied.{row_at}
use Rattle.p3_pcs.specs.Requests.{Held}
use Rattle.p3_pcs.specs.Scheme.{Scheme, IsLawful}
use Rattle.p3_stark_pcs.specs.Evaluations.{held_at, HaveRows}
use Rattle.p3_uni_stark_completeness.proofs.Columns.{row_below, every_one, every_second}
use Rattle.p3_uni_stark_verifier.specs.Chunks.{hiding_bits}
use Rattle.p3_uni_stark_verifier.specs.Setting.{StarkFields}
use Rattle.p3_uni_stark_phases.specs.Commits.{ExtendsOne}
use Rattle.p3_uni_stark_phases.proofs.Pairs.{row_width}
use Rattle.p3_uni_stark_pcs.specs.Laws.{HoldsPolynomials}
use Rattle.p3_uni_stark_opening.specs.Opened.{values_of}

-- of a list that extends one there is one
pub record IsOnly {A B : Type 0} (R : A → B → Type 0) (e : B) (hs : List A) : Type 0 where
  pub entry : A
  pub only : hs ≡ entry ∷ []
  pub related : R entry e

pub only_one : {A B : Type 0} (R : A → B → Type 0) (e : B) (hs : List A)
    → AllZip R hs (e ∷ []) → IsOnly R e hs
only_one R e [] h = absurd h
only_one R e (m ∷ []) h = record { entry = m; only = refl; related = h.0 }
only_one R e (m ∷ n ∷ hs) h = absurd h.1

-- it holds of the only entry
pub of_only : {A : Type 0} (P : A → Type 0) (hs : List A) (m : A) → hs ≡ m ∷ [] → All P hs → P m
of_only P hs m e h = (subst (λ xs. All P xs) e h) 0 m (omega arith)

module _ {V E : Type 0} (fields : StarkFields V E) (L : IsField fields.base)
    (M : IsField fields.ext) (H : IsHomomorphism fields.base fields.ext fields.lift)
    (W : AreRoots fields.base fields.two_adicity fields.root) where
  -- the columns' polynomials of a datum that is committed to as one matrix of `2^k` rows
  pub record HasColumnsOf {D : Type 0} (values : E → D → List E) (k l : ℕ)
      (matrix : RowMajorMatrix V) (d : D) : Type 0 where
    pub columns : List (List V)
    pub degrees : All (λ c. length c ≡ l) columns
    pub rows_are : (i : ℕ) → i < 2 ^ k → row_at (rows matrix) i
        ≡ map (λ c. val fields.base c (pow fields.base (fields.root k) i)) columns
    pub values_are : (z : E)
        → values z d ≡ values_at fields.base fields.ext fields.lift columns z

  -- every point of the trace's domain, or every second one of twice as many
  apart : (zk : Bool) (k i : ℕ) → k + hiding_bits zk ≤ fields.two_adicity
      → coset_point fields.base (fields.root (k + hiding_bits zk)) fields.base.one
      ((if zk then 2 else 1) * i) ≡ pow fields.base (fields.root k) i
  apart false k i b = every_one fields.base L fields.ext M fields.lift H fields.two_adicity
      fields.root W k i
  apart true k i b = every_second fields.base L fields.ext M fields.lift H fields.two_adicity
      fields.root W k i b

  module _ {C Com Dom D Opening Error ProverError : Type 0}
      (r : Scheme E C V Dom Com D Opening Error ProverError) (zk : Bool) (embed : V → E)
      (point : Dom → ℕ → V) (embeds : (x : V) → embed x ≡ fields.lift x)
      (lawful : IsLawful r)
      (rows_law : (m : Held E) (e : Dom × RowMajorMatrix V) → r.Extends m e
      → HaveRows embed (point e.0) (if zk then 2 else 1) e.1 m)
      (k : ℕ) (b : k + hiding_bits zk ≤ fields.two_adicity) (domain : Dom)
      (points : (i : ℕ) → point domain i ≡ coset_point fields.base
      (fields.root (k + hiding_bits zk)) fields.base.one i)
      (size : r.domain_size domain ≡ 2 ^ (k + hiding_bits zk)) where
    pub columns_of : (matrix : RowMajorMatrix V) → length (rows matrix) ≡ 2 ^ k → (d : D)
        → All (HoldsPolynomials fields) (r.committed_polynomials d)
        → ExtendsOne r domain matrix d
        → HasColumnsOf (values_of r) k (2 ^ (k + hiding_bits zk)) matrix d
    columns_of matrix height d held extends =
        let o = only_one r.Extends (domain, matrix) (r.committed_polynomials d) extends in
        let m : Held E = o.entry in
        let p : HoldsPolynomials fields m =
        of_only (HoldsPolynomials fields) (r.committed_polynomials d) m o.only held in
        let at_z : (z : E) → values_of r z d ≡ m.values_at z =
        (λ z. ap (λ (hs : List (Held E)). Held.values_at (held_at hs 0) z) o.only) in
        let x : ℕ → V = λ i. pow fields.base (fields.root k) i in
        record {
          columns = p.columns;
          degrees = subst (λ n. All (λ c. length c ≡ n) p.columns)
              (lawful.extends_size m (domain, matrix) o.related ∙ size) p.degrees;
          rows_are = λ i l. row_below fields.base L fields.ext M fields.lift H p.columns (x i)
              (row_at (rows matrix) i)
              (ap (λ y. values_at fields.base fields.ext fields.lift p.columns y)
              (ap fields.lift (sym (points ((if zk then 2 else 1) * i) ∙ apart zk k i b))
              ∙ sym (embeds (point domain ((if zk then 2 else 1) * i))))
              ∙ sym (p.values (embed (point domain ((if zk then 2 else 1) * i))))
              ∙ rows_law m (domain, matrix) o.related i (omega (arith, l, height))
              ∙ embedded (row_at (rows matrix) i));
          values_are = λ z. at_z z ∙ p.values z;
        }
      where
        embedded : (xs : List V) → map embed xs ≡ map fields.lift xs
        embedded [] = refl
        embedded (x ∷ xs) = ap₂ (λ a b. a ∷ b) (embeds x) (embedded xs)

    -- there are as many as the matrix has columns
    pub columns_many : (matrix : RowMajorMatrix V) → length (rows matrix) ≡ 2 ^ k → (d : D)
        → (h : HasColumnsOf (values_of r) k (2 ^ (k + hiding_bits zk)) matrix d)
        → length h.columns ≡ matrix_width matrix
    columns_many matrix height d h =
        sym (length-map h.columns (λ c. val fields.base c (pow fields.base (fields.root k) 0)))
        ∙ ap length (sym (h.rows_are 0 (pow_pos k)))
        ∙ row_width matrix 0 (omega (arith, height, pow_pos k))

    pub values_many : (matrix : RowMajorMatrix V) → length (rows matrix) ≡ 2 ^ k → (d : D)
        → (h : HasColumnsOf (values_of r) k (2 ^ (k + hiding_bits zk)) matrix d)
        → (z : E) → length (values_of r z d) ≡ matrix_width matrix
    values_many matrix height d h z =
        ap length (h.values_are z)
        ∙ length-map h.columns (λ c. val fields.ext (map fields.lift c) z)
        ∙ columns_many matrix height d h
