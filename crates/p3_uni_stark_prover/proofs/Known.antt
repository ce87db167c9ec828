-- The polynomials of committed columns, with their rows and their values on a coset.
use Rattle.std.proofs.Common.{if◌then◌else◌}
use Rattle.std.proofs.Common.{◌≡◌, ◌≢◌, ℕ, ◌+◌, ◌^◌, ◌<◌, ◌≤◌, ◌==◌, Bool, not}
use Rattle.std.proofs.Common.{List, [], ◌∷◌, length, map, All, refl, sym, ap, ap₂, subst, ◌∙◌}
use Rattle.std.proofs.Common.{arith, Option, None, Some}
use Rattle.std.specs.Option.{is_some}
use Rattle.std.specs.declared.alloc.Global.{Global}
use Rattle.std.specs.declared.vec.Vec.{Vec}
use Rattle.algebra.specs.Field.{IsField, IsHomomorphism}
use Rattle.algebra.specs.Quotients.{values_at}
use Rattle.algebra.specs.TwoAdic.{AreRoots}
use Rattle.p3_field_core.specs.Coset.{coset_point}
use Rattle.p3_matrix.specs.declared.dense.RowMajorMatrix.{RowMajorMatrix}
use Rattle.p3_matrix.specs.Matrix.{rows}
use Rattle.p3_air.specs.Satisfied.{row_at}
use Rattle.p3_periodic.specs.Views.{rows_if_any}
use Rattle.p3_pcs.specs.Requests.{Held}
use Rattle.p3_pcs.specs.Scheme.{Scheme, IsLawful}
use Rattle.p3_stark_pcs.specs.Evaluations.{HaveRows}
use Rattle.p3_stark_pcs.specs.Scheme.{StarkScheme}
use Rattle.p3_uni_stark_verifier.specs.declared.proof.PreprocessedVerifierKey.{
  PreprocessedVerifierKey,
}
use Rattle.p3_uni_stark_verifier.specs.Chunks.{hiding_bits}
use Rattle.p3_uni_stark_verifier.specs.Setting.{StarkFields}
use Rattle.p3_uni_stark_phases.specs.Commits.{ExtendsOne}
use Rattle.p3_uni_stark_phases.specs.Evaluated.{AreRead, AreReadIfAny}
use Rattle.p3_uni_stark_opening.specs.Opened.{values_of, values_if}
use Rattle.p3_uni_stark_pcs.specs.Laws.{StarkPcsLaws}
use Rattle.p3_uni_stark_prover.specs.Held.{HoldPreprocessed, HavePreprocessedRows}
use Rattle.p3_uni_stark_prover.proofs.Agreed.{AreKnown}
use Rattle.p3_uni_stark_prover.proofs.Complete.{no_entries}
use Rattle.p3_uni_stark_prover.proofs.Readings.{some_width, no_width, columns_in}

module _ {V E C Com Dom D Opening Error ProverError : Type 0} (fields : StarkFields V E)
    (L : IsField fields.base) (M : IsField fields.ext)
    (H : IsHomomorphism fields.base fields.ext fields.lift)
    (W : AreRoots fields.base fields.two_adicity fields.root) (shift : Dom → V)
    (log_size : Dom → ℕ) (zk : Bool) (r : Scheme E C V Dom Com D Opening Error ProverError)
    (t : StarkScheme E V Dom D ProverError) (embed : V → E) (point : Dom → ℕ → V)
    (chunk_polynomials : Dom × RowMajorMatrix V → Held E)
    (recombined : List Dom → List (List E) → E → List E)
    (IsPeriodicValue : Dom → V → Vec V Global → V → Type 0)
    (laws : StarkPcsLaws fields shift log_size zk r t embed point chunk_polynomials recombined
    IsPeriodicValue) (lawful : IsLawful r)
    (rows_law : (m : Held E) (e : Dom × RowMajorMatrix V) → r.Extends m e
    → HaveRows embed (point e.0) (if zk then 2 else 1) e.1 m)
    (k d w : ℕ) (low : k + hiding_bits zk ≤ fields.two_adicity) (coset : Dom)
    (coset_shift : shift coset ≡ fields.generator) (coset_size : log_size coset ≡ k + d) where
  abbrev IsColumnDomain : Dom → Type 0
  IsColumnDomain x = (shift x ≡ fields.base.one) × (log_size x ≡ k + hiding_bits zk)

  embedded : (xs : List V) → map embed xs ≡ map fields.lift xs
  embedded [] = refl
  embedded (x ∷ xs) = ap₂ (λ a b. a ∷ b) (laws.embeds x) (embedded xs)

  abbrev on_coset : ℕ → V
  on_coset i = coset_point fields.base (fields.root (k + d)) fields.generator i

  coset_points : (i : ℕ) → embed (point coset i) ≡ fields.lift (on_coset i)
  coset_points i = laws.embeds (point coset i)
      ∙ ap fields.lift (laws.points coset i
      ∙ ap₂ (λ n x. coset_point fields.base (fields.root n) x i) coset_size coset_shift)

  coset_many : r.domain_size coset ≡ 2 ^ (k + d)
  coset_many = laws.sizes coset ∙ ap (λ n. 2 ^ n) coset_size

  pub known_one : (domain : Dom) → IsColumnDomain domain → (matrix : RowMajorMatrix V)
      → length (rows matrix) ≡ 2 ^ k → (x : D) → r.IsHonest x → ExtendsOne r domain matrix x
      → (read : RowMajorMatrix V) → AreRead r embed point coset x read
      → AreKnown fields k (2 ^ (k + hiding_bits zk)) (2 ^ (k + d)) on_coset (rows matrix)
      (rows read) (λ z. values_of r z x)
  known_one domain is matrix high x honest extends read h =
      let f = columns_in fields L M H W shift log_size zk r t embed point chunk_polynomials
      recombined IsPeriodicValue laws lawful rows_law k low domain is matrix high x honest extends
      in
      record {
        columns = f.columns;
        degrees = f.degrees;
        rows_are = f.rows_are;
        values_are = f.values_are;
        read = λ i l. sym (embedded (row_at (rows read) i))
            ∙ h.value i (subst (λ n. i < n) (sym coset_many) l)
            ∙ f.values_are (embed (point coset i))
            ∙ ap (λ x. values_at fields.base fields.ext fields.lift f.columns x)
            (coset_points i);
      }

  pub known_if : (key : Option (PreprocessedVerifierKey Com)) (x : Option D)
      (given : List (List V)) (read : Option (RowMajorMatrix V))
      → is_some key ≡ not (w == 0) → HoldPreprocessed r t IsColumnDomain k w key x
      → HavePreprocessedRows r IsColumnDomain given x
      → (w ≢ 0 → length given ≡ 2 ^ k) → All (λ row. length row ≡ w) given
      → AreReadIfAny r embed point coset x read
      → AreKnown fields k (2 ^ (k + hiding_bits zk)) (2 ^ (k + d)) on_coset given
      (rows_if_any read) (λ z. values_if r z x)
  known_if None None given None e h g high wide read = record {
    columns = [];
    degrees = λ i c l. absurd (omega (arith, l));
    rows_are = λ i l. no_entries given i (λ j row b. wide j row b ∙ no_width w e);
    values_are = λ z. refl;
    read = λ i l. refl;
  }
  known_if None None given (Some m) e h g high wide read = absurd read
  known_if None (Some x) given m e h g high wide read = absurd h
  known_if (Some key) None given m e h g high wide read = absurd h
  known_if (Some key) (Some x) given None e h g high wide read = absurd read
  known_if (Some key) (Some x) given (Some m) e h g high wide read =
      subst (λ rs. AreKnown fields k (2 ^ (k + hiding_bits zk)) (2 ^ (k + d)) on_coset rs
      (rows m) (λ z. values_of r z x)) g.3
      (known_one g.0 g.1 g.2 (ap length g.3 ∙ high (some_width w e)) x h.committed.honest g.4 m
      read)
