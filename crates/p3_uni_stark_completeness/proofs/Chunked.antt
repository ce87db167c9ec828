-- Chunks of the quotient's values on a coset, as polynomials: of a trace that satisfies its
-- constraints they agree with what the constraints see.
use Rattle.std.proofs.Common.{◌≡◌, ◌≢◌, ℕ, ◌+◌, ◌*◌, ◌^◌, ◌<◌, ◌≤◌, List, [], map, get_or}
use Rattle.std.proofs.Common.{sym, ap, ◌∙◌, arith}
use Rattle.std.proofs.lemmas.List.{get_or-map}
use Rattle.algebra.specs.Field.{FieldOps, IsField, IsHomomorphism}
use Rattle.algebra.specs.Polynomial.{val}
use Rattle.algebra.specs.Quotients.{values_at}
use Rattle.algebra.specs.TwoAdic.{AreRoots}
use Rattle.algebra.proofs.Lists.{get_or-tabulate}
use Rattle.p3_field_core.specs.Coset.{coset_point}
use Rattle.stark_algebra.specs.Laws.{HasBasis, IsSplit}
use Rattle.stark_algebra.specs.Selectors.{zerofier}
use Rattle.stark_algebra.proofs.Recombined.{cosets_split}
use Rattle.p3_air.specs.declared.air.Air.{Air}
use Rattle.p3_air.specs.Satisfied.{Assigned, IsSatisfied}
use Rattle.p3_air_laws.specs.Columns.{Columns, AreColumnsOf, entries_over}
use Rattle.p3_air_laws.specs.Laws.{Fits}
use Rattle.p3_uni_stark_identity.specs.Chunks.{chunk_shifts, quotient_at}
use Rattle.p3_uni_stark_identity.specs.Identity.{IsQuotientOf}
use Rattle.p3_uni_stark_identity.specs.Laws.{IsOffSubgroup, quotient_value, chunk_point}
use Rattle.p3_uni_stark_identity.specs.Laws.{AreQuotientChunks}
use Rattle.p3_uni_stark_identity.proofs.Complete.{chunks_agree}
use Rattle.p3_uni_stark_quotient.specs.Given.{OnCoset, entries_on}
use Rattle.p3_uni_stark_quotient.specs.Laws.{AreEvaluations}
use Rattle.p3_uni_stark_quotient.specs.Quotient.{quotient_on_row, quotient_on_coset}
use Rattle.p3_uni_stark_completeness.specs.Chunks.{AreChunkColumns}
use Rattle.p3_uni_stark_quotient.proofs.Chunking.{place_within}
use Rattle.p3_uni_stark_quotient.proofs.Honest.{values_are}

module _ {V A : Type 0} (F : FieldOps V) (L : IsField F) (K : FieldOps A) (M : IsField K)
    (lift : V → A) (H : IsHomomorphism F K lift) (top : ℕ) (w : ℕ → V) (W : AreRoots F top w)
    (k d : ℕ) (b : k + d ≤ top) (shift : V) (dimension : ℕ) (coefficients : A → List V) where
  abbrev coefficient : A → ℕ → V
  coefficient x e = get_or (coefficients x) e F.zero

  module _ (n : shift ≢ F.zero) (off : IsOffSubgroup F (w (k + d)) shift k) (basis : ℕ → A)
      (has : HasBasis K lift dimension basis coefficient)
      (air : Air V) (given : Assigned V) (l : ℕ) (columns : Columns V A)
      (are : AreColumnsOf F K lift (w k) (2 ^ k) l given columns) (fits : Fits l (2 ^ k) (2 ^ d) air)
      (satisfied : IsSatisfied F air given) (alpha : A) (on : OnCoset V)
      (evaluated : AreEvaluations F K lift (coset_point F (w (k + d)) shift) (2 ^ (k + d)) columns on)
      (same : on.public_values ≡ given.public_values) (values : List A)
      (are_values : values ≡ quotient_on_coset F K lift air (w k) (2 ^ k) alpha on (w (k + d)) shift
      (2 ^ d) (k + d)) where
    abbrev point : ℕ → V
    point i = coset_point F (w (k + d)) shift i

    abbrev quotient : A → A
    quotient = quotient_value F K lift air columns given.public_values (lift (w k)) (2 ^ k) alpha

    value_there : (p : ℕ) → p < 2 ^ (k + d) → get_or values p K.zero ≡ quotient (lift (point p))
    value_there p l =
        ap (λ vs. get_or vs p K.zero) are_values
        ∙ get_or-tabulate (2 ^ (k + d)) (λ i. quotient_on_row F K lift air (w k) (2 ^ k) alpha
        (entries_on on (2 ^ d) i) (point i)) p K.zero l
        ∙ values_are F L top w W K lift H k d b shift columns on evaluated air alpha p l
        ∙ ap (λ (publics : List V). quotient_value F K lift air columns publics (lift (w k)) (2 ^ k)
        alpha (lift (point p))) same

    points_same : (i j : ℕ) → chunk_point F w shift k d i j ≡ point (i + j * 2 ^ d)
    points_same i j = let h = cosets_split F L top w W shift n k d b in IsSplit.points h i j

    module _ (chunks : List (List (List V))) (these : AreChunkColumns F K.zero w shift k d dimension
        coefficients values chunks) where
      entry_there : (i j e : ℕ) → i < 2 ^ d → j < 2 ^ k → e < dimension
          → val F (get_or (get_or chunks i []) e []) (chunk_point F w shift k d i j)
          ≡ coefficient (quotient (lift (chunk_point F w shift k d i j))) e
      entry_there i j e li lj le =
          let x = chunk_point F w shift k d i j in
          sym (get_or-map (λ c. val F c x) (get_or chunks i []) e [] F.zero
          (omega (arith, le, these.widths i li)))
          ∙ ap (λ row. get_or row e F.zero) (these.rows_there i j li lj
          ∙ get_or-tabulate (2 ^ k) (λ j. coefficients (get_or values (i + j * 2 ^ d) K.zero)) j []
          lj)
          ∙ ap (λ v. coefficient v e) (value_there (i + j * 2 ^ d) (place_within k d i j li lj)
          ∙ ap (λ y. quotient (lift y)) (sym (points_same i j)))

      are_chunks : AreQuotientChunks F lift w shift k d dimension coefficient quotient chunks
      are_chunks = record {
        count = these.count;
        widths = these.widths;
        degrees = λ i e li le. these.degrees i li e [] (omega (arith, le, these.widths i li));
        values = entry_there;
      }

      pub chunks_give : (z : A) → zerofier K (2 ^ k) z ≢ K.zero
          → IsQuotientOf K lift F.zero air (lift (w k)) (2 ^ k)
          (entries_over F K lift columns given.public_values z (K.mul (lift (w k)) z)) alpha z
          (quotient_at K dimension basis k (map lift (chunk_shifts F w shift k d))
          (map (λ chunk. values_at F K lift chunk z) chunks) z)
      chunks_give z off_z = chunks_agree F L K M lift H top w W k d b shift n off dimension basis
          coefficient has air given l columns are fits satisfied alpha chunks are_chunks z off_z
