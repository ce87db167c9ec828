-- What the plain scheme commits to, extends and reads are polynomials in the trace's field.
use Rattle.std.specs.Prelude.{◌≡◌, ◌≢◌, ◌≤◌, ℕ, map, length, true, false, refl}
use Rattle.std.proofs.Common.{◌∙◌}
use Rattle.algebra.specs.Field.{IsField}
use Rattle.algebra.specs.TwoAdic.{AreRoots}
use Rattle.algebra.proofs.Lists.{all_zip-weaker}
use Rattle.p3_field_core.specs.Coset.{coset_point}
use Rattle.p3_matrix.specs.Matrix.{matrix_width}
use Rattle.p3_periodic.specs.Values.{IsColumnValue}
use Rattle.p3_fri_extensions.specs.Extension.{IsLowDegreeExtension}
use Rattle.p3_fri_openings.proofs.Committed.{width_of_values}
use Rattle.p3_fri_openings.specs.Held.{held_in}
use Rattle.p3_fri_opening_prover.specs.Setting.{OpeningSetting}
use Rattle.p3_fri_two_adic.specs.Chunks.{polynomials_on, recombined_on}
use Rattle.p3_fri_two_adic.specs.Rules.{two_adic_rules, two_adic_stark_rules}
use Rattle.p3_pcs.specs.Requests.{Held}
use Rattle.p3_uni_stark_pcs.specs.Laws.{StarkPcsLaws}
use Rattle.p3_uni_stark_pcs.specs.Fields.{stark_fields}
use Rattle.p3_uni_stark_pcs.specs.HeldLaws.{all_held}
use Rattle.p3_uni_stark_pcs.specs.ChunkLaws.{rows_on}

-- a scheme that doesn't hide isn't one that does
plain : {A : Type 0} → false ≡ true → A
plain hides = absurd (differ hides)
  where
    differ : false ≢ true
    differ e = cc

module _ {F E C D Data Domain Com Path InCom InPath M InM A B X : Type 0}
    (basis : ℕ → E) (canonical : F → ℕ) (shift : Domain → F) (log_size : Domain → ℕ)
    (r : OpeningSetting F E C D Data Com Path InCom InPath) (L : IsField r.setting.fields.base)
    (W : AreRoots r.setting.fields.base r.setting.fields.two_adicity r.setting.fields.root)
    (nonzero : (d : Domain) → shift d ≢ r.setting.fields.base.zero)
    (within : (d : Domain) → log_size d ≤ r.setting.fields.two_adicity) where
  pub plain_polynomials : StarkPcsLaws (stark_fields r.setting.fields basis canonical) shift
      log_size false (two_adic_rules {M = M} {InM = InM} {A = A} {B = B} {X = X} shift log_size r)
      (two_adic_stark_rules shift log_size r) r.setting.fields.lift
      (λ d. coset_point r.setting.fields.base (r.setting.fields.root (log_size d)) (shift d))
      (λ e. polynomials_on r.setting.fields (shift e.0) (log_size e.0) e.1)
      (λ domains rows z. recombined_on r.setting.fields (map log_size domains)
      (map shift domains) rows z)
      (λ d x. IsColumnValue r.setting.fields.base r.setting.fields.root (log_size d) x)
  plain_polynomials = record {
    sizes = λ d. refl;
    embeds = λ x. refl;
    points = λ d i. refl;
    polynomials = λ d honest. all_held r.setting.fields basis canonical r.parameters.log_blowup
        (r.committed d) honest;
    chunks = λ e tall. rows_on r.setting.fields basis canonical L W (shift e.0) (nonzero e.0)
        (log_size e.0) (within e.0) e.1 tall;
    recombine = λ domains values z. refl;
    widths = λ chunks num_chunks ldes can extended.
        all_zip-weaker (λ lde e. IsLowDegreeExtension r.setting.fields.base r.setting.fields.root
        r.setting.fields.shift r.parameters.log_blowup (shift e.0) (log_size e.0) e.1 lde)
        (λ lde e. (z : E) → length (Held.values_at (held_in r.setting.fields
        r.parameters.log_blowup lde) z) ≡ matrix_width e.1) ldes chunks
        (λ lde e h z. width_of_values r.setting.fields r.parameters.log_blowup lde z ∙ h.width)
        extended;
    periodic = λ d x column value h. h;
    random = λ hides. plain hides;
  }
