-- Off a domain a point differs from its first and from its last.
use Rattle.std.proofs.Common.{◌≡◌, ◌≢◌, ℕ, ◌^◌, ◌≤◌, sym, ap, ◌∙◌}
use Rattle.algebra.specs.Field.{FieldOps, IsField, IsHomomorphism, sub}
use Rattle.algebra.specs.TwoAdic.{AreRoots}
use Rattle.algebra.proofs.Combine.{sub-eq}
use Rattle.algebra.proofs.Points.{lifted_roots, root-nonzero}
use Rattle.stark_algebra.specs.Selectors.{zerofier}
use Rattle.p3_air_laws.proofs.Rows.{one-root, last-root}

module _ {A E : Type 0} (F : FieldOps A) (K : FieldOps E) (L : IsField F) (M : IsField K)
    (lift : A → E) (H : IsHomomorphism F K lift) (top : ℕ) (w : ℕ → A) (W : AreRoots F top w)
    (k : ℕ) (b : k ≤ top) where
  lifted : AreRoots K top (λ j. lift (w j))
  lifted = lifted_roots F K lift L M H top w W

  pub generator_nonzero : (g : E) → g ≡ lift (w k) → g ≢ K.zero
  generator_nonzero g is e = root-nonzero K M top (λ j. lift (w j)) lifted k b (sym is ∙ e)

  pub off_first : (z d : E) → zerofier K (2 ^ k) z ≢ K.zero → d ≡ sub K z K.one → d ≢ K.zero
  off_first z d off is e = off (ap (λ x. zerofier K (2 ^ k) x) (sub-eq K M.ring (sym is ∙ e))
      ∙ one-root K M top (λ j. lift (w j)) lifted k b)

  pub off_last : (z d : E) → zerofier K (2 ^ k) z ≢ K.zero → d ≡ sub K z (K.inv (lift (w k)))
      → d ≢ K.zero
  off_last z d off is e = off (ap (λ x. zerofier K (2 ^ k) x) (sub-eq K M.ring (sym is ∙ e))
      ∙ last-root K M top (λ j. lift (w j)) lifted k b)
