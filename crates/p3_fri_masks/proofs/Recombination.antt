-- Masked chunks make the quotient that the chunks made.
use Rattle.std.proofs.Common.{◌≡◌, ◌<◌, ℕ, suc, ◌-◌, ◌*◌, ◌^◌, List, [], ◌∷◌, length}
use Rattle.std.proofs.Common.{refl, sym, ap, ◌∙◌, arith, get_or}
use Rattle.std.proofs.lemmas.List.{length-map, get_or_append_left, get_or-append_right}
use Rattle.algebra.specs.Field.{FieldOps, IsField, IsHomomorphism}
use Rattle.algebra.specs.Interpolation.{interpolant}
use Rattle.algebra.specs.TwoAdic.{AreRoots}
use Rattle.algebra.specs.RecombinedQuotients.{last_mask}
use Rattle.algebra.proofs.LiftedMasks.{masks_cancel_above}
use Rattle.algebra.proofs.Lists.{length-tabulate, distinct_from_AllPairs}
use Rattle.algebra.proofs.Interpolation.{interpolant_interpolates}
use Rattle.p3_field_core.specs.Coset.{coset_point, coset_points}
use Rattle.p3_field_core.proofs.Cosets.{natural_distinct}
use Rattle.p3_dft.specs.Strided.{strided}
use Rattle.p3_fri_masks.specs.QuotientMasks.{mask_factors, balancing_mask, quotient_masks}
use Rattle.p3_fri_masks.specs.MaskedChunks.{column_of}
use Rattle.p3_fri_masks.specs.Recombination.{MaskedChunksRecombine}
use Rattle.p3_fri_masks.proofs.Columns.{strided-balance, length-strided}

module _ {A E : Type 0} (F : FieldOps A) (K : FieldOps E) (lift : A → E) (L : IsField F)
    (M : IsField K) (H : IsHomomorphism F K lift) (top : ℕ) (w : ℕ → A) (W : AreRoots F top w) where
  pub masked_chunks_recombine : MaskedChunksRecombine F K lift top w
  masked_chunks_recombine m k width shifts chunks masks b count off apart heights drawn sizes z j l =
      masks_cancel_above F K lift L M H m k s q t z apart off lengths
      (λ i b. length-strided F L.ring width (2 ^ k) (get_or all i []) j) last
    where
      s : ℕ → A
      s i = get_or shifts i F.zero

      all : List (List A)
      all = quotient_masks F m k (2 ^ k * width) shifts masks

      q : ℕ → List A
      q i = interpolant F (coset_points F (w k) (s i) k) (column_of F (get_or chunks i []) j)

      t : ℕ → List A
      t i = strided F width (2 ^ k) (get_or all i []) j

      lengths : (i : ℕ) → i < suc m → length (q i) ≡ 2 ^ k
      lengths i below =
          (interpolant_interpolates F L (coset_points F (w k) (s i) k)
          (column_of F (get_or chunks i []) j)
          (length-tabulate (2 ^ k) (coset_point F (w k) (s i)) ∙ sym (heights i below)
          ∙ sym (length-map (get_or chunks i []) (λ row. get_or row j F.zero)))
          (distinct_from_AllPairs (coset_points F (w k) (s i) k)
          (natural_distinct F L top w W k b (s i) (off i below)))).count
          ∙ length-tabulate (2 ^ k) (coset_point F (w k) (s i))

      balance : List A
      balance = balancing_mask F m (2 ^ k * width) (mask_factors F m k shifts) masks

      last : t m ≡ last_mask F m k s t
      last =
          ap (λ xs. strided F width (2 ^ k) xs j)
          (get_or-append_right masks (balance ∷ []) (length masks) m [] refl (omega (arith, drawn))
          ∙ ap (λ n. get_or (balance ∷ []) n [])
          (let e : m - length masks ≡ 0 = omega (arith, drawn) in e))
          ∙ strided-balance F L.ring m k width s (mask_factors F m k shifts) masks j t refl sizes
          (λ i below. ap (λ xs. strided F width (2 ^ k) xs j)
          (sym (get_or_append_left masks (balance ∷ []) [] i (omega (arith, drawn, below)))))
