-- The converse of batching with the powers of a challenge.
use Rattle.std.specs.Prelude.{◌≡◌, ℕ, List, length, map, slice_index_or}
use Rattle.algebra.specs.Field.{FieldOps}
use Rattle.algebra.specs.Polynomial.{val, tabulate}
use Rattle.algebra.specs.Interpolation.{interpolant}
use Rattle.p3_converse.specs.Positions.{coefficients_at}

module _ {A : Type 0} (F : FieldOps A) where
  -- polynomial `s` has at position `m`, of `d`, coefficient `s` of the polynomial through the
  -- alphas and what the given polynomials have at that position
  abbrev pub unbatched : (alphas : List A) (polys : List (List A)) (d : ℕ) → List (List A)
  unbatched alphas polys d = tabulate (length alphas) (λ s.
      tabulate d (λ m. slice_index_or (interpolant F alphas (coefficients_at F polys m)) s F.zero))

  -- at every point `x`, values whose sums with the powers of each alpha are the values of the
  -- polynomials beside the alphas are the values of `parts`
  pub record IsUnbatching (alphas : List A) (polys parts : List (List A)) : Type 0 where
    pub values : (x : A) (us : List A) → length us ≡ length alphas
        → map (λ alpha. val F us alpha) alphas ≡ map (λ p. val F p x) polys
        → us ≡ map (λ p. val F p x) parts
