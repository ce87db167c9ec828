-- Where the hiding scheme has room for a trace and its quotient.
use Rattle.std.specs.Prelude.{◌≡◌, ◌≢◌, ◌≤◌, ◌<◌, ◌*◌, ℕ, ◌+◌, ◌^◌, zero, suc, List}
use Rattle.std.specs.Prelude.{[], ◌∷◌, map, length}
use Rattle.std.specs.Prelude.{All, refl}
use Rattle.std.proofs.Common.{sym, ap, ◌∙◌, arith, pow_pos}
use Rattle.std.proofs.lemmas.List.{length-map, get_or-map}
use Rattle.std.proofs.lemmas.List.Elements.{All-map}
use Rattle.algebra.specs.Field.{IsField}
use Rattle.algebra.specs.TwoAdic.{AreRoots}
use Rattle.algebra.proofs.Lists.{All_from_each, length-tabulate}
use Rattle.algebra.proofs.Powers.{double}
use Rattle.p3_dft.proofs.Sizes.{double_next}
use Rattle.p3_field_core.specs.Coset.{coset_point}
use Rattle.p3_matrix.specs.declared.dense.RowMajorMatrix.{RowMajorMatrix}
use Rattle.p3_matrix.specs.Matrix.{rows, matrix_width}
use Rattle.p3_uni_stark_identity.specs.Chunks.{AreChunkDomains}
use Rattle.p3_uni_stark_identity.proofs.Domains.{are_domains}
use Rattle.p3_fri_masks.specs.QuotientLdes.{first_width}
use Rattle.p3_fri_relation.specs.Setting.{Fields}
use Rattle.p3_fri_hiding.specs.Quotients.{CanExtend}
use Rattle.p3_fri_hiding.specs.Trace.{FitsMasked}
use Rattle.p3_uni_stark_pcs.specs.Rooms.{AreChunksOf}
use Rattle.p3_uni_stark_pcs.specs.Fields.{stark_fields}

module _ {F E Domain : Type 0} (f : Fields F E) (basis : ℕ → E) (canonical : F → ℕ)
    (shift : Domain → F) (log_size : Domain → ℕ) (b k : ℕ) where
  pub fits_masked : (domain : Domain) (matrix : RowMajorMatrix F) → log_size domain ≡ k + 1
      → length (rows matrix) ≡ 2 ^ k → k + 1 + b ≤ f.two_adicity
      → All (λ (e : Domain × RowMajorMatrix F). FitsMasked f.two_adicity b (log_size e.0) e.1)
      ((domain, matrix) ∷ [])
  fits_masked domain matrix size tall extended =
      All_from_each (λ (e : Domain × RowMajorMatrix F). FitsMasked f.two_adicity b (log_size e.0)
      e.1) ((domain, matrix) ∷ []) (
        record {
          twice = ap (λ n. 2 * n) tall ∙ doubled ∙ ap (λ n. 2 ^ n) (sym size);
          within = omega (arith, size, extended);
        },
        tt,
      )
    where
      doubled : 2 * 2 ^ k ≡ 2 ^ (k + 1)
      doubled = omega (arith, double_next k)

  -- chunks of a quotient, more than one
  module _ (L : IsField f.base) (W : AreRoots f.base f.two_adicity f.root)
      (nonzero : f.shift ≢ f.base.zero) (d : ℕ) (several : 0 < d)
      (within : k + d ≤ f.two_adicity) (extended : k + 1 + b ≤ f.two_adicity)
      (chunks : List (Domain × RowMajorMatrix F))
      (pairs : AreChunksOf (stark_fields f basis canonical) shift log_size k d chunks) where
    many : length chunks ≡ 2 ^ d
    many = sym (length-map chunks (λ e. shift e.0)) ∙ ap length pairs.shifts
        ∙ length-tabulate (2 ^ d) (coset_point f.base (f.root (k + d)) f.shift)

    some : 0 < length chunks
    some = omega (arith, many, pow_pos d)

    more : (d : ℕ) → 0 < d → 1 < 2 ^ d
    more zero l = absurd (omega (arith, l))
    more (suc d) l = omega (arith, double d, pow_pos d)

    sizes : All (λ n. n ≡ k) (map (λ e. log_size e.0) chunks)
    sizes = All-map (λ n. n ≡ k) (λ e. log_size e.0) chunks pairs.sizes

    disjoint : AreChunkDomains f.base (map (λ e. log_size e.0) chunks)
        (map (λ e. shift e.0) chunks)
    disjoint = are_domains f.base L f.two_adicity f.root W f.shift nonzero k d within
        (map (λ e. log_size e.0) chunks) (map (λ e. shift e.0) chunks)
        (length-map chunks (λ (e : Domain × RowMajorMatrix F). log_size e.0) ∙ many) pairs.shifts
        sizes

    pub extendable : CanExtend f.base shift log_size f.two_adicity b chunks (length chunks)
    extendable = record {
      several = omega (arith, many, more d several);
      one_each = refl;
      masked = record {
        some = some;
        heights = λ i e l. pairs.heights i e l ∙ ap (λ n. 2 ^ n) (sym (pairs.sizes i e l));
        widths = λ i e l. pairs.widths i e l ∙ sym (first e);
        within = λ i e l. omega (arith, pairs.sizes i e l, extended);
        disjoint = record { one_size = disjoint.one_size; apart = disjoint.apart };
      };
    }
      where
        first : (e : Domain × RowMajorMatrix F) → first_width chunks ≡ f.degree
        first e = get_or-map (λ (e : Domain × RowMajorMatrix F). matrix_width e.1) chunks 0 e 0 some
            ∙ pairs.widths 0 e some
