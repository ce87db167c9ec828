-- What is known of what was committed to.
use Rattle.std.proofs.Common.{◌≡◌, ℕ, List, [], ◌∷◌, map, length, sym, ap, subst, ◌∙◌, arith}
use Rattle.std.specs.List.{AllZip}
use Rattle.p3_pcs.specs.declared.claims.KnownCommitment.{KnownCommitment}
use Rattle.p3_pcs.specs.Requests.{Held}
use Rattle.p3_stark_columns.proofs.Batches.{domains_fit}
use Rattle.p3_test_openings.specs.Known.{FitData}

-- of one matrix on its domain
module _ {E Domain Matrix : Type 0} (size : Domain → ℕ)
    (Extends : Held E → Domain × Matrix → Type 0)
    (extends_size : (m : Held E) (e : Domain × Matrix) → Extends m e → m.size ≡ size e.0) where
  alone : (ms : List (Held E)) (e : Domain × Matrix) → AllZip Extends ms (e ∷ [])
      → length ms ≡ 1
  alone [] e h = absurd h
  alone (m ∷ []) e h = omega arith
  alone (m ∷ n ∷ ms) e h = absurd h.1

  pub one_matrix : (ms : List (Held E)) (e : Domain × Matrix) (es : List (Domain × Matrix))
      → es ≡ e ∷ [] → AllZip Extends ms es → length ms ≡ 1
  one_matrix ms e es are extends =
      alone ms e (subst (λ (xs : List (Domain × Matrix)). AllZip Extends ms xs) are extends)

  pub fits : {D Com : Type 0} (held : D → List (Held E)) (commitment_of : D → Com)
      (k : KnownCommitment Com Domain) (d : D) (e : Domain × Matrix)
      (es : List (Domain × Matrix)) → es ≡ e ∷ [] → AllZip Extends (held d) es
      → k.domains.items ≡ e.0 ∷ [] → commitment_of d ≡ k.commitment
      → FitData held commitment_of size (k ∷ []) (d ∷ [])
  fits held commitment_of k d e es es_are extends domains_are commitment =
      let sizes = domains_fit size Extends extends_size (held d) es k.domains.items extends
      (domains_are ∙ sym (ap (λ xs. map (λ e. e.0) xs) es_are)) in
      record {
        commitments = ap (λ c. c ∷ []) (sym commitment);
        sizes = ap (λ ns. ns ∷ []) sizes;
      }
