-- What opening a batch at positions needs.
use Rattle.std.proofs.Common.{◌≡◌, ℕ, ◌-◌, ◌/◌, ◌^◌, ◌<◌, ◌≤◌, List, length, map}
use Rattle.std.proofs.Common.{get_or, arith, sym, ap, ◌∙◌, subst}
use Rattle.std.specs.Prelude.{All}
use Rattle.std.proofs.lemmas.List.{length-map, get_or-map}
use Rattle.p3_matrix.specs.declared.dense.RowMajorMatrix.{RowMajorMatrix}
use Rattle.p3_mmcs.specs.Batch.{AreBelow, max_height, dimensions_of, opened_rows}
use Rattle.p3_fri_relation.specs.Setting.{Opening, InputOpening}
use Rattle.p3_fri_prover.specs.Openings.{OpensBatch, batch_index}
use Rattle.p3_field_core.proofs.IndexPowers.{power_quotient, index_cut}
use Rattle.algebra.proofs.Lists.{map-map, map-agree}

module _ {F Com Path : Type 0} (opens : Opening F Com Path) (top log : ℕ) (positions indices : List ℕ)
    (matrices : List (RowMajorMatrix F))
    (is : 2 ^ log ≡ max_height (dimensions_of matrices))
    (within : log ≤ top) (shifted : indices ≡ map (λ q. q / 2 ^ (top - log)) positions) where
  same_index : (q : ℕ) → q / 2 ^ (top - log) ≡ batch_index top matrices q
  same_index q = ap (λ n. q / n) (sym (power_quotient log top within)
      ∙ ap (λ n. 2 ^ top / n) is)

  same_indices : indices ≡ map (batch_index top matrices) positions
  same_indices = shifted ∙ map-agree (λ q. q / 2 ^ (top - log)) (batch_index top matrices) same_index positions

  pub indices_below : All (λ q. q < 2 ^ top) positions
      → AreBelow (max_height (dimensions_of matrices)) indices
  indices_below below k d l =
      let many : k < length positions =
      omega (arith, l, ap length shifted, length-map positions (λ q. q / 2 ^ (top - log))) in
      let e : top - (top - log) ≡ log = omega (arith, within) in
      subst (λ n. get_or indices k d < n) is
      (subst (λ xs. get_or xs k d < 2 ^ log) (sym shifted)
      (subst (λ x. x < 2 ^ log)
      (sym (get_or-map (λ q. q / 2 ^ (top - log)) positions k d d many))
      (subst (λ m. get_or positions k d / 2 ^ (top - log) < 2 ^ m) e
      (index_cut (get_or positions k d) top (top - log) (below k d many) (omega arith)))))

  pub batch_opened : (commitment : Com) (o : InputOpening F Path)
      → o.rows ≡ map (opened_rows matrices) indices
      → opens commitment (dimensions_of matrices) indices o.rows o.path
      → OpensBatch opens top positions matrices commitment o
  batch_opened commitment o rows opened = record {
    rows_of_batch = rows ∙ ap (λ xs. map (opened_rows matrices) xs) same_indices
        ∙ map-map (opened_rows matrices) (batch_index top matrices) positions;
    opened = subst (λ xs. opens commitment (dimensions_of matrices) xs o.rows o.path) same_indices
        opened;
  }
