-- A proof put together from the rounds that were played and what was opened of them.
use Rattle.std.proofs.Common.{◌≡◌, ℕ, suc, ◌+◌, ◌-◌, ◌/◌, ◌%◌, ◌^◌, ◌<◌, ◌≤◌, List, []}
use Rattle.std.proofs.Common.{◌∷◌, Option, length, get_or, map, remove, sum, refl, sym, ap, ap₂, ◌∙◌, arith, subst}
use Rattle.algebra.specs.Field.{FieldOps}
use Rattle.algebra.specs.Folds.{neighbours}
use Rattle.p3_matrix.specs.declared.dense.RowMajorMatrix.{RowMajorMatrix}
use Rattle.p3_matrix.specs.Matrix.{rows}
use Rattle.p3_mmcs.specs.Batch.{dimensions}
use Rattle.p3_fri_relation.specs.Setting.{Opening}
use Rattle.p3_fri_relation.specs.Queries.{heights_after, row_indices}
use Rattle.p3_fri_prover.specs.Openings.{index_into, row_of, OpensRows}
use Rattle.p3_fri_prover.specs.Rounds.{KeepsWord}
use Rattle.p3_fri_prover.proofs.Ways.{height_before, height_lowered, index_below, words}
use Rattle.p3_fri_prover.proofs.Ways.{length_of_word, siblings_in, row_index}
use Rattle.p3_fri_prover.proofs.Pushes.{rows_at}
use Rattle.p3_fri_prover.proofs.Folding.{height_of_rows, row_is_neighbours}
use Rattle.p3_field_core.proofs.IndexPowers.{index_cut}
use Rattle.algebra.proofs.Lists.{map-map}

map_same_in : {X : Type 0} (f g : ℕ → X) (xs : List ℕ)
    → ((j : ℕ) → j < length xs → f (get_or xs j 0) ≡ g (get_or xs j 0)) → map f xs ≡ map g xs
map_same_in f g [] each = refl
map_same_in f g (x ∷ xs) each = ap₂ (λ y ys. y ∷ ys) (each 0 (omega arith))
    (map_same_in f g xs (λ j l. each (suc j) (omega (arith, l))))

module _ {E Com Data Path : Type 0} (committed : Data → List (RowMajorMatrix E))
    (commitment_of : Data → Com) (opens : Opening E Com Path) (F : FieldOps E)
    (fold : ℕ → ℕ → ℕ → E → List E → E) (inputs : ℕ → Option (List E)) (top : ℕ) (first : List E)
    (arities : List ℕ) (betas : List E) (ps : List ℕ) (drawn : length betas ≡ length arities)
    (whole : length first ≡ 2 ^ top) (within : sum arities ≤ top)
    (below : (j : ℕ) → j < length ps → get_or ps j 0 < 2 ^ top)
    (k : ℕ) (some_left : k < length arities) where
  abbrev log_arity : ℕ
  log_arity = get_or arities k 0

  abbrev height : ℕ
  height = get_or (heights_after arities top) k 0

  abbrev word_here : List E
  word_here = get_or (words F fold inputs arities betas top first) k []

  long : length word_here ≡ 2 ^ (height + log_arity)
  long = length_of_word F fold inputs arities betas top first k drawn whole some_left
      ∙ ap (λ m. 2 ^ m) (sym (height_lowered arities top k within some_left))

  pub row_inside : (q : ℕ) → q < 2 ^ top → index_into arities q k / 2 ^ log_arity < 2 ^ height
  row_inside q b =
      let lowered : height + log_arity ≡ height_before arities top k =
      height_lowered arities top k within some_left in
      let i_below : index_into arities q k < 2 ^ (height + log_arity) =
      subst (λ m. index_into arities q k < 2 ^ m) (sym lowered)
      (index_below arities top q k within b (omega (arith, some_left))) in
      (let e : height + log_arity - log_arity ≡ height = omega arith in
      subst (λ m. index_into arities q k / 2 ^ log_arity < 2 ^ m) e
      (index_cut (index_into arities q k) (height + log_arity) log_arity i_below (omega arith)))

  module _ (commitment : Com) (datum : Data)
      (keeps : KeepsWord committed commitment_of log_arity word_here commitment datum) where
    pub height_of_datum : length (rows keeps.matrix) ≡ 2 ^ height
    height_of_datum = ap length keeps.rows_of_word
        ∙ height_of_rows log_arity height word_here long

    pub dimensions_of_datum : dimensions keeps.matrix
        ≡ record { width = 2 ^ log_arity; height = 2 ^ height }
    dimensions_of_datum =
        ap₂ (λ w h. record { width = w; height = h }) keeps.width height_of_datum

    row_here : (q : ℕ) → q < 2 ^ top → row_of log_arity keeps.matrix (index_into arities q k)
        ≡ neighbours word_here (index_into arities q k / 2 ^ log_arity) log_arity
    row_here q b = ap (λ rs. get_or rs (index_into arities q k / 2 ^ log_arity) []) keeps.rows_of_word
        ∙ row_is_neighbours log_arity height word_here long
        (index_into arities q k / 2 ^ log_arity) (row_inside q b)

    module _ (siblings : List (List E)) (path : Path)
        (o : OpensRows opens log_arity keeps.matrix (map (λ q. index_into arities q k) ps)
        (commitment_of datum) siblings path) where
      -- what is opened of the datum's rows are the siblings in the word's
      pub siblings_here : siblings
          ≡ map (λ q. siblings_in F fold inputs arities betas top first q k) ps
      siblings_here = o.siblings_of_rows
          ∙ map-map (λ i. remove (row_of log_arity keeps.matrix i) (i % 2 ^ log_arity))
          (λ q. index_into arities q k) ps
          ∙ map_same_in (λ q. remove (row_of log_arity keeps.matrix (index_into arities q k))
          (index_into arities q k % 2 ^ log_arity))
          (λ q. siblings_in F fold inputs arities betas top first q k) ps
          (λ j l. ap (λ row. remove row (index_into arities (get_or ps j 0) k % 2 ^ log_arity))
          (row_here (get_or ps j 0) (below j l)))

      -- and so they open
      pub opened_here : opens commitment (record { width = 2 ^ log_arity; height = 2 ^ height } ∷ [])
          (map (λ q. get_or (row_indices arities q) k 0) ps)
          (map (λ q. neighbours word_here (get_or (row_indices arities q) k 0) log_arity ∷ []) ps)
          path
      opened_here =
          subst (λ sets. opens commitment
          (record { width = 2 ^ log_arity; height = 2 ^ height } ∷ [])
          (map (λ q. get_or (row_indices arities q) k 0) ps) sets path) same_sets
          (subst (λ is. opens commitment
          (record { width = 2 ^ log_arity; height = 2 ^ height } ∷ []) is
          (map (λ i. row_of log_arity keeps.matrix i ∷ []) (map (λ q. index_into arities q k) ps))
          path) (rows_at arities ps k (map (λ q. index_into arities q k) ps) refl some_left)
          (subst (λ d. opens commitment (d ∷ [])
          (map (λ i. i / 2 ^ log_arity) (map (λ q. index_into arities q k) ps))
          (map (λ i. row_of log_arity keeps.matrix i ∷ []) (map (λ q. index_into arities q k) ps))
          path) dimensions_of_datum
          (subst (λ com'. opens com' (dimensions keeps.matrix ∷ [])
          (map (λ i. i / 2 ^ log_arity) (map (λ q. index_into arities q k) ps))
          (map (λ i. row_of log_arity keeps.matrix i ∷ []) (map (λ q. index_into arities q k) ps))
          path) keeps.same o.opened)))
        where
          same_sets : map (λ i. row_of log_arity keeps.matrix i ∷ [])
              (map (λ q. index_into arities q k) ps)
              ≡ map (λ q. neighbours word_here (get_or (row_indices arities q) k 0) log_arity ∷ []) ps
          same_sets =
              map-map (λ i. row_of log_arity keeps.matrix i ∷ []) (λ q. index_into arities q k) ps
              ∙ map_same_in (λ q. row_of log_arity keeps.matrix (index_into arities q k) ∷ [])
              (λ q. neighbours word_here (get_or (row_indices arities q) k 0) log_arity ∷ []) ps
              (λ j l. ap (λ row. row ∷ []) (row_here (get_or ps j 0) (below j l)
              ∙ ap (λ i. neighbours word_here i log_arity)
              (sym (row_index arities (get_or ps j 0) k some_left))))
