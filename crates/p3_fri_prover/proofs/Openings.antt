-- The siblings that a round opens, taken out row by row.
use Rattle.std.proofs.Common.{◌≡◌, ℕ, ◌+◌, ◌/◌, ◌%◌, ◌^◌, ◌<◌, ◌≤◌, ◌≢◌, List, [], ◌∷◌, ◌++◌}
use Rattle.std.proofs.Common.{length, get_or, map, set, max, remove, refl, sym, ap, ap₂, ◌∙◌, arith, subst, pow_pos}
use Rattle.std.proofs.Common.{get_or-set_other}
use Rattle.std.proofs.lemmas.List.{map-append, map-set, length-map, get_or-map}
use Rattle.std.proofs.Math.Nat.{div_self, div-one, mod-lt}
use Rattle.std.specs.declared.vec.Vec.{Vec}
use Rattle.algebra.specs.Nested.{lists, nested}
use Rattle.algebra.specs.Polynomial.{tabulate}
use Rattle.algebra.proofs.Nested.{nested_at}
use Rattle.algebra.proofs.Lists.{tabulate-next, tabulate-equal, head_eq, map-map, map-agree}
use Rattle.p3_matrix.specs.declared.dense.RowMajorMatrix.{RowMajorMatrix}
use Rattle.p3_matrix.specs.Matrix.{rows, matrix_width}
use Rattle.p3_mmcs.specs.Batch.{AreBelow, HavePowerHeights, max_height, dimensions, dimensions_of, opened_rows}
use Rattle.p3_fri_relation.specs.Setting.{Opening}
use Rattle.p3_fri_prover.specs.Openings.{row_of, OpensRows}
use Rattle.p3_fri_prover.proofs.Queries.{tabulate-map}
use Rattle.p3_matrix.proofs.Widths.{row_width}

module _ {E A B : Type 0} (start : List (Vec (Vec E A) B)) (indices : List ℕ) (arity : ℕ) where
  abbrev pub siblings_at_place : ℕ → List E
  siblings_at_place j =
      remove (get_or (get_or (nested start) j []) 0 []) (get_or indices j 0 % arity)

  pub siblings_more : (before after : List (Vec E A)) (x : Vec E A) (row : Vec (Vec E A) B)
      (opened : List (Vec (Vec E A) B)) (j : ℕ)
      → after ≡ before ++ x ∷ [] → lists before ≡ tabulate j siblings_at_place
      → j < length opened → row ≡ get_or opened j row
      → get_or (nested opened) j [] ≡ get_or (nested start) j []
      → x.items ≡ remove (get_or (lists row.items) 0 []) (get_or indices j 0 % arity)
      → lists after ≡ tabulate (j + 1) siblings_at_place
  siblings_more before after x row opened j e taken l is same own =
      ap lists e ∙ map-append (λ (v : Vec E A). v.items) before (x ∷ [])
      ∙ ap₂ (λ xs y. xs ++ y ∷ []) taken
      (own ∙ ap (λ r. remove (get_or r 0 []) (get_or indices j 0 % arity))
      (ap (λ (v : Vec (Vec E A) B). lists v.items) is ∙ sym (nested_at opened j row l) ∙ same))
      ∙ sym (tabulate-next j siblings_at_place)

pub others_kept : {E A B : Type 0} (start opened : List (Vec (Vec E A) B)) (row : Vec (Vec E A) B)
    (j : ℕ)
    → ((k : ℕ) → j ≤ k → get_or (nested opened) k [] ≡ get_or (nested start) k [])
    → (k : ℕ) → j + 1 ≤ k → get_or (nested (set opened j row)) k [] ≡ get_or (nested start) k []
others_kept {E} {A} {B} start opened row j others k l =
    let differ : k ≢ j = omega arith in
    ap (λ xs. get_or xs k []) (map-set (λ (v : Vec (Vec E A) B). lists v.items) opened j row)
    ∙ (rw get_or-set_other (others k (omega (arith, l))))

module _ {E : Type 0} (matrix : RowMajorMatrix E) (some : 0 < length (rows matrix)) where
  -- an index below the height opens its own row of one matrix
  own_row : (i : ℕ) → opened_rows (matrix ∷ []) i ≡ get_or (rows matrix) i [] ∷ []
  own_row i =
      let tall : max (length (rows matrix)) 1 ≡ length (rows matrix) = omega arith in
      ap (λ n. get_or (rows matrix) (i / (n / length (rows matrix))) [] ∷ []) tall
      ∙ ap (λ n. get_or (rows matrix) (i / n) [] ∷ []) (div_self some)
      ∙ ap (λ n. get_or (rows matrix) n [] ∷ []) (div-one i)

-- a round's opening of one matrix in rows of `2^a` entries
module _ {E : Type 0} (a : ℕ) (matrix : RowMajorMatrix E) (matrices : List (RowMajorMatrix E))
    (indices own : List ℕ) (opened : List (List (List E))) (only : matrices ≡ matrix ∷ [])
    (some : 0 < length (rows matrix)) (width : matrix_width matrix ≡ 2 ^ a)
    (is_own : own ≡ map (λ i. i / 2 ^ a) indices)
    (is_opened : opened ≡ map (opened_rows matrices) own) where
  own_rows : opened ≡ map (λ i. row_of a matrix i ∷ []) indices
  own_rows = is_opened ∙ ap (λ ms. map (opened_rows ms) own) only
      ∙ ap (λ xs. map (opened_rows (matrix ∷ [])) xs) is_own
      ∙ map-map (opened_rows (matrix ∷ [])) (λ i. i / 2 ^ a) indices
      ∙ map-agree (λ i. opened_rows (matrix ∷ []) (i / 2 ^ a)) (λ i. row_of a matrix i ∷ [])
      (λ i. own_row matrix some (i / 2 ^ a)) indices

  own_rows_at : (j : ℕ) → j < length indices
      → get_or opened j [] ≡ row_of a matrix (get_or indices j 0) ∷ []
  own_rows_at j l = ap (λ sets. get_or sets j []) own_rows
      ∙ get_or-map (λ i. row_of a matrix i ∷ []) indices j 0 [] l

  pub some_row_at : (j : ℕ) → j < length indices → 0 < length (get_or opened j [])
  some_row_at j l = rw (own_rows_at j l) (omega arith)

  pub place_within : (below : AreBelow (max_height (dimensions_of matrices)) own) (arity j : ℕ)
      → arity ≡ 2 ^ a → j < length indices
      → get_or indices j 0 % arity < length (get_or (get_or opened j []) 0 [])
  place_within below arity j e l =
      let i = get_or indices j 0 in
      let tall : max_height (dimensions_of matrices) ≡ length (rows matrix) =
      ap (λ ms. max_height (dimensions_of ms)) only ∙ greatest in
      let many : j < length own =
      omega (arith, l, ap length is_own, length-map indices (λ i. i / 2 ^ a)) in
      let at : get_or own j 0 ≡ i / 2 ^ a = ap (λ xs. get_or xs j 0) is_own
      ∙ get_or-map (λ i. i / 2 ^ a) indices j 0 0 l in
      let row : i / 2 ^ a < length (rows matrix) = omega (arith, below j 0 many, at, tall) in
      rw (own_rows_at j l, row_width matrix (i / 2 ^ a) row, width, e) (mod-lt i (pow_pos a))
    where
      greatest : max (length (rows matrix)) 1 ≡ length (rows matrix)
      greatest = omega (arith, some)

  pub opens_rows : {Com Path : Type 0} (opens : Opening E Com Path) (arity : ℕ) (commitment : Com)
      (siblings : List (List E)) (path : Path) → arity ≡ 2 ^ a
      → siblings ≡ tabulate (length indices) (λ j.
      remove (get_or (get_or opened j []) 0 []) (get_or indices j 0 % arity))
      → opens commitment (dimensions_of matrices) own opened path
      → OpensRows opens a matrix indices commitment siblings path
  opens_rows opens arity commitment siblings path e s o = record {
    siblings_of_rows = s ∙ tabulate-equal (length indices)
        (λ j. remove (get_or (get_or opened j []) 0 []) (get_or indices j 0 % arity))
        (λ j. remove (row_of a matrix (get_or indices j 0)) (get_or indices j 0 % 2 ^ a))
        (λ j l. ap₂ (λ r n. remove (get_or r 0 []) (get_or indices j 0 % n)) (own_rows_at j l) e)
        ∙ tabulate-map (λ i. remove (row_of a matrix i) (i % 2 ^ a)) indices 0 (length indices) refl;
    opened = subst (λ sets. opens commitment (dimensions matrix ∷ [])
        (map (λ i. i / 2 ^ a) indices) sets path) own_rows
        (subst (λ xs. opens commitment (dimensions matrix ∷ []) xs opened path) is_own
        (subst (λ ms. opens commitment (dimensions_of ms) own opened path) only o));
  }

pub some_rows : {E : Type 0} (matrices : List (RowMajorMatrix E)) (matrix : RowMajorMatrix E)
    → matrices ≡ matrix ∷ [] → HavePowerHeights (dimensions_of matrices) → 0 < length (rows matrix)
some_rows matrices matrix only powers =
    let p = subst (λ ms. HavePowerHeights (dimensions_of ms)) only powers 0 (dimensions matrix)
    (omega arith) in
    omega (arith, p.1, pow_pos p.0)

-- two that are each the only one are the same
pub same_only : {E : Type 0} (matrices : List (RowMajorMatrix E)) (x y : RowMajorMatrix E)
    → matrices ≡ x ∷ [] → matrices ≡ y ∷ [] → x ≡ y
same_only matrices x y e f = head_eq (sym e ∙ f)
