-- What is known of rows by those of their numbers, and why there is no key of them.
use Rattle.std.proofs.Common.{◌≡◌, ◌≤◌, ℕ, ◌+◌, ◌^◌, Bool, List, All, length, map, arith}
use Rattle.std.proofs.Common.{slice_index_or, ap, sym, subst, ◌∙◌}
use Rattle.std.proofs.Math.ListN.{get_or-map, length-map}
use Rattle.std.specs.Int.{IsPowerOfTwo}
use Rattle.p3_matrix.specs.declared.dense.RowMajorMatrix.{RowMajorMatrix}
use Rattle.p3_matrix.specs.Matrix.{rows as matrix_rows}
use Rattle.p3_stark_pcs.specs.Scheme.{StarkScheme}
use Rattle.p3_uni_stark_verifier.specs.Chunks.{hiding_bits}
use Rattle.p3_uni_stark_prover.proofs.Fitting.{same_power}
use Rattle.p3_uni_stark_system.specs.Keys.{HaveRoom, MatrixFault, ColumnsFault, PreprocessingFault}
use Rattle.p3_uni_stark_system.specs.declared.error.PreprocessingError.{PreprocessingError}
use Rattle.p3_uni_stark_system.specs.declared.error.PreprocessingError.TheVariants as fault

-- rows are as wide as those of their numbers
pub widths_of : {V : Type 0} (f : V → ℕ) (width : ℕ) (rows : List (List V))
    (numbers : List (List ℕ)) → map (map f) rows ≡ numbers
    → All (λ row. length row ≡ width) numbers → All (λ row. length row ≡ width) rows
widths_of f width rows numbers same all = λ k d below.
    let mapped = subst (λ (xs : List (List ℕ)). All (λ row. length row ≡ width) xs) (sym same) all in
    let count = length-map rows (map f) in
    sym (length-map (slice_index_or rows k d) f) ∙ ap length (sym (get_or-map (map f) rows k d))
    ∙ mapped k (map f d) (omega (arith, count, below))

-- the points of a subgroup, by the names that a call has for them
pub subgroup_size : (zk hides : Bool) (k doubled log_size : ℕ) → log_size ≡ doubled
    → doubled ≡ k + hiding_bits hides → hides ≡ zk → log_size ≡ k + hiding_bits zk
subgroup_size zk hides k doubled log_size a b e =
    a ∙ b ∙ ap (λ z. k + hiding_bits z) e

module _ (zk : Bool) (two_adicity log_blowup : ℕ) (rows : List (List ℕ)) (n : ℕ)
    (count : length rows ≡ n) where
  pub no_power : ¬ IsPowerOfTwo n → ¬ HaveRoom zk two_adicity log_blowup rows
  no_power fails h = fails (h.log_height, sym count ∙ h.height)

  pub no_room : (k doubled : ℕ) → 2 ^ k ≡ n → doubled ≡ k + hiding_bits zk
      → ¬ (doubled + log_blowup ≤ two_adicity) → ¬ HaveRoom zk two_adicity log_blowup rows
  no_room k doubled power are fails h =
      let same = same_power h.log_height k n (sym count ∙ h.height) (sym power) in
      fails (subst (λ m. m + log_blowup ≤ two_adicity) (sym are)
      (subst (λ m. m + hiding_bits zk + log_blowup ≤ two_adicity) same h.room))

module _ {E V Dom D ProverError : Type 0} (t : StarkScheme E V Dom D ProverError) (zk : Bool)
    (IsSubgroup : ℕ → Dom → Type 0) (k : ℕ) (columns : RowMajorMatrix V) (rows : List (List V))
    (are : matrix_rows columns ≡ rows) where
  pub columns_fault : (e : PreprocessingError ProverError) → MatrixFault t zk IsSubgroup k columns e
      → ColumnsFault t zk IsSubgroup k rows e
  columns_fault (fault.Refused e) h = (columns, are, h)
  columns_fault fault.OutOfMemory h = tt
  columns_fault fault.Width h = absurd h
  columns_fault fault.Height h = absurd h
  columns_fault (fault.Element f) h = absurd h

  pub numbers_fault : (order two_adicity log_blowup : ℕ) (canonical : V → ℕ) (width : ℕ)
      (numbers : List (List ℕ)) → map (map canonical) rows ≡ numbers
      → (e : PreprocessingError ProverError) → MatrixFault t zk IsSubgroup k columns e
      → PreprocessingFault t zk IsSubgroup order two_adicity log_blowup canonical width numbers e
  numbers_fault order two_adicity log_blowup canonical width numbers same (fault.Refused e) h = record {
    log_height = k;
    rows = rows;
    are_numbers = same;
    refused = (columns, are, h);
  }
  numbers_fault order two_adicity log_blowup canonical width numbers same fault.OutOfMemory h = tt
  numbers_fault order two_adicity log_blowup canonical width numbers same fault.Width h = absurd h
  numbers_fault order two_adicity log_blowup canonical width numbers same fault.Height h = absurd h
  numbers_fault order two_adicity log_blowup canonical width numbers same (fault.Element f) h =
      absurd h
