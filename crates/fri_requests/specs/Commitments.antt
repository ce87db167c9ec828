-- The commitments of the plain scheme to batches of matrices that records list.
use Rattle.std.specs.Prelude.{◌≡◌, ℕ, ◌^◌, List, map, All}
use Rattle.std.specs.List.{AllZip}
use Rattle.p3_matrix.specs.declared.dense.RowMajorMatrix.{RowMajorMatrix}
use Rattle.p3_mmcs.specs.Batch.{max_height, dimensions_of}
use Rattle.p3_mmcs.specs.Tree.{leaf_at, root_of}
use Rattle.p3_stark_pcs.specs.Evaluations.{HasPolynomials}
use Rattle.p3_fri_openings.specs.Held.{held_in, HoldsWords}
use Rattle.fri_records.specs.declared.records.Batch.{Batch}
use Rattle.fri_statement.specs.Setting.{SchemeFields}
use Rattle.fri_requests.specs.Matrices.{held_listed}

module _ {F E : Type 0} (f : SchemeFields F E) (log_blowup : ℕ) where
  -- a commitment to a batch: the root of the tree over matrices whose columns are the words, over
  -- the evaluation cosets, of the polynomials of the columns that the batch lists
  pub record IsCommitmentTo (commitment : List ℕ) (batch : Batch) : Type 0 where
    pub words : List (RowMajorMatrix F)
    pub low_degree : All (HoldsWords f.relation log_blowup) words
    pub polynomials : AllZip HasPolynomials (map (held_in f.relation log_blowup) words)
        (map (held_listed f) batch.matrices.items)
    pub log_height : ℕ
    pub height : max_height (dimensions_of words) ≡ 2 ^ log_height
    pub root : commitment ≡ root_of (leaf_at f.bytes words) log_height
