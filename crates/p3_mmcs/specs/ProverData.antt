-- What contracts see of the data that the committing side keeps.
use Rattle.std.specs.Prelude.{ℕ, List}
use Rattle.p3_field_core.specs.declared.element_bytes.ElementBytes.{Ghosts}
use Rattle.p3_matrix.specs.declared.Dimensions.{Dimensions}
use Rattle.p3_matrix.specs.declared.dense.RowMajorMatrix.{RowMajorMatrix}
use Rattle.p3_mmcs.specs.declared.sha256_mmcs.prover_data.Sha256ProverData.{Sha256ProverData}
use Rattle.p3_mmcs.specs.Batch.{dimensions_of}
use Rattle.p3_mmcs.specs.Tree.{leaf_at, root_of}

module _ {T : Type 0} {G : Ghosts T} where
  -- the committed matrices
  abbrev pub matrices_of : Sha256ProverData T G → List (RowMajorMatrix T)
  matrices_of d = d.matrices.items

  -- their dimensions
  abbrev pub sizes_of : Sha256ProverData T G → List Dimensions
  sizes_of d = dimensions_of (matrices_of d)

  -- the root of the tree over them
  abbrev pub root_over : Sha256ProverData T G → List ℕ
  root_over d = root_of (leaf_at G.bytes (matrices_of d)) d.log_height
