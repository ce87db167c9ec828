-- What each refusal says of the index, the rows and the path that it is about.
use Rattle.std.specs.Prelude.{◌≢◌, ℕ, ◌^◌, List, length}
use Rattle.p3_matrix.specs.declared.Dimensions.{Dimensions}
use Rattle.p3_mmcs.specs.declared.sha256_mmcs.error.Sha256MmcsError.{Sha256MmcsError}
use Rattle.p3_mmcs.specs.declared.sha256_mmcs.error.Sha256MmcsError.TheVariants.{QueryCount}
use Rattle.p3_mmcs.specs.declared.sha256_mmcs.error.Sha256MmcsError.TheVariants.{MatrixCount}
use Rattle.p3_mmcs.specs.declared.sha256_mmcs.error.Sha256MmcsError.TheVariants.{RowWidth}
use Rattle.p3_mmcs.specs.declared.sha256_mmcs.error.Sha256MmcsError.TheVariants.{PathLength}
use Rattle.p3_mmcs.specs.declared.sha256_mmcs.error.Sha256MmcsError.TheVariants.{RootMismatch}
use Rattle.p3_mmcs.specs.Batch.{max_height, SomeWidthDiffers}
use Rattle.p3_mmcs.specs.Tree.{leaf, climb}

-- the fault stands at this index (the number of queries is no fault of one of them)
abbrev pub HasFault : {T : Type 0} → (T → List ℕ) → List ℕ → List Dimensions → Sha256MmcsError → ℕ
    → List (List T) → List (List ℕ) → Type 0
HasFault bytes commitment dims QueryCount index set path = ⊥
HasFault bytes commitment dims MatrixCount index set path = length set ≢ length dims
HasFault bytes commitment dims RowWidth index set path = SomeWidthDiffers dims set
HasFault bytes commitment dims PathLength index set path = 2 ^ length path ≢ max_height dims
HasFault bytes commitment dims RootMismatch index set path =
    climb index (leaf bytes set) path ≢ commitment
