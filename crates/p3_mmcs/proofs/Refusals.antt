-- A fault and an opening exclude each other.
use Rattle.std.proofs.Common.{◌≡◌, ℕ, ◌^◌, List, true, false, refl, ap, ◌∙◌}
use Rattle.std.specs.Prelude.{MatchResult, Result, Ok, Err, is_err}
use Rattle.p3_matrix.specs.declared.Dimensions.{Dimensions}
use Rattle.p3_mmcs.specs.declared.sha256_mmcs.error.Sha256MmcsError.{Sha256MmcsError}
use Rattle.p3_mmcs.specs.declared.sha256_mmcs.error.Sha256MmcsError.TheVariants.{QueryCount}
use Rattle.p3_mmcs.specs.declared.sha256_mmcs.error.Sha256MmcsError.TheVariants.{MatrixCount}
use Rattle.p3_mmcs.specs.declared.sha256_mmcs.error.Sha256MmcsError.TheVariants.{RowWidth}
use Rattle.p3_mmcs.specs.declared.sha256_mmcs.error.Sha256MmcsError.TheVariants.{PathLength}
use Rattle.p3_mmcs.specs.declared.sha256_mmcs.error.Sha256MmcsError.TheVariants.{RootMismatch}
use Rattle.p3_mmcs.specs.Batch.{max_height}
use Rattle.p3_mmcs.specs.Shape.{IsShaped}
use Rattle.p3_mmcs.specs.Tree.{leaf, climb, OpensAt, Opens, SomeQuery}
use Rattle.p3_mmcs.specs.Faults.{HasFault}
use Rattle.p3_mmcs.proofs.Shapes.{rows_count, widths_differ}
use Rattle.p3_mmcs.proofs.Queries.{some_refutes}

module _ {T : Type 0} (bytes : T → List ℕ) (commitment : List ℕ) (dims : List Dimensions) where
  pub fault_refutes : (fault : Sha256MmcsError) (index : ℕ) (set : List (List T)) (path : List (List ℕ))
      → HasFault bytes commitment dims fault index set path
      → OpensAt bytes commitment dims index set path → ⊥
  fault_refutes QueryCount index set path f o = f
  fault_refutes MatrixCount index set path f o = f (rows_count dims set o.widths)
  fault_refutes RowWidth index set path f o = widths_differ dims set o.widths f
  fault_refutes PathLength index set path f o = f o.levels
  fault_refutes RootMismatch index set path f o = f o.root

  pub some_fault_refutes : (fault : Sha256MmcsError) (indices : List ℕ)
      (sets : List (List (List T))) (paths : List (List (List ℕ)))
      → SomeQuery (HasFault bytes commitment dims fault) indices sets paths
      → Opens bytes commitment dims indices sets paths → ⊥
  some_fault_refutes fault =
      some_refutes (HasFault bytes commitment dims fault) (OpensAt bytes commitment dims)
      (fault_refutes fault)

-- the shape is right exactly where no fault is answered
module _ {T : Type 0} (bytes : T → List ℕ) (dims : List Dimensions) (log_height : ℕ)
    (set : List (List T)) (path : List (List ℕ)) where
  abbrev pub IsShapeVerdict : Result Unit Sha256MmcsError → Type 0
  IsShapeVerdict verdict = MatchResult verdict (λ _. IsShaped dims log_height set path) (λ fault.
      (commitment : List ℕ) (index : ℕ) → HasFault bytes commitment dims fault index set path)

  pub shape_of : (verdict : Result Unit Sha256MmcsError) → IsShapeVerdict verdict
      → false ≡ is_err verdict → IsShaped dims log_height set path
  shape_of (Ok u) shaped e = shaped
  shape_of (Err fault) stands e = cc

  pub shape_refuted : (verdict : Result Unit Sha256MmcsError) → IsShapeVerdict verdict
      → true ≡ is_err verdict → 2 ^ log_height ≡ max_height dims
      → IsShaped dims log_height set path → ⊥
  shape_refuted (Ok u) shaped e greatest here = cc
  shape_refuted (Err fault) stands e greatest here =
      let root = climb 0 (leaf bytes set) path in
      fault_refutes bytes root dims fault 0 set path (stands root 0)
      record {
        widths = here.widths;
        levels = ap (λ n. 2 ^ n) here.levels ∙ greatest;
        root = refl;
      }
