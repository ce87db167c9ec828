-- Lists of two.
use Rattle.std.proofs.Common.{◌≡◌, ◌^◌, ℕ, [], ◌∷◌, length, All}
use Rattle.std.specs.Int.{IsPowerOfTwo}
use Rattle.std.proofs.lemmas.List.Elements.{All-nil, All-cons}
use Rattle.p3_matrix.specs.declared.dense.RowMajorMatrix.{RowMajorMatrix}
use Rattle.p3_matrix.specs.Matrix.{rows}
use Rattle.p3_mmcs.specs.Batch.{HavePowerHeights, dimensions_of}

pub both : {A : Type 0} (P : A → Type 0) (a b : A) → P a → P b → All P (a ∷ b ∷ [])
both P a b x y = All-cons P a (b ∷ []) x (All-cons P b [] y (All-nil P))

pub power_heights : {T : Type 0} (a b : RowMajorMatrix T) (i j : ℕ) → length (rows a) ≡ 2 ^ i
    → length (rows b) ≡ 2 ^ j → HavePowerHeights (dimensions_of (a ∷ b ∷ []))
power_heights a b i j first second =
    both (λ d. IsPowerOfTwo d.height) _ _ (i, first) (j, second)
