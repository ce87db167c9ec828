-- A batch of extensions, one after another.
use Rattle.std.proofs.Common.{◌≡◌, ℕ, List, [], ◌∷◌, ◌++◌, length, All, refl, sym, ap, ◌∙◌, arith}
use Rattle.std.specs.List.{AllZip}
use Rattle.std.specs.Int.{IsPowerOfTwo}
use Rattle.std.proofs.lemmas.List.Elements.{All-head, All-tail}
use Rattle.algebra.proofs.Lists.{Each, All_from_each}
use Rattle.p3_mmcs.specs.Batch.{dimensions_of, HavePowerHeights}
use Rattle.p3_matrix.specs.declared.dense.RowMajorMatrix.{RowMajorMatrix}
use Rattle.p3_matrix.specs.Matrix.{rows}

pub in_middle : {A : Type 0} (P : A → Type 0) (ys : List A) (x : A) (rest : List A)
    → All P (ys ++ x ∷ rest) → P x
in_middle P [] x rest h = All-head P x rest h
in_middle P (y ∷ ys) x rest h = in_middle P ys x rest (All-tail P y (ys ++ x ∷ rest) h)

each_power : {A B : Type 0} (R : RowMajorMatrix A → B → Type 0) (ws : List (RowMajorMatrix A)) (es : List B)
    → ((w : RowMajorMatrix A) (e : B) → R w e → IsPowerOfTwo (length (rows w)))
    → AllZip R ws es → Each (λ d. IsPowerOfTwo d.height) (dimensions_of ws)
each_power R [] es p h = tt
each_power R (w ∷ ws) [] p h = absurd h
each_power R (w ∷ ws) (e ∷ es) p h = (p w e h.0, each_power R ws es p h.1)

pub have_powers : {A B : Type 0} (R : RowMajorMatrix A → B → Type 0) (ws : List (RowMajorMatrix A)) (es : List B)
    → ((w : RowMajorMatrix A) (e : B) → R w e → IsPowerOfTwo (length (rows w)))
    → AllZip R ws es → HavePowerHeights (dimensions_of ws)
have_powers R ws es p h = All_from_each (λ d. IsPowerOfTwo d.height) (dimensions_of ws) (each_power R ws es p h)

pub nothing_left : {X : Type 0} (ys rest zs : List X) (n : ℕ) → n ≡ length rest → n ≡ 0 → ys ++ rest ≡ zs → ys ≡ zs
nothing_left ys [] zs n h m e = sym (nil ys) ∙ e
  where
    nil : {X : Type 0} (ys : List X) → ys ++ [] ≡ ys
    nil [] = refl
    nil (y ∷ ys) = ap (λ t. y ∷ t) (nil ys)
nothing_left ys (x ∷ rest) zs n h m e = absurd (omega (arith, h, m))
