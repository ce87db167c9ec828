-- Trees of challenges, with a polynomial at each leaf.
use Rattle.std.specs.Prelude.{◌≡◌, ℕ, zero, suc, ◌+◌, ◌^◌, ⊤, List, [], ◌∷◌, length}
use Rattle.std.specs.Prelude.{Bool, true, false}
use Rattle.algebra.specs.Interpolation.{AreDistinct}
use Rattle.p3_converse.specs.declared.tree.FoldTree.{FoldTree, fold-FoldTree}
use Rattle.p3_converse.specs.declared.tree.FoldTree.TheOpen.{FoldTree-F}

mutual
  -- a polynomial, or challenges with a tree beside each
  pub data Tree (A : Type 0) : Type 0 where
    leaf : List A → Tree A
    node : Subtrees A → Tree A

  pub data Subtrees (A : Type 0) : Type 0 where
    no_subtrees : Subtrees A
    subtree : (beta : A) → Tree A → Subtrees A → Subtrees A

abbrev pub subtrees : {A : Type 0} → List (A × Tree A) → Subtrees A
subtrees [] = no_subtrees
subtrees (t ∷ ts) = subtree t.0 t.1 (subtrees ts)

-- one level, with each tree inside already seen so
abbrev pub view_step : {A : Type 0} → FoldTree-F A (Tree A) → Tree A
view_step (FoldTree-F.Leaf v) = leaf v.items
view_step (FoldTree-F.Node v) = node (subtrees v.items)

-- the tree of a `FoldTree`
abbrev pub tree_of : {A : Type 0} → FoldTree A → Tree A
tree_of {A} = fold-FoldTree A (Tree A) view_step

-- the challenges of a node
abbrev pub betas_of : {A : Type 0} → Subtrees A → List A
betas_of no_subtrees = []
betas_of (subtree beta t ts) = beta ∷ betas_of ts

-- polynomials beside challenges, as leaves
abbrev pub leaves_beside : {A : Type 0} → List A → List (List A) → Subtrees A
leaves_beside [] polys = no_subtrees
leaves_beside (beta ∷ betas) [] = no_subtrees
leaves_beside (beta ∷ betas) (p ∷ polys) = subtree beta (leaf p) (leaves_beside betas polys)

-- the tree of one round
abbrev pub one_round : {A : Type 0} → List A → List (List A) → Tree A
one_round betas polys = node (leaves_beside betas polys)

-- the length of the first leaf, where all have one length
abbrev mutual
  pub leaf_length : {A : Type 0} → Tree A → ℕ
  leaf_length (leaf p) = length p
  leaf_length (node ts) = first_leaf_length ts

  pub first_leaf_length : {A : Type 0} → Subtrees A → ℕ
  first_leaf_length no_subtrees = 0
  first_leaf_length (subtree beta t ts) = leaf_length t

-- each path from the root to a leaf has so many nodes
abbrev mutual
  pub HasPaths : {A : Type 0} → ℕ → Tree A → Type 0
  HasPaths zero (leaf p) = ⊤
  HasPaths (suc n) (leaf p) = ⊥
  HasPaths zero (node ts) = ⊥
  HasPaths (suc n) (node ts) = EachHasPaths n ts

  pub EachHasPaths : {A : Type 0} → ℕ → Subtrees A → Type 0
  EachHasPaths n no_subtrees = ⊤
  EachHasPaths n (subtree beta t ts) = HasPaths n t × EachHasPaths n ts

-- each leaf has this length
abbrev mutual
  pub HasLeaves : {A : Type 0} → ℕ → Tree A → Type 0
  HasLeaves d (leaf p) = length p ≡ d
  HasLeaves d (node ts) = EachHasLeaves d ts

  pub EachHasLeaves : {A : Type 0} → ℕ → Subtrees A → Type 0
  EachHasLeaves d no_subtrees = ⊤
  EachHasLeaves d (subtree beta t ts) = HasLeaves d t × EachHasLeaves d ts

-- a round is its log arity and whether an input is rolled in after it: how many challenges it takes
-- to undo it
abbrev pub beta_count : ℕ × Bool → ℕ
beta_count (a, false) = 2 ^ a
beta_count (a, true) = 2 ^ a + 1

-- each node has as many challenges as its round takes, no two of them equal
abbrev mutual
  pub HasBetas : {A : Type 0} → List (ℕ × Bool) → Tree A → Type 0
  HasBetas rounds (leaf p) = ⊤
  HasBetas [] (node ts) = ⊥
  HasBetas (round ∷ rounds) (node ts) =
      (length (betas_of ts) ≡ beta_count round) × AreDistinct (betas_of ts) × EachHasBetas rounds ts

  pub EachHasBetas : {A : Type 0} → List (ℕ × Bool) → Subtrees A → Type 0
  EachHasBetas rounds no_subtrees = ⊤
  EachHasBetas rounds (subtree beta t ts) = HasBetas rounds t × EachHasBetas rounds ts
