-- Trees in vectors, seen as trees.
use Rattle.std.proofs.Common.{◌≡◌, ℕ, zero, suc, ◌<◌, List, [], ◌∷◌, Vec, Global, length, get_or, map, Bool, true, false, refl, ap, arith, rules}
use Rattle.std.proofs.Common.{◌≤◌, ◌^◌}
use Rattle.std.proofs.Math.Nat.{pow-le-pow_right}
use Rattle.std.proofs.lemmas.Nat.{pow_pos}
use Rattle.p3_converse.specs.Trees.{Tree, leaf, node, Subtrees, no_subtrees, subtree, subtrees, tree_of, betas_of, leaf_length, first_leaf_length}
use Rattle.p3_converse.specs.Trees.{HasPaths, EachHasPaths, HasLeaves, EachHasLeaves, beta_count, HasBetas, EachHasBetas}
use Rattle.p3_converse.specs.declared.tree.FoldTree.{FoldTree, Leaf, Node, the_lemmas}

-- the trees beside the challenges
abbrev pub views : {A : Type 0} → List (A × FoldTree A) → List (A × Tree A)
views ts = map (λ t. (t.0, tree_of t.1)) ts

pub tree_of-Leaf : {A : Type 0} (v : Vec A Global) → tree_of (Leaf v) ≡ leaf v.items
tree_of-Leaf v = search (rules, the_lemmas)

pub tree_of-Node : {A : Type 0} (v : Vec (A × FoldTree A) Global) → tree_of (Node v) ≡ node (subtrees (views v.items))
tree_of-Node v = search (rules, the_lemmas)

pub betas-views : {A : Type 0} (ts : List (A × FoldTree A)) → betas_of (subtrees (views ts)) ≡ map (λ t. t.0) ts
betas-views [] = refl
betas-views (t ∷ ts) = ap (λ bs. t.0 ∷ bs) (betas-views ts)

-- of each of the trees
pub paths-at : {A : Type 0} (n : ℕ) (ts : List (A × FoldTree A)) → EachHasPaths n (subtrees (views ts)) → (k : ℕ) (d : A × FoldTree A) → k < length ts → HasPaths n (tree_of (get_or ts k d).1)
paths-at n [] e k d l = absurd (omega (arith, l))
paths-at n (t ∷ ts) e zero d l = e.0
paths-at n (t ∷ ts) e (suc k) d l = paths-at n ts e.1 k d (omega (arith, l))

pub leaves-at : {A : Type 0} (n : ℕ) (ts : List (A × FoldTree A)) → EachHasLeaves n (subtrees (views ts)) → (k : ℕ) (d : A × FoldTree A) → k < length ts → HasLeaves n (tree_of (get_or ts k d).1)
leaves-at n [] e k d l = absurd (omega (arith, l))
leaves-at n (t ∷ ts) e zero d l = e.0
leaves-at n (t ∷ ts) e (suc k) d l = leaves-at n ts e.1 k d (omega (arith, l))

pub betas-at : {A : Type 0} (rounds : List (ℕ × Bool)) (ts : List (A × FoldTree A)) → EachHasBetas rounds (subtrees (views ts)) → (k : ℕ) (d : A × FoldTree A) → k < length ts
    → HasBetas rounds (tree_of (get_or ts k d).1)
betas-at rounds [] e k d l = absurd (omega (arith, l))
betas-at rounds (t ∷ ts) e zero d l = e.0
betas-at rounds (t ∷ ts) e (suc k) d l = betas-at rounds ts e.1 k d (omega (arith, l))

pub beta_count-positive : (round : ℕ × Bool) → 0 < beta_count round
beta_count-positive (a, false) = pow_pos a
beta_count-positive (a, true) = omega arith

-- where all leaves have one length, the first has it
mutual
  pub leaf_length-is : {A : Type 0} (d : ℕ) (rounds : List (ℕ × Bool)) (t : Tree A) → HasLeaves d t → HasBetas rounds t → leaf_length t ≡ d
  leaf_length-is d rounds (leaf p) h b = h
  leaf_length-is d [] (node ts) h b = absurd b
  leaf_length-is d (round ∷ rounds) (node ts) h b = first_leaf_length-is d rounds ts h b.2 (omega (arith, b.0, beta_count-positive round))

  pub first_leaf_length-is : {A : Type 0} (d : ℕ) (rounds : List (ℕ × Bool)) (ts : Subtrees A) → EachHasLeaves d ts → EachHasBetas rounds ts → 0 < length (betas_of ts) → first_leaf_length ts ≡ d
  first_leaf_length-is d rounds no_subtrees h b l = absurd (omega (arith, l))
  first_leaf_length-is d rounds (subtree beta t ts) h b l = leaf_length-is d rounds t h.0 b.0

pub beta_count-large : (a : ℕ) (b : Bool) → 64 ≤ a → 2 ^ 64 ≤ beta_count (a, b)
beta_count-large a false l = pow-le-pow_right {n = 2} (omega arith) {i = 64} {j = a} l
beta_count-large a true l = omega (arith, pow-le-pow_right {n = 2} (omega arith) {i = 64} {j = a} l)
