-- Tests of each tree of a node, one after another.
use Rattle.std.proofs.Common.{◌≡◌, ◌↔◌, ℕ, zero, suc, ◌+◌, ◌-◌, ◌==◌, ◌<◌, ◌≤◌, List, [], ◌∷◌, Bool, false, Vec, Global, length, get_or, drop, map, subst, sym, ap, ◌∙◌, arith}
use Rattle.std.specs.Prelude.{slice_range}
use Rattle.std.proofs.lemmas.List.{drop_more, drop_all, take_all}
use Rattle.algebra.specs.Interpolation.{AreDistinct}
use Rattle.p3_converse.specs.Trees.{Tree, Subtrees, no_subtrees, subtree, subtrees, node, tree_of, betas_of, beta_count, HasBetas, EachHasBetas}
use Rattle.p3_converse.specs.declared.tree.FoldTree.{FoldTree, Node}
use Rattle.p3_converse.proofs.Trees.{views, tree_of-Node, betas-views}
use Rattle.p3_converse.proofs.Nodes.{first_round}

module _ {A : Type 0} (P : Tree A → Type 0) (Each : Subtrees A → Type 0) (apart : (b : A) (t : Tree A) (ts : Subtrees A) → Each (subtree b t ts) → P t × Each ts)
    (join : (b : A) (t : Tree A) (ts : Subtrees A) → P t → Each ts → Each (subtree b t ts)) (trees : List (A × FoldTree A)) where
  -- so far each was right
  abbrev pub SoFar : ℕ → Type 0
  SoFar k = Each (subtrees (views (drop k trees))) ↔ Each (subtrees (views trees))

  next : (k : ℕ) (x : A × FoldTree A) → k < length trees → x ≡ get_or trees k x → subtrees (views (drop k trees)) ≡ subtree x.0 (tree_of x.1) (subtrees (views (drop (k + 1) trees)))
  next k x l e = ap (λ ts. subtrees (views ts)) (drop_more trees k x l ∙ ap (λ y. y ∷ drop (k + 1) trees) (sym e))

  pub one_fails : (k : ℕ) (x : A × FoldTree A) → k < length trees → x ≡ get_or trees k x → SoFar k → ¬ P (tree_of x.1) → ¬ Each (subtrees (views trees))
  one_fails k x l e here failed all = failed (apart x.0 (tree_of x.1) (subtrees (views (drop (k + 1) trees))) (subst Each (next k x l e) (here.1 all))).0

  pub one_holds : (k : ℕ) (x : A × FoldTree A) → k < length trees → x ≡ get_or trees k x → SoFar k → P (tree_of x.1) → SoFar (k + 1)
  one_holds k x l e here held = (
    λ rest. here.0 (subst Each (sym (next k x l e)) (join x.0 (tree_of x.1) (subtrees (views (drop (k + 1) trees))) held rest)),
    λ all. (apart x.0 (tree_of x.1) (subtrees (views (drop (k + 1) trees))) (subst Each (next k x l e) (here.1 all))).1,
  )

  pub all_hold : (k : ℕ) → length trees ≤ k → Each no_subtrees → SoFar k → Each (subtrees (views trees))
  all_hold k l none here = here.0 (subst Each (sym (ap (λ ts. subtrees (views ts)) (drop_all k trees l))) none)

pub not_empty : (n : ℕ) → (n == 0) ≡ false → 0 < n
not_empty zero e = absurd (cc)
not_empty (suc n) e = omega arith

pub rounds_split : (rounds : List (ℕ × Bool)) → 0 < length rounds → rounds ≡ first_round rounds ∷ slice_range rounds 1 (length rounds)
rounds_split [] l = absurd (omega (arith, l))
rounds_split (r ∷ rs) l = ap (λ ks. r ∷ ks) (sym (take_all (suc (length rs) - 1) rs (omega arith)))

-- the conditions of a node, for its challenges and for each of its trees
module _ {A : Type 0} (rounds : List (ℕ × Bool)) (tree : FoldTree A) (v : Vec (A × FoldTree A) Global) (trees : List (A × FoldTree A)) (betas : List A)
    (is : tree ≡ Node v) (same : trees ≡ v.items) (eb : betas ≡ map (λ t. t.0) trees) (some : 0 < length rounds) where
  abbrev later : List (ℕ × Bool)
  later = slice_range rounds 1 (length rounds)

  seen : tree_of tree ≡ node (subtrees (views trees))
  seen = ap tree_of is ∙ tree_of-Node v ∙ ap (λ ts. node (subtrees (views ts))) (sym same)

  its_betas : betas_of (subtrees (views trees)) ≡ betas
  its_betas = betas-views trees ∙ sym eb

  pub challenges_open : HasBetas rounds (tree_of tree) → (length betas ≡ beta_count (first_round rounds)) × AreDistinct betas × EachHasBetas later (subtrees (views trees))
  challenges_open h =
      let found = subst (λ t. HasBetas (first_round rounds ∷ later) t) seen (subst (λ rs. HasBetas rs (tree_of tree)) (rounds_split rounds some) h) in
      (subst (λ bs. length bs ≡ beta_count (first_round rounds)) its_betas found.0, subst AreDistinct its_betas found.1, found.2)

  pub challenges_close : length betas ≡ beta_count (first_round rounds) → AreDistinct betas → EachHasBetas later (subtrees (views trees)) → HasBetas rounds (tree_of tree)
  challenges_close n distinct each =
      subst (λ rs. HasBetas rs (tree_of tree)) (sym (rounds_split rounds some))
      (subst (λ t. HasBetas (first_round rounds ∷ later) t) (sym seen) (subst (λ bs. length bs ≡ beta_count (first_round rounds)) (sym its_betas) n, subst AreDistinct (sym its_betas) distinct, each))
