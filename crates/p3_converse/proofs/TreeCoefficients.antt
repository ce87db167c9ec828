-- The coefficients behind a node, from those behind its trees.
use Rattle.std.proofs.Common.{◌≡◌, ℕ, ◌+◌, ◌*◌, ◌^◌, ◌<◌, List, [], ◌∷◌, ◌++◌, Vec, Global, length, get_or, take, map, Bool, refl, sym, ap, ap₂, ◌∙◌}
use Rattle.std.proofs.lemmas.List.{map-append}
use Rattle.algebra.specs.Field.{FieldOps}
use Rattle.algebra.specs.Nested.{lists}
use Rattle.p3_converse.specs.Branches.{log_sum}
use Rattle.p3_converse.specs.Trees.{Tree, node, subtrees, tree_of, betas_of}
use Rattle.p3_converse.specs.TreeCoefficients.{round_word, round_inputs, tree_word, tree_words, tree_inputs, last_inputs}
use Rattle.p3_converse.specs.Unfolding.{common_length}
use Rattle.p3_converse.specs.declared.tree.FoldTree.{FoldTree, Node}
use Rattle.p3_converse.proofs.Trees.{views, tree_of-Node, betas-views}
use Rattle.p3_converse.proofs.Nodes.{first_round, views-more}

module _ {A : Type 0} (F : FieldOps A) (d : ℕ) (rounds : List (ℕ × Bool)) where
  tree_words-append : (ts : List (A × Tree A)) (t : A × Tree A) → tree_words F d rounds (subtrees (ts ++ t ∷ [])) ≡ tree_words F d rounds (subtrees ts) ++ tree_word F d rounds t.1 ∷ []
  tree_words-append [] t = refl
  tree_words-append (u ∷ us) t = ap (λ ws. tree_word F d rounds u.1 ∷ ws) (tree_words-append us t)

  last_inputs-append : (given : List (List A)) (ts : List (A × Tree A)) (t : A × Tree A) → last_inputs F d rounds given (subtrees (ts ++ t ∷ [])) ≡ tree_inputs F d rounds t.1
  last_inputs-append given [] t = refl
  last_inputs-append given (u ∷ us) t = last_inputs-append (tree_inputs F d rounds u.1) us t

  module _ (trees : List (A × FoldTree A)) (k : ℕ) (t : A × FoldTree A) (l : k < length trees) (e : t ≡ get_or trees k t) where
    -- one word more
    pub words_next : (polys : List (Vec A Global)) (p : Vec A Global) → lists polys ≡ tree_words F d rounds (subtrees (views (take k trees))) → p.items ≡ tree_word F d rounds (tree_of t.1)
        → lists (polys ++ p ∷ []) ≡ tree_words F d rounds (subtrees (views (take (k + 1) trees)))
    words_next polys p here is =
        map-append (λ v. v.items) polys (p ∷ [])
        ∙ ap₂ (λ ws w. ws ++ w ∷ []) here is
        ∙ sym (tree_words-append (views (take k trees)) (t.0, tree_of t.1))
        ∙ ap (λ ts. tree_words F d rounds (subtrees ts)) (sym (views-more trees k t l e))

    -- and its inputs
    pub inputs_next : (inputs : List (List A)) → inputs ≡ tree_inputs F d rounds (tree_of t.1) → inputs ≡ last_inputs F d rounds [] (subtrees (views (take (k + 1) trees)))
    inputs_next inputs is =
        is
        ∙ sym (last_inputs-append [] (views (take k trees)) (t.0, tree_of t.1))
        ∙ ap (λ ts. last_inputs F d rounds [] (subtrees ts)) (sym (views-more trees k t l e))

-- the round of a node undone
module _ {A : Type 0} (F : FieldOps A) (d : ℕ) (rounds later : List (ℕ × Bool)) (tree : FoldTree A) (v : Vec (A × FoldTree A) Global) (trees : List (A × FoldTree A)) (betas : List A) (given : List (Vec A Global))
    (is : tree ≡ Node v) (same : trees ≡ v.items) (split : rounds ≡ first_round rounds ∷ later) (eb : betas ≡ map (λ t. t.0) trees)
    (words : lists given ≡ tree_words F d later (subtrees (views trees))) (common : common_length given ≡ d * 2 ^ log_sum later) where
  seen : tree_of tree ≡ node (subtrees (views trees))
  seen = ap tree_of is ∙ tree_of-Node v ∙ ap (λ ts. node (subtrees (views ts))) (sym same)

  pub node_word : round_word F (first_round rounds) betas (lists given) (common_length given) ≡ tree_word F d rounds (tree_of tree)
  node_word =
      ap₂ (λ bs ps. round_word F (first_round rounds) bs ps (common_length given)) (eb ∙ sym (betas-views trees)) words
      ∙ ap (λ n. round_word F (first_round rounds) (betas_of (subtrees (views trees))) (tree_words F d later (subtrees (views trees))) n) common
      ∙ ap₂ (λ rs t. tree_word F d rs t) (sym split) (sym seen)

  pub node_inputs : (inputs : List (List A)) → inputs ≡ last_inputs F d later [] (subtrees (views trees))
      → round_inputs F (first_round rounds) betas (lists given) (common_length given) inputs ≡ tree_inputs F d rounds (tree_of tree)
  node_inputs inputs ei =
      ap₂ (λ bs ps. round_inputs F (first_round rounds) bs ps (common_length given) inputs) (eb ∙ sym (betas-views trees)) words
      ∙ ap₂ (λ n us. round_inputs F (first_round rounds) (betas_of (subtrees (views trees))) (tree_words F d later (subtrees (views trees))) n us) common ei
      ∙ ap₂ (λ rs t. tree_inputs F d rs t) (sym split) (sym seen)
