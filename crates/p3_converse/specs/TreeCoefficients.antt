-- The coefficients of what a tree unfolds to, round by round from the leaves.
use Rattle.std.specs.Prelude.{ℕ, ◌*◌, ◌^◌, List, [], ◌∷◌, Bool, true, false}
use Rattle.algebra.specs.Field.{FieldOps}
use Rattle.p3_converse.specs.Positions.{interpolated}
use Rattle.p3_converse.specs.Unfolding.{unfolded_word, unfolded_input}
use Rattle.p3_converse.specs.Branches.{log_sum}
use Rattle.p3_converse.specs.Trees.{Tree, leaf, node, Subtrees, no_subtrees, subtree, betas_of}

module _ {A : Type 0} (F : FieldOps A) where
  -- one round undone: the word's polynomial, from those of its folds, of `n` coefficients each
  abbrev pub round_word : (round : ℕ × Bool) (betas : List A) (polys : List (List A)) (n : ℕ)
      → List A
  round_word (a, false) betas polys n = interpolated F betas polys n
  round_word (a, true) betas polys n = unfolded_word F a betas polys n

  -- one round undone: the inputs' polynomials, with this round's, if it has one, in front
  abbrev pub round_inputs : (round : ℕ × Bool) (betas : List A) (polys : List (List A)) (n : ℕ)
      (later : List (List A)) → List (List A)
  round_inputs (a, false) betas polys n later = later
  round_inputs (a, true) betas polys n later = unfolded_input F a betas polys n ∷ later

-- where the leaves have `d` coefficients
module _ {A : Type 0} (F : FieldOps A) (d : ℕ) where
  -- the word's polynomial: a leaf's own; a node's by its round, undone from those of its trees
  abbrev mutual
    pub tree_word : (rounds : List (ℕ × Bool)) → Tree A → List A
    tree_word rounds (leaf p) = p
    tree_word [] (node ts) = []
    tree_word (round ∷ rounds) (node ts) =
        round_word F round (betas_of ts) (tree_words rounds ts) (d * 2 ^ log_sum rounds)

    pub tree_words : (rounds : List (ℕ × Bool)) → Subtrees A → List (List A)
    tree_words rounds no_subtrees = []
    tree_words rounds (subtree beta t ts) = tree_word rounds t ∷ tree_words rounds ts

  -- the inputs' polynomials in the order of their rounds: a node's own, and those of its last tree
  abbrev mutual
    pub tree_inputs : (rounds : List (ℕ × Bool)) → Tree A → List (List A)
    tree_inputs rounds (leaf p) = []
    tree_inputs [] (node ts) = []
    tree_inputs (round ∷ rounds) (node ts) =
        round_inputs F round (betas_of ts) (tree_words rounds ts) (d * 2 ^ log_sum rounds)
        (last_inputs rounds [] ts)

    -- the inputs of the last of the trees, or else `given`
    pub last_inputs : (rounds : List (ℕ × Bool)) (given : List (List A)) → Subtrees A
        → List (List A)
    last_inputs rounds given no_subtrees = given
    last_inputs rounds given (subtree beta t ts) = last_inputs rounds (tree_inputs rounds t) ts
