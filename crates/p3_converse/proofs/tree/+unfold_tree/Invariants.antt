use Rattle.std.proofs.Common.{◌≡◌, [], ◌*◌, ◌^◌, ◌<◌, All, length, vec_len, take, map}
use Rattle.std.specs.List.{AllZip}
use Rattle.p3_converse.specs.Branches.{log_sum, input_logs}
use Rattle.p3_converse.specs.Trees.{tree_of, leaf_length, subtrees}
use Rattle.p3_converse.specs.TreeCoefficients.{tree_words, last_inputs}
use Rattle.algebra.specs.Nested.{lists}
use Rattle.p3_converse.proofs.Trees.{views}
use Rattle.p3_converse.proofs.Branches.{UnfoldsTo, HasInputsOf}
use Rattle.p3_converse.proofs.tree.+unfold_tree.Given as goal

abbrev pub invariant-loop-subtree : goal.invariant-loop-subtree
invariant-loop-subtree g l =
    let F = g.EF.Field.ops in
    let d = leaf_length (tree_of l.tree) in
    let done = views (take l.subtree-index l.subtree-items) in
    record {
      words : AllZip (λ t p. UnfoldsTo F l.later t.1 p) done (lists l.polys.items);
      word_coefficients : lists l.polys.items ≡ tree_words F d l.later (subtrees done);
      lengths : All (λ p. vec_len p ≡ d * 2 ^ log_sum l.later) l.polys.items;
      inputs : 0 < l.subtree-index → HasInputsOf F l.later done (lists l.inputs.items);
      input_coefficients : lists l.inputs.items ≡ last_inputs F d l.later [] (subtrees done);
      input_lengths : 0 < l.subtree-index → map (λ v. vec_len v) l.inputs.items ≡ map (λ s. d * 2 ^ s) (input_logs l.later);
    }

-- no deeper than there are rounds
abbrev pub decreases-unfold_tree : goal.decreases-unfold_tree
decreases-unfold_tree g l = length l.rounds.now
