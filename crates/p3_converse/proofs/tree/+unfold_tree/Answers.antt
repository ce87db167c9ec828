use Rattle.std.proofs.Common.{rules, ◌≡◌, ℕ, ◌+◌, ◌*◌, ◌^◌, [], All, length, get_or, take, vec_len, map, refl, subst, sym, ap, ap₂, ◌∙◌, arith}
use Rattle.std.specs.Prelude.{slice_range}
use Rattle.std.specs.List.{AllZip}
use Rattle.std.proofs.lemmas.Result.{IfOk-weaker}
use Rattle.std.proofs.lemmas.List.Elements.{All-push}
use Rattle.p3_converse.specs.Branches.{log_sum, input_logs, with_input, IsTreeUnfolding, IsRoundUnfolding}
use Rattle.p3_converse.specs.Trees.{tree_of, leaf_length, leaf, subtrees}
use Rattle.p3_converse.specs.TreeCoefficients.{round_word, round_inputs, tree_word, tree_words, tree_inputs, last_inputs}
use Rattle.std.proofs.lemmas.List.{take_all}
use Rattle.algebra.specs.Nested.{lists}
use Rattle.p3_converse.specs.Unfolding.{common_length}
use Rattle.p3_converse.proofs.Trees.{views, tree_of-Leaf}
use Rattle.p3_converse.proofs.Branches.{UnfoldsTo, is_leaf_unfolding}
use Rattle.p3_converse.proofs.Nodes.{first_round, IsNodeOf, is_node_of, IsFit, subtree_fits, conditions, no_rounds, one_tree_more, its_inputs, with_input-map, node_unfolds, AreUnfolded, are_unfolded}
use Rattle.p3_converse.proofs.TreeCoefficients.{words_next, inputs_next, node_word, node_inputs}
use Rattle.p3_converse.proofs.tree.+unfold_tree.Given.{Over}
use Rattle.p3_converse.proofs.tree.+unfold_tree.Goals.{After-deref-in-Node-3}
use Rattle.p3_converse.proofs.tree.+unfold_tree.Goals as goal

pub unfold_tree-requires : goal.unfold_tree-requires
unfold_tree-requires g t c =
    let rounds = c.args.rounds.now in
    let later = slice_range rounds 1 (length rounds) in
    let d = leaf_length (tree_of c.args.tree.now) in
    let x = c.subtree-item.result in
    let k = c.loop-subtree.subtree-index in
    let is : IsNodeOf rounds later c.in-Node.subtrees.items d = is_node_of rounds later c.args.tree.now c.in-Node.subtrees d c.in-Node.is refl c.requires.paths c.requires.betas c.requires.leaves in
    let fewer : length rounds ≡ length later + 1 = ap length is.split ∙ omega arith in
    λ κs b. (
      omega (arith, fewer, c.decreases),
      (
        search rules,
        (
          search rules,
          conditions later (tree_of x.1) d
              (subtree_fits rounds later c.in-Node.subtrees.items d is c.requires.log_arities c.requires.log_sum c.requires.fits k x
              (omega (arith, c.loop-subtree-test.true, ap length c.deref-subtree-items.ensures.value))
              (c.subtree-item.is ∙ ap (λ us. get_or us k x) c.deref-subtree-items.ensures.value)),
        ),
      ),
    )

pub loop-subtree-preserved : goal.loop-subtree-preserved
loop-subtree-preserved g t c =
    let F = g.EF.Field.ops in
    let rounds = c.args.rounds.now in
    let later = slice_range rounds 1 (length rounds) in
    let tree = c.args.tree.now in
    let trees = c.in-Node.subtrees.items in
    let d = leaf_length (tree_of tree) in
    let is : IsNodeOf rounds later trees d = is_node_of rounds later tree c.in-Node.subtrees d c.in-Node.is refl c.requires.paths c.requires.betas c.requires.leaves in
    let here = c.loop-subtree in
    let ts = c.deref-subtree-items.result.now in
    let k = here.subtree-index in
    let x = c.subtree-item.result in
    let same : ts ≡ trees = c.deref-subtree-items.ensures.value in
    let fit : IsFit later (tree_of x.1) d = subtree_fits rounds later trees d is c.requires.log_arities c.requires.log_sum c.requires.fits k x (omega (arith, c.loop-subtree-test.true, ap length same)) (c.subtree-item.is ∙ ap (λ us. get_or us k x) same) in
    let word = c.in_ok-word-in-Node.word in
    let inputs = c.in_ok-word-in-Node.later_inputs in
    let found = c.in_ok-word-in-Node.ensures in
    let pushed = c.in_ok-push-in-Node.ensures.items in
    record {
      words = subst (λ ps. AllZip (λ t p. UnfoldsTo F later t.1 p) (views (take (k + 1) ts)) (lists ps)) (sym pushed)
          (one_tree_more F later ts k x here.polys.items word (lists inputs.items) c.loop-subtree-test.true c.subtree-item.is found.values here.invariant.words);
      lengths = subst (λ ps. All (λ p. vec_len p ≡ d * 2 ^ log_sum later) ps) (sym pushed)
          (All-push (λ p. vec_len p ≡ d * 2 ^ log_sum later) here.polys.items word here.invariant.lengths (found.word_length ∙ ap (λ n. n * 2 ^ log_sum later) fit.leaf));
      word_coefficients = subst (λ ps. lists ps ≡ tree_words F d later (subtrees (views (take (k + 1) ts)))) (sym pushed)
          (words_next F d later ts k x c.loop-subtree-test.true c.subtree-item.is here.polys.items word here.invariant.word_coefficients
          (found.word_coefficients ∙ ap (λ n. tree_word F n later (tree_of x.1)) fit.leaf));
      input_coefficients = inputs_next F d later ts k x c.loop-subtree-test.true c.subtree-item.is (lists inputs.items)
          (found.input_coefficients ∙ ap (λ n. tree_inputs F n later (tree_of x.1)) fit.leaf);
      inputs = λ _. its_inputs F later ts k x word.items (lists inputs.items) c.loop-subtree-test.true c.subtree-item.is found.values;
      input_lengths = λ _. found.input_lengths ∙ ap (λ n. map (λ s. n * 2 ^ s) (input_logs later)) fit.leaf;
    }

-- each subtree is unfolded
unfolded : (g : Over) (t : ℕ) (c : After-deref-in-Node-3 g t)
    → AreUnfolded g.EF.Field.ops c.args.rounds.now (slice_range c.args.rounds.now 1 (length c.args.rounds.now))
    c.deref-subtree-items.result.now (leaf_length (tree_of c.args.tree.now)) c.deref-in-Node-2.result.now
    c.loop-subtree.polys.items c.deref-in-Node-3.result.now c.loop-subtree.inputs.items
unfolded g t c =
    let rounds = c.args.rounds.now in
    let later = slice_range rounds 1 (length rounds) in
    let ts = c.deref-subtree-items.result.now in
    let same : ts ≡ c.in-Node.subtrees.items = c.deref-subtree-items.ensures.value in
    let d = leaf_length (tree_of c.args.tree.now) in
    let here = c.loop-subtree in
    are_unfolded g.EF.Field.ops rounds later ts d c.deref-in-Node-2.result.now here.polys.items c.deref-in-Node-3.result.now
    here.inputs.items here.subtree-index
    (subst (λ us. IsNodeOf rounds later us d) (sym same)
    (is_node_of rounds later c.args.tree.now c.in-Node.subtrees d c.in-Node.is refl c.requires.paths c.requires.betas c.requires.leaves))
    (omega (arith, c.loop-subtree-test.false))
    (c.deref-in-Node-2.ensures.value ∙ c.in_ok-betas-in-Node.ensures
    ∙ ap (λ us. map (λ t. t.0) us) (c.deref-in-Node.ensures.value ∙ sym same))
    c.deref-in-Node-3.ensures.value here.invariant.words here.invariant.lengths here.invariant.inputs
    here.invariant.input_lengths

pub undo_round-requires-clause-betas : goal.undo_round-requires-clause-betas
undo_round-requires-clause-betas g t c = (unfolded g t (goal.at.undo_round-requires-clause-betas g t c).After-deref-in-Node-3).count

pub undo_round-requires-clause-distinct : goal.undo_round-requires-clause-distinct
undo_round-requires-clause-distinct g t c = (unfolded g t (goal.at.undo_round-requires-clause-distinct g t c).After-deref-in-Node-3).distinct

pub undo_round-requires-clause-as_many : goal.undo_round-requires-clause-as_many
undo_round-requires-clause-as_many g t c = (unfolded g t (goal.at.undo_round-requires-clause-as_many g t c).After-deref-in-Node-3).as_many

pub undo_round-requires-clause-one_length : goal.undo_round-requires-clause-one_length
undo_round-requires-clause-one_length g t c = (unfolded g t (goal.at.undo_round-requires-clause-one_length g t c).After-deref-in-Node-3).one_length

pub undo_round-requires-clause-fits : goal.undo_round-requires-clause-fits
undo_round-requires-clause-fits g t c =
    let product = (unfolded g t (goal.at.undo_round-requires-clause-fits g t c).After-deref-in-Node-3).product in
    omega (arith, product, c.requires.fits)

pub returns-after-loop-subtree-clause-word_length : goal.returns-after-loop-subtree-clause-word_length
returns-after-loop-subtree-clause-word_length g t c =
    let rounds = c.args.rounds.now in
    let d = leaf_length (tree_of c.args.tree.now) in
    let product = (unfolded g t (goal.at.returns-after-loop-subtree-clause-word_length g t c).After-deref-in-Node-3).product in
    IfOk-weaker c.undo_round.result (λ u. vec_len u.0 ≡ common_length c.deref-in-Node-3.result.now * 2 ^ (first_round rounds).0) (λ u. vec_len u.0 ≡ d * 2 ^ log_sum rounds)
    (λ u e. e ∙ product) c.undo_round.ensures.word_length

pub returns-after-loop-subtree-clause-input_lengths : goal.returns-after-loop-subtree-clause-input_lengths
returns-after-loop-subtree-clause-input_lengths g t c =
    let rounds = c.args.rounds.now in
    let later = slice_range rounds 1 (length rounds) in
    let tree = c.args.tree.now in
    let d = leaf_length (tree_of tree) in
    let has_input = (first_round rounds).1 in
    let known = unfolded g t (goal.at.returns-after-loop-subtree-clause-input_lengths g t c).After-deref-in-Node-3 in
    IfOk-weaker c.undo_round.result
    (λ u. map (λ v. vec_len v) u.1.items ≡ with_input has_input (common_length c.deref-in-Node-3.result.now) (map (λ v. vec_len v) c.loop-subtree.inputs.items))
    (λ u. map (λ v. vec_len v) u.1.items ≡ map (λ s. d * 2 ^ s) (input_logs rounds))
    (λ u e. e ∙ ap₂ (λ n ns. with_input has_input n ns) known.common known.lengths
    ∙ sym (with_input-map (λ s. d * 2 ^ s) has_input (log_sum later) (input_logs later))
    ∙ ap (λ rs. map (λ s. d * 2 ^ s) (input_logs rs)) (sym known.split))
    c.undo_round.ensures.input_lengths

-- what is behind all subtrees: the words and the last one's inputs
all_words : (g : Over) (t : ℕ) (c : After-deref-in-Node-3 g t)
    → let F = g.EF.Field.ops in
    let d = leaf_length (tree_of c.args.tree.now) in
    let later = slice_range c.args.rounds.now 1 (length c.args.rounds.now) in
    let trees = subtrees (views c.deref-subtree-items.result.now) in
    (lists c.deref-in-Node-3.result.now ≡ tree_words F d later trees) × (lists c.loop-subtree.inputs.items ≡ last_inputs F d later [] trees)
all_words g t c =
    let F = g.EF.Field.ops in
    let d = leaf_length (tree_of c.args.tree.now) in
    let later = slice_range c.args.rounds.now 1 (length c.args.rounds.now) in
    let ts = c.deref-subtree-items.result.now in
    let whole : take c.loop-subtree.subtree-index ts ≡ ts = take_all c.loop-subtree.subtree-index ts (omega (arith, c.loop-subtree-test.false)) in (
      ap (λ vs. lists vs) c.deref-in-Node-3.ensures.value
          ∙ c.loop-subtree.invariant.word_coefficients
          ∙ ap (λ us. tree_words F d later (subtrees (views us))) whole,
      c.loop-subtree.invariant.input_coefficients
          ∙ ap (λ us. last_inputs F d later [] (subtrees (views us))) whole,
    )

pub returns-after-loop-subtree-clause-word_coefficients : goal.returns-after-loop-subtree-clause-word_coefficients
returns-after-loop-subtree-clause-word_coefficients g t c =
    let F = g.EF.Field.ops in
    let rounds = c.args.rounds.now in
    let later = slice_range rounds 1 (length rounds) in
    let tree = c.args.tree.now in
    let d = leaf_length (tree_of tree) in
    let given = c.deref-in-Node-3.result.now in
    let here = (goal.at.returns-after-loop-subtree-clause-word_coefficients g t c).After-deref-in-Node-3 in
    let known = unfolded g t here in
    IfOk-weaker c.undo_round.result
    (λ u. u.0.items ≡ round_word F (first_round rounds) c.deref-in-Node-2.result.now (lists given) (common_length given))
    (λ u. u.0.items ≡ tree_word F d rounds (tree_of tree))
    (λ u e. e ∙ node_word F d rounds later tree c.in-Node.subtrees c.deref-subtree-items.result.now c.deref-in-Node-2.result.now given
    c.in-Node.is c.deref-subtree-items.ensures.value known.split known.challenges (all_words g t here).0 known.common)
    c.undo_round.ensures.word_coefficients

pub returns-after-loop-subtree-clause-input_coefficients : goal.returns-after-loop-subtree-clause-input_coefficients
returns-after-loop-subtree-clause-input_coefficients g t c =
    let F = g.EF.Field.ops in
    let rounds = c.args.rounds.now in
    let later = slice_range rounds 1 (length rounds) in
    let tree = c.args.tree.now in
    let d = leaf_length (tree_of tree) in
    let given = c.deref-in-Node-3.result.now in
    let inputs = c.loop-subtree.inputs.items in
    let here = (goal.at.returns-after-loop-subtree-clause-input_coefficients g t c).After-deref-in-Node-3 in
    let known = unfolded g t here in
    let behind = all_words g t here in
    IfOk-weaker c.undo_round.result
    (λ u. lists u.1.items ≡ round_inputs F (first_round rounds) c.deref-in-Node-2.result.now (lists given) (common_length given) (lists inputs))
    (λ u. lists u.1.items ≡ tree_inputs F d rounds (tree_of tree))
    (λ u e. e ∙ node_inputs F d rounds later tree c.in-Node.subtrees c.deref-subtree-items.result.now c.deref-in-Node-2.result.now given
    c.in-Node.is c.deref-subtree-items.ensures.value known.split known.challenges behind.0 known.common (lists inputs) behind.1)
    c.undo_round.ensures.input_coefficients

pub returns-after-loop-subtree-clause-values : goal.returns-after-loop-subtree-clause-values
returns-after-loop-subtree-clause-values g t c =
    let F = g.EF.Field.ops in
    let rounds = c.args.rounds.now in
    let later = slice_range rounds 1 (length rounds) in
    let tree = c.args.tree.now in
    let d = leaf_length (tree_of tree) in
    let here = c.loop-subtree in
    let ts = c.deref-subtree-items.result.now in
    let known = unfolded g t (goal.at.returns-after-loop-subtree-clause-values g t c).After-deref-in-Node-3 in
    IfOk-weaker c.undo_round.result
    (λ u. IsRoundUnfolding F (first_round rounds) c.deref-in-Node-2.result.now (lists c.deref-in-Node-3.result.now) u.0.items (lists here.inputs.items) (lists u.1.items))
    (λ u. IsTreeUnfolding F rounds (tree_of tree) u.0.items (lists u.1.items))
    (λ u e. node_unfolds F rounds later tree c.in-Node.subtrees ts c.deref-in-Node-2.result.now here.polys.items c.deref-in-Node-3.result.now (lists here.inputs.items) u.0.items (lists u.1.items)
    c.in-Node.is c.deref-subtree-items.ensures.value known.split known.challenges c.deref-in-Node-3.ensures.value known.words known.behind e)
    c.undo_round.ensures.undone

pub returns-in_ok-from_slice-in-Leaf-clause-word_length : goal.returns-in_ok-from_slice-in-Leaf-clause-word_length
returns-in_ok-from_slice-in-Leaf-clause-word_length g t c =
    let rounds = c.args.rounds.now in
    let tree = c.args.tree.now in
    let none : rounds ≡ [] = no_rounds rounds tree c.in-Leaf.poly c.in-Leaf.is c.requires.paths in
    let seen : tree_of tree ≡ leaf c.in-Leaf.poly.items = ap tree_of c.in-Leaf.is ∙ tree_of-Leaf c.in-Leaf.poly in
    let copied = c.in_ok-from_slice-in-Leaf.field-0 in
    let same : copied.items ≡ c.in-Leaf.poly.items = c.in_ok-from_slice-in-Leaf.ensures.items ∙ c.deref.ensures.value in
    let sizes : leaf_length (tree_of tree) * 2 ^ log_sum rounds ≡ length c.in-Leaf.poly.items * 2 ^ 0 = ap₂ (λ t rs. leaf_length t * 2 ^ log_sum rs) seen none in
    omega (arith, copied.ok.0, ap length same, sizes)

pub returns-in_ok-from_slice-in-Leaf-clause-input_lengths : goal.returns-in_ok-from_slice-in-Leaf-clause-input_lengths
returns-in_ok-from_slice-in-Leaf-clause-input_lengths g t c =
    let rounds = c.args.rounds.now in
    let tree = c.args.tree.now in
    let none : rounds ≡ [] = no_rounds rounds tree c.in-Leaf.poly c.in-Leaf.is c.requires.paths in
    let seen : tree_of tree ≡ leaf c.in-Leaf.poly.items = ap tree_of c.in-Leaf.is ∙ tree_of-Leaf c.in-Leaf.poly in
    let copied = c.in_ok-from_slice-in-Leaf.field-0 in
    let same : copied.items ≡ c.in-Leaf.poly.items = c.in_ok-from_slice-in-Leaf.ensures.items ∙ c.deref.ensures.value in
    ap (λ vs. map (λ v. vec_len v) vs) c.new.ensures.items ∙ ap (λ rs. map (λ s. leaf_length (tree_of tree) * 2 ^ s) (input_logs rs)) (sym none)

pub returns-in_ok-from_slice-in-Leaf-clause-values : goal.returns-in_ok-from_slice-in-Leaf-clause-values
returns-in_ok-from_slice-in-Leaf-clause-values g t c =
    let rounds = c.args.rounds.now in
    let tree = c.args.tree.now in
    let none : rounds ≡ [] = no_rounds rounds tree c.in-Leaf.poly c.in-Leaf.is c.requires.paths in
    let seen : tree_of tree ≡ leaf c.in-Leaf.poly.items = ap tree_of c.in-Leaf.is ∙ tree_of-Leaf c.in-Leaf.poly in
    let copied = c.in_ok-from_slice-in-Leaf.field-0 in
    let same : copied.items ≡ c.in-Leaf.poly.items = c.in_ok-from_slice-in-Leaf.ensures.items ∙ c.deref.ensures.value in
    let F = g.EF.Field.ops in
    subst (λ rs. IsTreeUnfolding F rs (tree_of tree) copied.items (lists c.new.result.items)) (sym none)
    (subst (λ u. IsTreeUnfolding F [] u copied.items (lists c.new.result.items)) (sym seen)
    (subst (λ vs. IsTreeUnfolding F [] (leaf c.in-Leaf.poly.items) copied.items (lists vs)) (sym c.new.ensures.items)
    (subst (λ p. IsTreeUnfolding F [] (leaf p) copied.items []) same (is_leaf_unfolding F copied.items))))
