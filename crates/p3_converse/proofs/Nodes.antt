-- A tree's node: what holds of each of its trees, and what they give together.
use Rattle.std.proofs.Common.{◌≡◌, ℕ, suc, ◌+◌, ◌-◌, ◌*◌, ◌^◌, ◌<◌, ◌≤◌, List, [], ◌∷◌, ◌++◌, All, Vec, Global, vec_len, length, get_or, take, map, Bool, true, false}
use Rattle.std.proofs.Common.{refl, sym, ap, subst, ◌∙◌, arith, length-append}
use Rattle.std.specs.Prelude.{slice_range}
use Rattle.std.specs.List.{AllZip}
use Rattle.std.proofs.lemmas.Slice.Zip.{AllZip-long}
use Rattle.std.proofs.lemmas.List.{take_all, take_more, map-append, length-map}
use Rattle.std.proofs.Math.Seq.{get_or-append_seam}
use Rattle.std.proofs.lemmas.Nat.{mul-le, pow-add}
use Rattle.std.proofs.Math.Nat.{mul_assoc, pow-le-pow_right}
use Rattle.algebra.specs.Field.{FieldOps}
use Rattle.algebra.specs.Interpolation.{AreDistinct}
use Rattle.p3_converse.specs.Trees.{Tree, leaf, node, subtrees, tree_of, beta_count, leaf_length}
use Rattle.p3_converse.specs.Trees.{HasPaths, EachHasPaths, HasLeaves, EachHasLeaves, HasBetas, EachHasBetas}
use Rattle.p3_converse.specs.Branches.{log_sum, input_logs, with_input, IsTreeUnfolding, IsRoundUnfolding}
use Rattle.algebra.specs.Nested.{lists}
use Rattle.p3_converse.specs.Unfolding.{common_length}
use Rattle.p3_converse.specs.declared.tree.FoldTree.{FoldTree, Leaf, Node}
use Rattle.p3_converse.proofs.Trees.{views, tree_of-Leaf, tree_of-Node, betas-views, paths-at, leaves-at, betas-at, leaf_length-is, beta_count-positive}
use Rattle.p3_converse.proofs.Branches.{UnfoldsTo, HasInputsOf, is_node_unfolding}
use Rattle.algebra.proofs.Lists.{all_zip-push}
use Rattle.algebra.proofs.Nested.{length-lists}

-- the first of the rounds
abbrev pub first_round : List (ℕ × Bool) → ℕ × Bool
first_round rounds = get_or rounds 0 (0, false)

-- the conditions, one level down
pub record IsNodeOf {A : Type 0} (rounds later : List (ℕ × Bool)) (trees : List (A × FoldTree A)) (d : ℕ) : Type 0 where
  pub split : rounds ≡ first_round rounds ∷ later
  pub paths : EachHasPaths (length later) (subtrees (views trees))
  pub count : length trees ≡ beta_count (first_round rounds)
  pub distinct : AreDistinct (map (λ t. t.0) trees)
  pub betas : EachHasBetas later (subtrees (views trees))
  pub leaves : EachHasLeaves d (subtrees (views trees))

pub is_node_of : {A : Type 0} (rounds later : List (ℕ × Bool)) (tree : FoldTree A) (v : Vec (A × FoldTree A) Global) (d : ℕ) → tree ≡ Node v → later ≡ slice_range rounds 1 (length rounds)
    → HasPaths (length rounds) (tree_of tree) → HasBetas rounds (tree_of tree) → HasLeaves d (tree_of tree) → IsNodeOf rounds later v.items d
is_node_of rounds later tree v d is e paths betas leaves =
    let seen = ap tree_of is ∙ tree_of-Node v in
    below rounds later e (subst (λ t. HasPaths (length rounds) t) seen paths) (subst (λ t. HasBetas rounds t) seen betas) (subst (λ t. HasLeaves d t) seen leaves)
  where
    below : (rs ls : List (ℕ × Bool)) → ls ≡ slice_range rs 1 (length rs) → HasPaths (length rs) (node (subtrees (views v.items))) → HasBetas rs (node (subtrees (views v.items)))
        → HasLeaves d (node (subtrees (views v.items))) → IsNodeOf rs ls v.items d
    below [] ls e p b l = absurd p
    below (r ∷ rs) ls e p b l =
        let all : ls ≡ rs = e ∙ take_all (suc (length rs) - 1) rs (omega arith) in
        subst (λ ks. IsNodeOf (r ∷ rs) ks v.items d) (sym all) (record {
          split = refl;
          paths = p;
          count = sym (length-map v.items (λ t. t.0)) ∙ ap length (sym (betas-views v.items)) ∙ b.0;
          distinct = subst AreDistinct (betas-views v.items) b.1;
          betas = b.2;
          leaves = l;
        })

pub views-more : {A : Type 0} (trees : List (A × FoldTree A)) (k : ℕ) (t : A × FoldTree A) → k < length trees → t ≡ get_or trees k t → views (take (k + 1) trees) ≡ views (take k trees) ++ (t.0, tree_of t.1) ∷ []
views-more trees k t l e =
    ap (λ ts. views ts) (take_more trees k t l ∙ ap (λ u. take k trees ++ u ∷ []) (sym e)) ∙ map-append (λ u. (u.0, tree_of u.1)) (take k trees) (t ∷ [])

-- one tree more
pub one_tree_more : {A : Type 0} (F : FieldOps A) (rounds : List (ℕ × Bool)) (trees : List (A × FoldTree A)) (k : ℕ) (t : A × FoldTree A) (polys : List (Vec A Global)) (p : Vec A Global) (inputs : List (List A))
    → k < length trees → t ≡ get_or trees k t → IsTreeUnfolding F rounds (tree_of t.1) p.items inputs
    → AllZip (λ t p. UnfoldsTo F rounds t.1 p) (views (take k trees)) (lists polys) → AllZip (λ t p. UnfoldsTo F rounds t.1 p) (views (take (k + 1) trees)) (lists (polys ++ p ∷ []))
one_tree_more {A = A} F rounds trees k t polys p inputs l e is a =
    let R = λ (t : A × Tree A) (p : List A). UnfoldsTo F rounds t.1 p in
    subst (λ ts. AllZip R ts (lists (polys ++ p ∷ []))) (sym (views-more trees k t l e))
    (subst (λ ps. AllZip R (views (take k trees) ++ (t.0, tree_of t.1) ∷ []) ps) (sym (map-append (λ v. v.items) polys (p ∷ [])))
    (all_zip-push R (views (take k trees)) (lists polys) (t.0, tree_of t.1) p.items a (record { inputs = inputs; is = is })))

pub its_inputs : {A : Type 0} (F : FieldOps A) (rounds : List (ℕ × Bool)) (trees : List (A × FoldTree A)) (k : ℕ) (t : A × FoldTree A) (word : List A) (inputs : List (List A))
    → k < length trees → t ≡ get_or trees k t → IsTreeUnfolding F rounds (tree_of t.1) word inputs → HasInputsOf F rounds (views (take (k + 1) trees)) inputs
its_inputs F rounds trees k t word inputs l e is =
    subst (λ ts. HasInputsOf F rounds ts inputs) (sym (views-more trees k t l e)) (record {
      place = length (views (take k trees));
      word = word;
      inside = omega (arith, length-append (views (take k trees)) ((t.0, tree_of t.1) ∷ []));
      is = λ d. subst (λ u. IsTreeUnfolding F rounds u.1 word inputs) (sym (get_or-append_seam (views (take k trees)) (t.0, tree_of t.1) [] d)) is;
    })

pub with_input-map : {X Y : Type 0} (f : X → Y) (b : Bool) (x : X) (xs : List X) → map f (with_input b x xs) ≡ with_input b (f x) (map f xs)
with_input-map f false x xs = refl
with_input-map f true x xs = refl

-- the length of a word's polynomial
pub scaled : (d a s : ℕ) → d * 2 ^ s * 2 ^ a ≡ d * 2 ^ (a + s)
scaled d a s = mul_assoc d (2 ^ s) (2 ^ a) ∙ ap (λ n. d * n) (sym (pow-add 2 s a) ∙ ap (λ k. 2 ^ k) (let turned : s + a ≡ a + s = omega arith in turned))

-- the conditions of the call for a subtree
pub record IsFit {A : Type 0} (rounds : List (ℕ × Bool)) (tree : Tree A) (length_of_leaves : ℕ) : Type 0 where
  pub paths : HasPaths (length rounds) tree
  pub betas : HasBetas rounds tree
  pub leaves : HasLeaves (leaf_length tree) tree
  pub leaf : leaf_length tree ≡ length_of_leaves
  pub log_arities : All (λ r. 0 < r.0) rounds
  pub log_sum_small : log_sum rounds < 64
  pub fits : leaf_length tree * 2 ^ log_sum rounds < 2 ^ 64

later_all : {B : Type 0} (P : B → Type 0) (xs ys : List B) (x : B) → xs ≡ x ∷ ys → All P xs → All P ys
later_all P xs ys x e h k d l = subst (λ zs. All P zs) e h (suc k) d (omega (arith, l))

smaller : (d a s : ℕ) → d * 2 ^ s ≤ d * 2 ^ (a + s)
smaller d a s = mul-le d (2 ^ s) d (2 ^ (a + s)) (omega arith) (pow-le-pow_right {n = 2} (omega arith) {i = s} {j = a + s} (omega arith))

pub subtree_fits : {A : Type 0} (rounds later : List (ℕ × Bool)) (trees : List (A × FoldTree A)) (d : ℕ) → IsNodeOf rounds later trees d → All (λ r. 0 < r.0) rounds → log_sum rounds < 64
    → d * 2 ^ log_sum rounds < 2 ^ 64 → (k : ℕ) (x : A × FoldTree A) → k < length trees → x ≡ get_or trees k x → IsFit later (tree_of x.1) d
subtree_fits rounds later trees d is positive small fits k x l e =
    let leaves = subst (λ t. HasLeaves d (tree_of t.1)) (sym e) (leaves-at d trees is.leaves k x l) in
    let betas = subst (λ t. HasBetas later (tree_of t.1)) (sym e) (betas-at later trees is.betas k x l) in
    let leaf : leaf_length (tree_of x.1) ≡ d = leaf_length-is d later (tree_of x.1) leaves betas in
    let sum : log_sum rounds ≡ (first_round rounds).0 + log_sum later = ap log_sum is.split in
    record {
      paths = subst (λ t. HasPaths (length later) (tree_of t.1)) (sym e) (paths-at (length later) trees is.paths k x l);
      betas = betas;
      leaves = subst (λ n. HasLeaves n (tree_of x.1)) (sym leaf) leaves;
      leaf = leaf;
      log_arities = later_all (λ r. 0 < r.0) rounds later (first_round rounds) is.split positive;
      log_sum_small = omega (arith, small, sum);
      fits = subst (λ n. n * 2 ^ log_sum later < 2 ^ 64) (sym leaf)
          (omega (arith, smaller d (first_round rounds).0 (log_sum later), subst (λ n. d * 2 ^ n < 2 ^ 64) sum fits));
    }

-- a leaf has no rounds
pub no_rounds : {A : Type 0} (rounds : List (ℕ × Bool)) (tree : FoldTree A) (v : Vec A Global) → tree ≡ Leaf v → HasPaths (length rounds) (tree_of tree) → rounds ≡ []
no_rounds rounds tree v is paths = below rounds (subst (λ t. HasPaths (length rounds) t) (ap tree_of is ∙ tree_of-Leaf v) paths)
  where
    below : (rs : List (ℕ × Bool)) → HasPaths (length rs) (leaf v.items) → rs ≡ []
    below [] p = refl
    below (r ∷ rs) p = absurd p

pub common_length-is : {T Z : Type 0} (vectors : List (Vec T Z)) (n : ℕ) → All (λ v. vec_len v ≡ n) vectors → 0 < length vectors → common_length vectors ≡ n
common_length-is [] n h l = absurd (omega (arith, l))
common_length-is (v ∷ vs) n h l = h 0 v (omega arith)

views-betas : {A : Type 0} (trees : List (A × FoldTree A)) → map (λ t. t.0) trees ≡ map (λ t. t.0) (views trees)
views-betas [] = refl
views-betas (t ∷ ts) = ap (λ bs. t.0 ∷ bs) (views-betas ts)

-- all of a node's trees were unfolded, and its round is undone
pub node_unfolds : {A : Type 0} (F : FieldOps A) (rounds later : List (ℕ × Bool)) (tree : FoldTree A) (v : Vec (A × FoldTree A) Global) (trees : List (A × FoldTree A)) (betas : List A)
    (polys given : List (Vec A Global)) (inputs : List (List A)) (word : List A) (all : List (List A)) → tree ≡ Node v → trees ≡ v.items → rounds ≡ first_round rounds ∷ later
    → betas ≡ map (λ t. t.0) trees → given ≡ polys → AllZip (λ t p. UnfoldsTo F later t.1 p) (views trees) (lists polys) → HasInputsOf F later (views trees) inputs
    → IsRoundUnfolding F (first_round rounds) betas (lists given) word inputs all → IsTreeUnfolding F rounds (tree_of tree) word all
node_unfolds F rounds later tree v trees betas polys given inputs word all is same split eb eg known behind undone =
    subst (λ rs. IsTreeUnfolding F rs (tree_of tree) word all) (sym split)
    (subst (λ t. IsTreeUnfolding F (first_round rounds ∷ later) t word all) (ap (λ ts. node (subtrees (views ts))) same ∙ sym (ap tree_of is ∙ tree_of-Node v))
    (is_node_unfolding F later (views trees) (lists polys) word inputs known behind (first_round rounds) all
    (subst (λ bs. IsRoundUnfolding F (first_round rounds) bs (lists polys) word inputs all) (eb ∙ views-betas trees)
    (subst (λ ps. IsRoundUnfolding F (first_round rounds) betas (lists ps) word inputs all) eg undone))))

-- once each of a node's trees is unfolded: what its round is undone with
pub record AreUnfolded {A : Type 0} (F : FieldOps A) (rounds later : List (ℕ × Bool)) (trees : List (A × FoldTree A)) (d : ℕ) (betas : List A) (polys given inputs : List (Vec A Global)) : Type 0 where
  pub split : rounds ≡ first_round rounds ∷ later
  pub challenges : betas ≡ map (λ t. t.0) trees
  pub count : length betas ≡ beta_count (first_round rounds)
  pub distinct : AreDistinct betas
  pub as_many : length given ≡ length betas
  pub common : common_length given ≡ d * 2 ^ log_sum later
  pub one_length : All (λ p. vec_len p ≡ common_length given) given
  pub product : common_length given * 2 ^ (first_round rounds).0 ≡ d * 2 ^ log_sum rounds
  pub words : AllZip (λ t p. UnfoldsTo F later t.1 p) (views trees) (lists polys)
  pub behind : HasInputsOf F later (views trees) (lists inputs)
  pub lengths : map (λ v. vec_len v) inputs ≡ map (λ s. d * 2 ^ s) (input_logs later)

pub are_unfolded : {A : Type 0} (F : FieldOps A) (rounds later : List (ℕ × Bool)) (trees : List (A × FoldTree A)) (d : ℕ) (betas : List A) (polys given inputs : List (Vec A Global)) (k : ℕ)
    → IsNodeOf rounds later trees d → length trees ≤ k → betas ≡ map (λ t. t.0) trees → given ≡ polys
    → AllZip (λ t p. UnfoldsTo F later t.1 p) (views (take k trees)) (lists polys) → All (λ p. vec_len p ≡ d * 2 ^ log_sum later) polys
    → (0 < k → HasInputsOf F later (views (take k trees)) (lists inputs)) → (0 < k → map (λ v. vec_len v) inputs ≡ map (λ s. d * 2 ^ s) (input_logs later))
    → AreUnfolded F rounds later trees d betas polys given inputs
are_unfolded F rounds later trees d betas polys given inputs k is past eb eg known each behind lengths =
    let whole : take k trees ≡ trees = take_all k trees past in
    let some : 0 < length trees = omega (arith, is.count, beta_count-positive (first_round rounds)) in
    let words = subst (λ us. AllZip (λ t p. UnfoldsTo F later t.1 p) (views us) (lists polys)) whole known in
    let count : length polys ≡ length trees =
    sym (length-lists polys) ∙ AllZip-long (λ t p. UnfoldsTo F later t.1 p) (views trees) (lists polys) words ∙ length-map trees (λ t. (t.0, tree_of t.1)) in
    let as_trees : length betas ≡ length trees = ap length eb ∙ length-map trees (λ t. t.0) in
    let common : common_length given ≡ d * 2 ^ log_sum later = ap common_length eg ∙ common_length-is polys (d * 2 ^ log_sum later) each (omega (arith, count, some)) in
    record {
      split = is.split;
      challenges = eb;
      count = as_trees ∙ is.count;
      distinct = subst AreDistinct (sym eb) is.distinct;
      as_many = ap length eg ∙ count ∙ sym as_trees;
      common = common;
      one_length = subst (λ vs. All (λ p. vec_len p ≡ common_length given) vs) (sym eg) (λ j p l. each j p l ∙ sym common);
      product = ap (λ n. n * 2 ^ (first_round rounds).0) common ∙ scaled d (first_round rounds).0 (log_sum later) ∙ ap (λ n. d * 2 ^ n) (sym (ap log_sum is.split));
      words = words;
      behind = subst (λ us. HasInputsOf F later (views us) (lists inputs)) whole (behind (omega (arith, past, some)));
      lengths = lengths (omega (arith, past, some));
    }

-- the conditions, one after another
pub conditions : {A : Type 0} (rounds : List (ℕ × Bool)) (tree : Tree A) (d : ℕ) → IsFit rounds tree d
    → HasPaths (length rounds) tree × (HasBetas rounds tree × (HasLeaves (leaf_length tree) tree × (All (λ r. 0 < r.0) rounds × ((log_sum rounds < 64) × (leaf_length tree * 2 ^ log_sum rounds < 2 ^ 64)))))
conditions rounds tree d fit = (fit.paths, (fit.betas, (fit.leaves, (fit.log_arities, (fit.log_sum_small, fit.fits)))))
