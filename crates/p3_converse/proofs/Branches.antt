-- A round of a tree is undone: from the rows behind the folds at each challenge to the rows behind the values.
use Rattle.std.proofs.Common.{◌≡◌, ℕ, zero, suc, ◌+◌, ◌*◌, ◌^◌, ◌<◌, ◌≤◌, List, [], ◌∷◌, ◌++◌, length, get_or, take, drop, map, Bool, true, false}
use Rattle.std.specs.List.{AllZip}
use Rattle.std.proofs.Common.{refl, sym, ap, ap₂, subst, ◌∙◌, arith, length-drop}
use Rattle.std.proofs.lemmas.List.{take-append-drop, drop-drop}
use Rattle.std.proofs.lemmas.Nat.{row_fits, pow-add}
use Rattle.std.proofs.Math.Nat.{mul_assoc, add-mul}
use Rattle.algebra.specs.Field.{FieldOps, pow}
use Rattle.algebra.specs.Polynomial.{val, tabulate}
use Rattle.algebra.specs.TwoAdic.{AreRoots, pt}
use Rattle.algebra.proofs.Lists.{length-tabulate, get_or-tabulate, tabulate-get_or, tabulate-equal, head_eq, tail_eq}
use Rattle.algebra.proofs.Words.{take-tabulate, drop-tabulate}
use Rattle.p3_converse.specs.Positions.{part}
use Rattle.p3_converse.specs.Trees.{Tree, leaf, node, subtree, subtrees, leaves_beside, one_round}
use Rattle.p3_converse.specs.Unfolding.{row_values, IsUnfolding, IsUnfoldingWithInput}
use Rattle.p3_converse.specs.Branches.{log_sum, input_logs, later_inputs, fold_at, folded, Branches, EachBranch, input_values, IsTreeUnfolding, IsRoundUnfolding}
use Rattle.p3_converse.proofs.Concatenated.{range_take, length-part}

-- index of a value in a row of rows
pub regroup : (i x m y j n : ℕ) → n ≡ x * y → (i * x + m) * y + j ≡ i * n + (m * y + j)
regroup i x m y j n e = omega (arith, ap (λ k. i * k) e, mul_assoc i x y, add-mul (i * x) m y)

-- tables whose rows are equal have equal entries
pub at_each : {A B C : Type 0} (n : ℕ) (g : A → ℕ → C) (v : B → ℕ → C) (xs : List A) (ys : List B) → map (λ x. tabulate n (g x)) xs ≡ map (λ y. tabulate n (v y)) ys
    → (m : ℕ) → m < n → C → map (λ x. g x m) xs ≡ map (λ y. v y m) ys
at_each n g v [] [] e m l d = refl
at_each n g v [] (y ∷ ys) e m l d = absurd (omega (arith, ap length e))
at_each n g v (x ∷ xs) [] e m l d = absurd (omega (arith, ap length e))
at_each n g v (x ∷ xs) (y ∷ ys) e m l d = ap₂ (λ z zs. z ∷ zs)
    (sym (get_or-tabulate n (g x) m d l) ∙ ap (λ zs. get_or zs m d) (head_eq e) ∙ get_or-tabulate n (v y) m d l)
    (at_each n g v xs ys (tail_eq e) m l d)

-- a table, cut in two
tabulate-cut : {A : Type 0} (n m : ℕ) (f : ℕ → A) → tabulate (n + m) f ≡ tabulate n f ++ tabulate m (λ q. f (n + q))
tabulate-cut n m f = sym (take-append-drop n (tabulate (n + m) f)) ∙ ap₂ (λ us vs. us ++ vs) (take-tabulate n (n + m) f (omega arith)) (drop-tabulate n m f)

-- a list by its parts of one length
pub tabulate-parts : {A : Type 0} (count n : ℕ) (ys : List A) (f : ℕ → A) → length ys ≡ count * n
    → ((m : ℕ) → m < count → part ys m n ≡ tabulate n (λ j. f (m * n + j))) → ys ≡ tabulate (count * n) f
tabulate-parts zero n [] f e h = ap (λ k. tabulate k f) (let none : 0 ≡ 0 * n = omega arith in none)
tabulate-parts zero n (y ∷ ys) f e h = absurd (omega (arith, e))
tabulate-parts (suc count) n ys f e h =
    sym (take-append-drop n ys)
    ∙ ap₂ (λ us vs. us ++ vs) first (tabulate-parts count n (drop n ys) (λ q. f (n + q)) (omega (arith, e, length-drop n ys)) later)
    ∙ sym (tabulate-cut n (count * n) f)
    ∙ ap (λ k. tabulate k f) (let more : n + count * n ≡ suc count * n = omega arith in more)
  where
    first : take n ys ≡ tabulate n f
    first = ap (λ k. take n (drop k ys)) (let none : 0 ≡ 0 * n = omega arith in none) ∙ sym (range_take ys (0 * n) n) ∙ h zero (omega arith)
        ∙ tabulate-equal n (λ j. f (0 * n + j)) f (λ j _. ap f (let same : 0 * n + j ≡ j = omega arith in same))

    later : (m : ℕ) → m < count → part (drop n ys) m n ≡ tabulate n (λ j. f (n + (m * n + j)))
    later m l =
        range_take (drop n ys) (m * n) n
        ∙ ap (λ xs. take n xs) (drop-drop (m * n) n ys ∙ ap (λ k. drop k ys) (let more : n + m * n ≡ suc m * n = omega arith in more))
        ∙ sym (range_take ys (suc m * n) n)
        ∙ h (suc m) (omega (arith, l))
        ∙ tabulate-equal n (λ j. f (suc m * n + j)) (λ j. f (n + (m * n + j))) (λ j _. ap f (let same : suc m * n + j ≡ n + (m * n + j) = omega arith in same))

-- of each tree a polynomial of its words is known
pub record UnfoldsTo {A : Type 0} (F : FieldOps A) (rounds : List (ℕ × Bool)) (tree : Tree A) (word : List A) : Type 0 where
  pub inputs : List (List A)
  pub is : IsTreeUnfolding F rounds tree word inputs

-- of one of the trees those of its inputs
pub record HasInputsOf {A : Type 0} (F : FieldOps A) (rounds : List (ℕ × Bool)) (trees : List (A × Tree A)) (inputs : List (List A)) : Type 0 where
  pub place : ℕ
  pub word : List A
  pub inside : place < length trees
  pub is : (d : A × Tree A) → IsTreeUnfolding F rounds (get_or trees place d).1 word inputs

module _ {A : Type 0} (F : FieldOps A) (w : ℕ → A) (i h : ℕ) (round : ℕ × Bool) (rounds : List (ℕ × Bool)) (us : List (List A)) (ys : List A) where
  pub branch-at : (trees : List (A × Tree A)) → EachBranch F w i h round rounds us ys (subtrees trees) → (k : ℕ) (d : A × Tree A) → k < length trees
      → Branches F w i h rounds (later_inputs round us) (folded F w i h round (log_sum rounds) (get_or trees k d).0 us ys) (get_or trees k d).1
  branch-at [] e k d l = absurd (omega (arith, l))
  branch-at (t ∷ ts) e zero d l = e.0
  branch-at (t ∷ ts) e (suc k) d l = branch-at ts e.1 k d (omega (arith, l))

pub length-folded : {A : Type 0} (F : FieldOps A) (w : ℕ → A) (i h : ℕ) (round : ℕ × Bool) (s : ℕ) (beta : A) (us : List (List A)) (ys : List A) → length (folded F w i h round s beta us ys) ≡ 2 ^ s
length-folded F w i h (a, false) s beta us ys = length-tabulate (2 ^ s) (fold_at F w i h s a beta ys)
length-folded F w i h (a, true) s beta us ys =
    length-tabulate (2 ^ s) (λ m. F.add (fold_at F w i h s a beta ys m) (F.mul (pow F beta (2 ^ a)) (get_or (get_or us 0 []) m F.zero)))

module _ {A : Type 0} (F : FieldOps A) (top : ℕ) (w : ℕ → A) (W : AreRoots F top w) (i h : ℕ) (rounds : List (ℕ × Bool)) (within : h + log_sum rounds ≤ top) (below : i < 2 ^ h) where
  -- the folds are the values of the polynomials beside the challenges
  pub folded_values : (round : ℕ × Bool) (us : List (List A)) (ys : List A) → map (λ u. length u) (later_inputs round us) ≡ map (λ s. 2 ^ s) (input_logs rounds)
      → (trees : List (A × Tree A)) (polys : List (List A)) → AllZip (λ t p. UnfoldsTo F rounds t.1 p) trees polys → EachBranch F w i h round rounds us ys (subtrees trees)
      → map (λ b. folded F w i h round (log_sum rounds) b us ys) (map (λ t. t.0) trees) ≡ map (λ p. row_values F w i h (log_sum rounds) p) polys
  folded_values round us ys n [] [] a e = refl
  folded_values round us ys n [] (p ∷ ps) a e = absurd a
  folded_values round us ys n (t ∷ ts) [] a e = absurd a
  folded_values round us ys n (t ∷ ts) (p ∷ ps) a e = ap₂ (λ v vs. v ∷ vs)
      (a.0.is.values top w W i h (folded F w i h round (log_sum rounds) t.0 us ys) (later_inputs round us) within below (length-folded F w i h round (log_sum rounds) t.0 us ys) n e.0).0
      (folded_values round us ys n ts ps a.1 e.1)

  -- the inputs of the later rounds
  pub later_values : (round : ℕ × Bool) (us : List (List A)) (ys : List A) → map (λ u. length u) (later_inputs round us) ≡ map (λ s. 2 ^ s) (input_logs rounds)
      → (trees : List (A × Tree A)) (inputs : List (List A)) → HasInputsOf F rounds trees inputs → EachBranch F w i h round rounds us ys (subtrees trees) → A
      → later_inputs round us ≡ input_values F w i h (input_logs rounds) inputs
  later_values round us ys n trees inputs of e x =
      let d : A × Tree A = (x, leaf []) in
      let t = get_or trees of.place d in
      ((of.is d).values top w W i h (folded F w i h round (log_sum rounds) t.0 us ys) (later_inputs round us) within below (length-folded F w i h round (log_sum rounds) t.0 us ys) n
      (branch-at F w i h round rounds us ys trees e of.place d of.inside)).1

-- rows behind the `2^s` rows of `2^a` values each
module _ {A : Type 0} (F : FieldOps A) (w : ℕ → A) (i h s a : ℕ) (ys : List A) (long : length ys ≡ 2 ^ (a + s)) where
  sizes : 2 ^ (a + s) ≡ 2 ^ s * 2 ^ a
  sizes = ap (λ k. 2 ^ k) (let turned : a + s ≡ s + a = omega arith in turned) ∙ pow-add 2 s a

  pub length-of_part : (m : ℕ) → m < 2 ^ s → length (part ys m (2 ^ a)) ≡ 2 ^ a
  length-of_part m l = length-part (2 ^ a) (2 ^ s) ys (λ _. []) m ys l (long ∙ sizes)

  pub rows_together : (c : List A) → ((m : ℕ) → m < 2 ^ s → part ys m (2 ^ a) ≡ row_values F w (i * 2 ^ s + m) (h + s) a c) → ys ≡ row_values F w i h (a + s) c
  rows_together c each =
      tabulate-parts (2 ^ s) (2 ^ a) ys at (long ∙ sizes) (λ m l. each m l ∙ tabulate-equal (2 ^ a) (λ j. val F c (pt F w ((i * 2 ^ s + m) * 2 ^ a + j) ((h + s) + a))) (λ j. at (m * 2 ^ a + j))
      (λ j _. ap₂ (λ q k. val F c (pt F w q k)) (regroup i (2 ^ s) m (2 ^ a) j (2 ^ (a + s)) sizes) (let same : (h + s) + a ≡ h + (a + s) = omega arith in same)))
      ∙ ap (λ n. tabulate n at) (sym sizes)
    where
      at : ℕ → A
      at q = val F c (pt F w (i * 2 ^ (a + s) + q) (h + (a + s)))

module _ {A : Type 0} (F : FieldOps A) (top : ℕ) (w : ℕ → A) (W : AreRoots F top w) (i h s a : ℕ) (ys : List A) (long : length ys ≡ 2 ^ (a + s))
    (within : h + (a + s) ≤ top) (below : i < 2 ^ h) (betas : List A) (polys : List (List A)) where
  below_all : (m : ℕ) → m < 2 ^ s → i * 2 ^ s + m < 2 ^ (h + s)
  below_all m l = omega (arith, l, row_fits i (2 ^ s) (2 ^ h) (2 ^ s) below (omega arith), pow-add 2 h s)

  -- without an input
  pub rows_of_folds : (word : List A) → IsUnfolding F a betas polys word
      → map (λ b. tabulate (2 ^ s) (fold_at F w i h s a b ys)) betas ≡ map (λ p. row_values F w i h s p) polys → ys ≡ row_values F w i h (a + s) word
  rows_of_folds word is e =
      rows_together F w i h s a ys long word (λ m l.
      is.rows top w W (i * 2 ^ s + m) (h + s) (part ys m (2 ^ a)) (omega (arith, within)) (below_all m l) (length-of_part F w i h s a ys long m l)
      (at_each (2 ^ s) (λ b. fold_at F w i h s a b ys) (λ p j. val F p (pt F w (i * 2 ^ s + j) (h + s))) betas polys e m l F.zero))

  -- with one
  pub rows_of_folds_with_input : (word input us : List A) → length us ≡ 2 ^ s → IsUnfoldingWithInput F a betas polys word input
      → map (λ b. tabulate (2 ^ s) (λ m. F.add (fold_at F w i h s a b ys m) (F.mul (pow F b (2 ^ a)) (get_or us m F.zero)))) betas ≡ map (λ p. row_values F w i h s p) polys
      → (ys ≡ row_values F w i h (a + s) word) × (us ≡ row_values F w i h s input)
  rows_of_folds_with_input word input us n is e =
      let each = λ (m : ℕ) (l : m < 2 ^ s). is.rows top w W (i * 2 ^ s + m) (h + s) (part ys m (2 ^ a)) (get_or us m F.zero) (omega (arith, within)) (below_all m l) (length-of_part F w i h s a ys long m l)
      (at_each (2 ^ s) (λ b m. F.add (fold_at F w i h s a b ys m) (F.mul (pow F b (2 ^ a)) (get_or us m F.zero))) (λ p j. val F p (pt F w (i * 2 ^ s + j) (h + s))) betas polys e m l F.zero) in (
        rows_together F w i h s a ys long word (λ m l. (each m l).0),
        sym (tabulate-get_or (2 ^ s) us F.zero n)
            ∙ tabulate-equal (2 ^ s) (λ m. get_or us m F.zero) (λ m. val F input (pt F w (i * 2 ^ s + m) (h + s))) (λ m l. (each m l).1),
      )

-- a node
module _ {A : Type 0} (F : FieldOps A) (rounds : List (ℕ × Bool)) (trees : List (A × Tree A)) (polys : List (List A)) (word : List A) (later : List (List A))
    (known : AllZip (λ t p. UnfoldsTo F rounds t.1 p) trees polys) (behind : HasInputsOf F rounds trees later) where
  values_without_input : (a : ℕ) → IsUnfolding F a (map (λ t. t.0) trees) polys word → IsTreeUnfolding F ((a, false) ∷ rounds) (node (subtrees trees)) word later
  values_without_input a is = record {
    values = λ top w W i h ys us within below long n b. (
      rows_of_folds F top w W i h (log_sum rounds) a ys long within below (map (λ t. t.0) trees) polys word is
          (folded_values F top w W i h rounds (omega (arith, within)) below (a, false) us ys n trees polys known b),
      later_values F top w W i h rounds (omega (arith, within)) below (a, false) us ys n trees later behind b F.zero,
    );
  }

  values_with_input : (a : ℕ) (input : List A) → IsUnfoldingWithInput F a (map (λ t. t.0) trees) polys word input → (top : ℕ) (w : ℕ → A) → AreRoots F top w
      → (i h : ℕ) (ys : List A) (us : List (List A)) → h + (a + log_sum rounds) ≤ top → i < 2 ^ h → length ys ≡ 2 ^ (a + log_sum rounds)
      → map (λ u. length u) us ≡ 2 ^ log_sum rounds ∷ map (λ s. 2 ^ s) (input_logs rounds)
      → EachBranch F w i h (a, true) rounds us ys (subtrees trees)
      → (ys ≡ row_values F w i h (a + log_sum rounds) word) × (us ≡ row_values F w i h (log_sum rounds) input ∷ input_values F w i h (input_logs rounds) later)
  values_with_input a input is top w W i h ys [] within below long n b = absurd (omega (arith, ap length n))
  values_with_input a input is top w W i h ys (u ∷ us) within below long n b =
      let both = rows_of_folds_with_input F top w W i h (log_sum rounds) a ys long within below (map (λ t. t.0) trees) polys word input u (head_eq n) is
      (folded_values F top w W i h rounds (omega (arith, within)) below (a, true) (u ∷ us) ys (tail_eq n) trees polys known b) in
      (both.0, ap₂ (λ v vs. v ∷ vs) both.1 (later_values F top w W i h rounds (omega (arith, within)) below (a, true) (u ∷ us) ys (tail_eq n) trees later behind b F.zero))

  pub is_node_unfolding : (round : ℕ × Bool) (inputs : List (List A)) → IsRoundUnfolding F round (map (λ t. t.0) trees) polys word later inputs
      → IsTreeUnfolding F (round ∷ rounds) (node (subtrees trees)) word inputs
  is_node_unfolding (a, false) inputs is = subst (λ cs. IsTreeUnfolding F ((a, false) ∷ rounds) (node (subtrees trees)) word cs) (sym is.1) (values_without_input a is.0)
  is_node_unfolding (a, true) inputs is =
      subst (λ cs. IsTreeUnfolding F ((a, true) ∷ rounds) (node (subtrees trees)) word cs) (sym is.2)
      (record { values = λ top w W i h ys us within below long n b. values_with_input a is.0 is.1 top w W i h ys us within below long n b })

-- a leaf
pub is_leaf_unfolding : {A : Type 0} (F : FieldOps A) (p : List A) → IsTreeUnfolding F [] (leaf p) p []
is_leaf_unfolding F p = record {
  values = λ top w W i h ys us within below long n b.
      (b ∙ ap₂ (λ q k. val F p (pt F w q k) ∷ []) (let same : i ≡ i * 2 ^ 0 + 0 = omega arith in same) (let same : h ≡ h + 0 = omega arith in same), none us n);
}
  where
    none : {B : Type 0} (us : List (List B)) → map (λ u. length u) us ≡ [] → us ≡ []
    none [] e = refl
    none (u ∷ us) e = absurd (omega (arith, ap length e))

-- one round over leaves
module _ {A : Type 0} (F : FieldOps A) where
  abbrev leaf_trees : List A → List (List A) → List (A × Tree A)
  leaf_trees [] ps = []
  leaf_trees (b ∷ bs) [] = []
  leaf_trees (b ∷ bs) (p ∷ ps) = (b, leaf p) ∷ leaf_trees bs ps

  leaf_trees-beside : (bs : List A) (ps : List (List A)) → subtrees (leaf_trees bs ps) ≡ leaves_beside bs ps
  leaf_trees-beside [] ps = refl
  leaf_trees-beside (b ∷ bs) [] = refl
  leaf_trees-beside (b ∷ bs) (p ∷ ps) = ap (λ ts. subtree b (leaf p) ts) (leaf_trees-beside bs ps)

  leaf_trees-betas : (bs : List A) (ps : List (List A)) → length bs ≡ length ps → map (λ t. t.0) (leaf_trees bs ps) ≡ bs
  leaf_trees-betas [] ps e = refl
  leaf_trees-betas (b ∷ bs) [] e = absurd (omega (arith, e))
  leaf_trees-betas (b ∷ bs) (p ∷ ps) e = ap (λ cs. b ∷ cs) (leaf_trees-betas bs ps (omega (arith, e)))

  leaf_trees-unfold : (bs : List A) (ps : List (List A)) → length bs ≡ length ps → AllZip (λ t p. UnfoldsTo F [] t.1 p) (leaf_trees bs ps) ps
  leaf_trees-unfold [] [] e = tt
  leaf_trees-unfold [] (p ∷ ps) e = absurd (omega (arith, e))
  leaf_trees-unfold (b ∷ bs) [] e = absurd (omega (arith, e))
  leaf_trees-unfold (b ∷ bs) (p ∷ ps) e = (record { inputs = []; is = is_leaf_unfolding F p }, leaf_trees-unfold bs ps (omega (arith, e)))

  leaf_trees-inputs : (bs : List A) (ps : List (List A)) → length bs ≡ length ps → 0 < length bs → HasInputsOf F [] (leaf_trees bs ps) []
  leaf_trees-inputs [] ps e l = absurd (omega (arith, l))
  leaf_trees-inputs (b ∷ bs) [] e l = absurd (omega (arith, e))
  leaf_trees-inputs (b ∷ bs) (p ∷ ps) e l = record { place = 0; word = p; inside = omega arith; is = λ d. is_leaf_unfolding F p }

  pub is_one_round : (round : ℕ × Bool) (betas : List A) (polys : List (List A)) (word : List A) (inputs : List (List A)) → length betas ≡ length polys → 0 < length betas
      → IsRoundUnfolding F round betas polys word [] inputs → IsTreeUnfolding F (round ∷ []) (one_round betas polys) word inputs
  is_one_round round betas polys word inputs e l is =
      subst (λ ts. IsTreeUnfolding F (round ∷ []) (node ts) word inputs) (leaf_trees-beside betas polys)
      (is_node_unfolding F [] (leaf_trees betas polys) polys word [] (leaf_trees-unfold betas polys e) (leaf_trees-inputs betas polys e l) round inputs
      (subst (λ bs. IsRoundUnfolding F round bs polys word [] inputs) (sym (leaf_trees-betas betas polys e)) is))
