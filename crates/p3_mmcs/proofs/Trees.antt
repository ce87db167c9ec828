-- Where the digests of a tree stand in their list.
use Rattle.std.proofs.Common.{◌≡◌, ℕ, zero, suc, ◌+◌, ◌-◌, ◌*◌, ◌/◌, ◌^◌, ◌<◌, ◌≤◌, List, []}
use Rattle.std.proofs.Common.{length, slice_index_or, sym, ◌++◌, ap, ap₂, ◌∙◌, arith, inl, inr, ◌%◌, cond}
use Rattle.std.proofs.Common.{eq-eqb, ◌∷◌, suc-add, zero-add}
use Rattle.std.proofs.lemmas.Bool.{cases_eq, ne_eqb}
use Rattle.std.proofs.lemmas.Nat.{pow_pos}
use Rattle.std.proofs.Math.Nat.{pow-le-pow_right}
use Rattle.std.proofs.Math.Pow.{shr-shr, shr_lt}
use Rattle.algebra.specs.Polynomial.{tabulate}
use Rattle.algebra.proofs.Lists.{get_or-tabulate, tabulate-get_or, tabulate-equal}
use Rattle.algebra.proofs.Powers.{double}
use Rattle.p3_mmcs.specs.Tree.{node, digest_at, root_of, sibling_of}
use Rattle.p3_mmcs.specs.Digests.{IsTree}

-- a row of values goes on with those at the next places
pub tabulate_more : {A : Type 0} (n m : ℕ) (f : ℕ → A) (part : List A) (d : A) → length part ≡ m
    → ((k : ℕ) → k < m → slice_index_or part k d ≡ f (n + k))
    → tabulate n f ++ part ≡ tabulate (n + m) f
tabulate_more zero m f part d len entry =
    sym (tabulate-get_or m part d len)
    ∙ tabulate-equal m (λ k. slice_index_or part k d) f (λ k l. entry k l ∙ ap f (zero-add k))
    ∙ ap (λ k. tabulate k f) (sym (zero-add m))
tabulate_more (suc n) m f part d len entry =
    ap (λ xs. f zero ∷ xs)
    (tabulate_more n m (λ i. f (suc i)) part d len (λ k l. entry k l ∙ ap f (suc-add n k)))
    ∙ ap (λ k. tabulate k f) (sym (suc-add n m))

-- a tree of which the first `made` parents stand
pub record TreeUpTo (leaves : ℕ → List ℕ) (count made : ℕ) (digests : List (List ℕ)) : Type 0 where
  pub len : length digests ≡ count + made
  pub leaf : (i : ℕ) → i < count → slice_index_or digests i [] ≡ leaves i
  pub parent : (k : ℕ) → k < made → slice_index_or digests (count + k) []
      ≡ node (slice_index_or digests (2 * k) []) (slice_index_or digests (2 * k + 1) [])

-- a tree over listed leaves is one over those that are listed
pub tree_over : (leaves : ℕ → List ℕ) (count : ℕ) (listed digests : List (List ℕ))
    → listed ≡ tabulate count leaves
    → IsTree (λ i. slice_index_or listed i []) count digests → IsTree leaves count digests
tree_over leaves count listed digests is tree = record {
  len = tree.len;
  leaf = λ i l. tree.leaf i l ∙ ap (λ ls. slice_index_or ls i []) is
      ∙ get_or-tabulate count leaves i [] l;
  parent = tree.parent;
}

module _ (leaves : ℕ → List ℕ) (log : ℕ) (digests : List (List ℕ))
    (tree : IsTree leaves (2 ^ log) digests) where
  -- the digest at `i` of the layer at `level`
  pub digest_is : (level i at : ℕ) → level ≤ log → i < 2 ^ (log - level)
      → at + 2 * 2 ^ (log - level) ≡ 2 * 2 ^ log + i
      → slice_index_or digests at [] ≡ digest_at leaves level i
  unfolding digest_at
  digest_is zero i at le below place =
      ap (λ k. slice_index_or digests k []) (omega (arith, place, all))
      ∙ tree.leaf i (omega (arith, below, all))
    where
      all : 2 ^ (log - 0) ≡ 2 ^ log
      all = ap (λ n. 2 ^ n) (omega arith)
  digest_is (suc level) i at le below place =
      ap (λ k. slice_index_or digests k []) (omega (arith, place, layer, room))
      ∙ tree.parent (2 ^ log + i - 2 * half) (omega (arith, below, room, pow_pos (log - suc level)))
      ∙ ap₂ node
      (digest_is level (2 * i) (2 * (2 ^ log + i - 2 * half)) (omega (arith, le))
      (omega (arith, below, layer)) (omega (arith, layer, room)))
      (digest_is level (2 * i + 1) (2 * (2 ^ log + i - 2 * half) + 1) (omega (arith, le))
      (omega (arith, below, layer)) (omega (arith, layer, room)))
    where
      half : ℕ
      half = 2 ^ (log - suc level)

      layer : 2 ^ (log - level) ≡ 2 * half
      layer = ap (λ n. 2 ^ n) (omega (arith, le)) ∙ double (log - suc level) ∙ omega arith

      room : 2 * half ≤ 2 ^ log
      room = omega (
        arith,
        layer,
        pow-le-pow_right {n = 2} (omega arith)
            (let e : log - level ≤ log = omega arith in e),
      )

  -- the last is the root
  pub last_is : slice_index_or digests (length digests - 1) [] ≡ root_of leaves log
  last_is = digest_is log 0 (length digests - 1) (omega arith) (pow_pos (log - log))
      (omega (arith, tree.len, pow_pos log, one))
    where
      one : 2 ^ (log - log) ≡ 1
      one = ap (λ n. 2 ^ n) (let e : log - log ≡ 0 = omega arith in e) ∙ omega arith

sibling_even : (i : ℕ) → i % 2 ≡ 0 → sibling_of i ≡ i + 1
sibling_even i e = ap (λ b. cond b (i + 1) (i - 1)) (eq-eqb (i % 2) 0 e)

sibling_odd : (i : ℕ) → (i % 2 ≡ 0 → ⊥) → sibling_of i ≡ i - 1
sibling_odd i e = ap (λ b. cond b (i + 1) (i - 1)) (ne_eqb (i % 2) 0 e)

-- siblings stand beside each other wherever a layer of even length begins at an even place
sibling_place : (at i half n : ℕ) → at + 2 * (2 * half) ≡ 2 * n + i
    → sibling_of at + 2 * (2 * half) ≡ 2 * n + sibling_of i
sibling_place at i half n place = elim (cases_eq (i % 2) 0) [
  | inl e ↦ omega (arith, place, sibling_even i e, sibling_even at (omega (arith, place, e)))
  | inr o ↦ omega (arith, place, sibling_odd i o, sibling_odd at (λ e. o (omega (arith, place, e))))
]

sibling_below : (i half : ℕ) → i < 2 * half → sibling_of i < 2 * half
sibling_below i half l = elim (cases_eq (i % 2) 0) [
  | inl e ↦ omega (arith, l, e, sibling_even i e)
  | inr o ↦ omega (arith, l, sibling_odd i o)
]

pub sibling_le : (i : ℕ) → sibling_of i ≤ i + 1
sibling_le i = elim (cases_eq (i % 2) 0) [
  | inl e ↦ omega (arith, sibling_even i e)
  | inr o ↦ omega (arith, sibling_odd i o)
]

-- the way up from a leaf, at a layer below the root
module _ (log level index at : ℕ) (le : level < log) (below : index < 2 ^ log)
    (place : at + 2 * 2 ^ (log - level) ≡ 2 * 2 ^ log + index / 2 ^ level) where
  abbrev half : ℕ
  half = 2 ^ (log - (level + 1))

  layer : 2 ^ (log - level) ≡ 2 * half
  layer = ap (λ n. 2 ^ n) (omega (arith, le)) ∙ double (log - (level + 1)) ∙ omega arith

  above : index / 2 ^ level < 2 * half
  above = omega (
    arith,
    layer,
    shr_lt {n = index} (log - level) level
        (omega (arith, below, joined)),
  )
    where
      joined : 2 ^ (log - level + level) ≡ 2 ^ log
      joined = ap (λ n. 2 ^ n) (omega (arith, le))

  pub at_below : at + 2 < 2 * 2 ^ log
  at_below = omega (arith, place, layer, above, pow_pos (log - (level + 1)))

  pub at_next : 2 ^ log + at / 2 + 2 * 2 ^ (log - (level + 1))
      ≡ 2 * 2 ^ log + index / 2 ^ (level + 1)
  at_next = step at (index / 2 ^ level) half (2 ^ log) (index / 2 ^ (level + 1))
      (omega (arith, place, layer)) (shr-shr index level 1)
    where
      step : (at i h n j : ℕ) → at + 2 * (2 * h) ≡ 2 * n + i → i / 2 ≡ j
          → n + at / 2 + 2 * h ≡ 2 * n + j
      step at i h n j p e = omega (arith, p, e)

  pub sibling_is : (leaves : ℕ → List ℕ) (digests : List (List ℕ)) → IsTree leaves (2 ^ log) digests
      → slice_index_or digests (sibling_of at) []
      ≡ digest_at leaves level (sibling_of (index / 2 ^ level))
  sibling_is leaves digests tree =
      digest_is leaves log digests tree level (sibling_of (index / 2 ^ level)) (sibling_of at)
      (omega (arith, le))
      (omega (arith, layer, sibling_below (index / 2 ^ level) half above))
      (omega (
        arith,
        layer,
        sibling_place at (index / 2 ^ level) half (2 ^ log)
            (omega (arith, place, layer)),
      ))
