-- The path that is read from a tree leads from its leaf to its root.
use Rattle.std.proofs.Common.{◌≡◌, ℕ, zero, suc, ◌+◌, ◌-◌, ◌*◌, ◌/◌, ◌%◌, ◌^◌, ◌<◌, ◌==◌, Bool}
use Rattle.std.proofs.Common.{cond, List, refl, sym, ap, ap₂, ◌∙◌, arith, true, false, eqb-true}
use Rattle.std.proofs.lemmas.Bool.{eqb-false}
use Rattle.std.proofs.Math.Pow.{shr-shr}
use Rattle.std.proofs.lemmas.Nat.{div-mul-add}
use Rattle.algebra.specs.Polynomial.{tabulate}
use Rattle.p3_mmcs.specs.Tree.{node, climb, digest_at, root_of, sibling_of, path_of}

-- a digest and its sibling are the children of their parent, in order
children : (digest : ℕ → List ℕ) (index : ℕ) (even : Bool) → (index % 2 == 0) ≡ even
    → cond even (node (digest index) (digest (cond even (index + 1) (index - 1))))
    (node (digest (cond even (index + 1) (index - 1))) (digest index))
    ≡ node (digest (2 * (index / 2))) (digest (2 * (index / 2) + 1))
children digest index true e =
    let rest : index % 2 ≡ 0 = eqb-true (index % 2) 0 e in
    ap₂ (λ i j. node (digest i) (digest j)) (omega (arith, rest)) (omega (arith, rest))
children digest index false e =
    let rest : index % 2 ≡ 0 → ⊥ = eqb-false (index % 2) 0 e in
    ap₂ (λ i j. node (digest i) (digest j)) (omega (arith, rest)) (omega (arith, rest))

module _ (leaves : ℕ → List ℕ) where
  -- one step up
  parent : (level index : ℕ)
      → cond (index % 2 == 0) (node (digest_at leaves level index)
      (digest_at leaves level (sibling_of index)))
      (node (digest_at leaves level (sibling_of index)) (digest_at leaves level index))
      ≡ digest_at leaves (suc level) (index / 2)
  unfolding digest_at
  parent level index = children (digest_at leaves level) index (index % 2 == 0) refl

  -- from any layer, by the siblings in the layers above it
  climb-tabulate : (n level index : ℕ) (siblings : ℕ → List ℕ)
      → ((k : ℕ) → k < n → siblings k ≡ digest_at leaves (level + k) (sibling_of (index / 2 ^ k)))
      → climb index (digest_at leaves level index) (tabulate n siblings)
      ≡ digest_at leaves (level + n) (index / 2 ^ n)
  climb-tabulate zero level index siblings h = ap₂ (digest_at leaves) (omega arith) (omega arith)
  climb-tabulate (suc n) level index siblings h =
      ap (λ s. climb (index / 2)
      (cond (index % 2 == 0) (node (digest_at leaves level index) s)
      (node s (digest_at leaves level index))) (tabulate n (λ k. siblings (suc k)))) first
      ∙ ap (λ d. climb (index / 2) d (tabulate n (λ k. siblings (suc k)))) (parent level index)
      ∙ climb-tabulate n (suc level) (index / 2) (λ k. siblings (suc k))
      (λ k l. h (suc k) (omega (arith, l)) ∙ ap₂ (λ i j.
      digest_at leaves i (sibling_of j)) (omega arith) (sym (halved k)))
      ∙ ap₂ (digest_at leaves) (omega arith) (halved n)
    where
      halved : (k : ℕ) → index / 2 / 2 ^ k ≡ index / 2 ^ suc k
      halved k = shr-shr index 1 k ∙ ap (λ j. index / 2 ^ j) (omega arith)

      first : siblings zero ≡ digest_at leaves level (sibling_of index)
      first = h zero (omega arith) ∙ ap₂ (λ i j.
          digest_at leaves i (sibling_of j)) (omega arith) (omega arith)

  -- from a leaf to the root
  pub climb-path_of : (height index : ℕ) → index < 2 ^ height
      → climb index (leaves index) (path_of leaves height index) ≡ root_of leaves height
  unfolding digest_at
  climb-path_of height index below =
      climb-tabulate height 0 index (λ level.
      digest_at leaves level (sibling_of (index / 2 ^ level)))
      (λ k l. ap (λ i. digest_at leaves i (sibling_of (index / 2 ^ k))) (omega arith))
      ∙ ap₂ (digest_at leaves) (omega arith)
      (ap (λ i. i / 2 ^ height) (omega arith) ∙ div-mul-add 0 (2 ^ height) index below)
