-- Bit-reversed order by swaps: the entries `i` and `rev k i` change places when the loop comes to
-- the lesser of the two.
use Rattle.std.proofs.Common.{◌≡◌, ◌≢◌, ℕ, ◌+◌, ◌^◌, ◌<◌, ◌≤◌, min, ◌⊎◌, inl, inr, List, length}
use Rattle.std.proofs.Common.{get_or, refl, sym, ap, ◌∙◌, arith}
use Rattle.std.specs.List.{SwappedAt}
use Rattle.std.proofs.lemmas.Bool.{cases_lt}
use Rattle.algebra.specs.Digits.{rev}
use Rattle.algebra.proofs.Digits.{rev-lt, rev-rev, rev-of_zero}
use Rattle.p3_field_core.specs.Index.{bit_reversed}
use Rattle.p3_field_core.proofs.IndexReversal.{bit_reversed_by_entries}

-- `xs` became `ys`: the pairs with an index below `i` have changed places, the others haven't
pub record SwapsPairsBelow {A : Type 0} (k : ℕ) (xs : List A) (i : ℕ) (ys : List A) : Type 0 where
  pub swapped : (m : ℕ) (d : A) → m < 2 ^ k → min m (rev k m) < i
      → get_or ys m d ≡ get_or xs (rev k m) d
  pub kept : (m : ℕ) (d : A) → m < 2 ^ k → i ≤ min m (rev k m) → get_or ys m d ≡ get_or xs m d

module _ {A : Type 0} (k : ℕ) (xs : List A) where
  pub swaps_all : (ys : List A) → length xs ≡ 2 ^ k → length ys ≡ 2 ^ k
      → SwapsPairsBelow k xs (2 ^ k) ys → ys ≡ bit_reversed k xs
  swaps_all ys e f S =
      bit_reversed_by_entries k xs ys e f (λ m d l. S.swapped m d l (omega (arith, l)))

  module _ (i : ℕ) (ys : List A) (within : i < 2 ^ k) (S : SwapsPairsBelow k xs i ys) where
    there_and_back : rev k (rev k i) ≡ i
    there_and_back = rev-rev k i within

    -- the one pair of which `i` is the lesser
    in_pair : (m : ℕ) → m < 2 ^ k → i ≤ min m (rev k m) → min m (rev k m) < i + 1
        → (m ≡ i) ⊎ (m ≡ rev k i)
    in_pair m l above below = elim (cases_lt i m) [
      | inl greater ↦ inr (sym (rev-rev k m l) ∙ ap (rev k) (omega (arith, above, below, greater)))
      | inr not_greater ↦ inl (omega (arith, above, not_greater))
    ]

    -- `i` is the greater of its pair, or a pair of its own
    pub swaps_unpaired : rev k i ≤ i → SwapsPairsBelow k xs (i + 1) ys
    swaps_unpaired le = record {
      swapped = λ m d l below. elim (cases_lt (min m (rev k m)) i) [
        | inl before ↦ S.swapped m d l before
        | inr now ↦
            let alone : m ≡ rev k m = elim (in_pair m l now below) [
              | inl e ↦ omega (arith, now, le, e, ap (rev k) e)
              | inr e ↦ omega (arith, now, le, e, ap (rev k) e ∙ there_and_back)
            ] in
            S.kept m d l now ∙ ap (λ j. get_or xs j d) alone
      ];
      kept = λ m d l above. S.kept m d l (omega (arith, above));
    }

    pub swaps_pair : (zs : List A) → i < rev k i → SwappedAt ys zs i (rev k i)
        → SwapsPairsBelow k xs (i + 1) zs
    swaps_pair zs less exchange = record {
      swapped = λ m d l below. elim (cases_lt (min m (rev k m)) i) [
        | inl before ↦ other m d (λ e. omega (arith, before, less, e, ap (rev k) e))
            (λ e. omega (arith, before, less, e, ap (rev k) e ∙ there_and_back))
            ∙ S.swapped m d l before
        | inr now ↦ elim (in_pair m l now below) [
          | inl e ↦ ap (λ j. get_or zs j d) e ∙ exchange.0 d
              ∙ S.kept (rev k i) d (rev-lt k i) (omega (arith, less, there_and_back))
              ∙ ap (λ j. get_or xs (rev k j) d) (sym e)
          | inr e ↦ ap (λ j. get_or zs j d) e ∙ exchange.1 d
              ∙ S.kept i d within (omega (arith, less))
              ∙ ap (λ j. get_or xs j d) (sym (ap (rev k) e ∙ there_and_back))
        ]
      ];
      kept = λ m d l above. other m d (λ e. omega (arith, above, e))
          (λ e. omega (arith, above, ap (rev k) e ∙ there_and_back))
          ∙ S.kept m d l (omega (arith, above));
    }
      where
        other : (m : ℕ) (d : A) → m ≢ i → m ≢ rev k i → get_or zs m d ≡ get_or ys m d
        other m d = exchange.2 m d

  -- the first entry stays
  pub swaps_first : 0 < 2 ^ k → SwapsPairsBelow k xs 1 xs
  swaps_first some = swaps_unpaired 0 xs some none (omega (arith, rev-of_zero k))
    where
      none : SwapsPairsBelow k xs 0 xs
      none = record {
        swapped = λ m d l below. absurd (omega (arith, below));
        kept = λ m d l above. refl;
      }
