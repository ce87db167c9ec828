-- Ways up from eight leaves at once.
use Rattle.std.proofs.Common.{◌≡◌, ℕ, ◌+◌, ◌/◌, ◌%◌, ◌<◌, ◌==◌, List, [], ◌∷◌, ◌++◌, length, drop}
use Rattle.std.proofs.Common.{slice_index_or, slice_set, below_more, Bool, true, false, cond}
use Rattle.std.proofs.Common.{refl, sym, ap₂, ◌∙◌, arith}
use Rattle.std.proofs.lemmas.List.{get_or-set_same, get_or-set_other, at_drop_more}
use Rattle.sha2.specs.Sha256.{sha256}
use Rattle.p3_mmcs.specs.Tree.{node, climb}
use Rattle.p3_mmcs.specs.Siblings.{children_of}

-- with one entry more each up to it is as `f` says
pub entries_more : {A : Type 0} (f : ℕ → A) (entries : List A) (i : ℕ) (entry d : A)
    → i < length entries → ((k : ℕ) → k < i → slice_index_or entries k d ≡ f k) → entry ≡ f i
    → (k : ℕ) → k < i + 1 → slice_index_or (slice_set entries i entry) k d ≡ f k
entries_more f entries i entry d within before here =
    below_more (λ k. slice_index_or (slice_set entries i entry) k d ≡ f k) i
    (λ k below. get_or-set_other entries i k entry d (omega (arith, below)) ∙ before k below)
    (get_or-set_same entries i entry d within ∙ here)

-- the digest of a digest and its sibling is one step up
pub parent_is : (index : ℕ) (digest sibling : List ℕ)
    → sha256 (1 ∷ children_of index digest sibling) ≡ climb index digest (sibling ∷ [])
parent_is index digest sibling = by_side (index % 2 == 0) digest sibling
  where
    by_side : (left : Bool) (l r : List ℕ)
        → sha256 (1 ∷ cond left (l ++ r) (r ++ l)) ≡ cond left (node l r) (node r l)
    by_side true l r = refl
    by_side false l r = refl

-- one level up
pub climb_more : (path : List (List ℕ)) (level at place : ℕ) (top next root : List ℕ)
    → level < length path → climb at top (drop level path) ≡ root → place ≡ at / 2
    → next ≡ climb at top (slice_index_or path level [] ∷ [])
    → climb place next (drop (level + 1) path) ≡ root
climb_more path level at place top next root within before place_is next_is =
    ap₂ (λ p n. climb p n (drop (level + 1) path)) place_is next_is
    ∙ sym (at_drop_more (climb at top) path level [] within)
    ∙ before
