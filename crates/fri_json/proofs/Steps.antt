-- Pairs of entries, one after another.
use Rattle.std.proofs.Common.{◌≡◌, ◌+◌, ◌<◌, ◌≤◌, ℕ, List, length, slice_index_or, subst}
use Rattle.std.proofs.Common.{below_more, arith}
use Rattle.std.proofs.lemmas.List.Elements.{at_read}
use Rattle.fri_json.specs.Difference.{AreExpected, IsExpectedText}

module _ {A B : Type 0} (Is : A → B → Type 0) (xs : List A) (ys : List B) (i : ℕ) where
  -- one more, the first of which is read from a list that is `xs`
  pub one_more : (read : List A) → read ≡ xs → (a : A) (b : B)
      → ((k : ℕ) → k < i → (x : A) (y : B) → Is (slice_index_or xs k x) (slice_index_or ys k y))
      → i < length read → i < length ys → a ≡ slice_index_or read i a → b ≡ slice_index_or ys i b
      → Is a b → (k : ℕ) → k < i + 1 → (x : A) (y : B)
      → Is (slice_index_or xs k x) (slice_index_or ys k y)
  one_more read same a b before in_read in_ys is_a is_b holds =
      below_more (λ k. (x : A) (y : B) → Is (slice_index_or xs k x) (slice_index_or ys k y)) i before
      (λ x y. at_read xs (λ z. Is z (slice_index_or ys i y)) i a
      (subst (λ l. i < length l) same in_read) (subst (λ l. a ≡ slice_index_or l i a) same is_a)
      (at_read ys (λ z. Is a z) i b in_ys is_b holds y) x)

  -- all of them
  pub all_of_them :
      ((k : ℕ) → k < i → (x : A) (y : B) → Is (slice_index_or xs k x) (slice_index_or ys k y))
      → length xs ≤ i → length xs ≡ length ys → AreExpected Is xs ys
  all_of_them before ended count = record {
    count = count;
    each = λ k x y below. before k (omega arith) x y;
  }

-- texts that were read, where their owners have the same
pub expected_text : {text expected read also : List ℕ} → read ≡ text → also ≡ expected
    → IsExpectedText read also → IsExpectedText text expected
expected_text {text} {expected} {read} {also} first second same =
    subst (λ t. IsExpectedText text t) second (subst (λ t. IsExpectedText t also) first same)
