-- What holds of all elements of a list.
use Rattle.std.proofs.Common.{◌≡◌, ℕ, ◌+◌, ◌<◌, List, [], ◌∷◌, ◌++◌, take, length, map, get_or, All}
use Rattle.std.proofs.Common.{arith}
use Rattle.std.specs.List.{flat_map}
use Rattle.std.proofs.lemmas.List.{take_all}
use Rattle.std.proofs.lemmas.List.Elements.{All-nil, All-head, All-tail, All-cons, All-append}
use Rattle.std.proofs.lemmas.List.Elements.{All-weaker}
use Rattle.p3_fri_openings.specs.Sums.{StartsWith}
use Rattle.p3_fri_openings.proofs.First.{one_more}

-- a property that weakens as the list is gone through
pub weaker_next : {A : Type 0} (P Q : A → Type 0) (xs : List A) (i : ℕ) (x : A) → i < length xs
    → x ≡ get_or xs i x → ((y : A) → P y → Q y) → All P (take i xs) → Q x → All Q (take (i + 1) xs)
weaker_next P Q xs i x l is weaker so_far here =
    one_more Q xs i x l is (All-weaker P Q weaker (take i xs) so_far) here

module _ {B : Type 0} (P : B → Type 0) where
  all_first : (xs ys : List B) → All P (xs ++ ys) → All P xs
  all_first [] ys h = All-nil P
  all_first (x ∷ xs) ys h =
      All-cons P x xs (All-head P x (xs ++ ys) h) (all_first xs ys (All-tail P x (xs ++ ys) h))

  all_second : (xs ys : List B) → All P (xs ++ ys) → All P ys
  all_second [] ys h = h
  all_second (x ∷ xs) ys h = all_second xs ys (All-tail P x (xs ++ ys) h)

  module _ {A : Type 0} (f : A → List B) where
    -- what holds of each part holds of all
    pub all_joined : (xs : List A) → All (λ x. All P (f x)) xs → All P (flat_map f xs)
    all_joined [] h = All-nil P
    all_joined (x ∷ xs) h =
        All-append P (f x) (flat_map f xs) (All-head (λ x. All P (f x)) x xs h)
        (all_joined xs (All-tail (λ x. All P (f x)) x xs h))

    -- and back
    pub all_parts : (xs : List A) → All P (flat_map f xs) → All (λ x. All P (f x)) xs
    all_parts [] h = All-nil (λ x. All P (f x))
    all_parts (x ∷ xs) h =
        All-cons (λ x. All P (f x)) x xs (all_first (f x) (flat_map f xs) h)
        (all_parts xs (all_second (f x) (flat_map f xs) h))

  pub all_of_map : {A : Type 0} (f : A → B) (xs : List A) → All P (map f xs) → All (λ x. P (f x)) xs
  all_of_map f [] h = All-nil (λ x. P (f x))
  all_of_map f (x ∷ xs) h =
      All-cons (λ x. P (f x)) x xs (All-head P (f x) (map f xs) h)
      (all_of_map f xs (All-tail P (f x) (map f xs) h))

-- a list begins with itself
pub starts_itself : {A : Type 0} (xs : List A) → StartsWith xs xs
starts_itself xs = take_all (length xs) xs (omega arith)
