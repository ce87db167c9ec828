-- What is added entry by entry: bytes to a label, and labels to a description.
use Rattle.std.proofs.Common.{◌≡◌, ℕ, ◌+◌, ◌<◌, ◌≤◌, List, [], ◌∷◌, ◌++◌, length, map, take, get_or, sym, ap, ◌∙◌, append_assoc}
use Rattle.std.specs.List.{flat_map}
use Rattle.std.proofs.lemmas.List.{append-nil, flat_map_more, map_more, take_all}
use Rattle.p3_challenger_fs.specs.Description.{Description}

module _ {A B C : Type 0} (f : B → List C) (g : A → B) (xs : List A) where
  -- one entry more
  entries_more : (i : ℕ) (x : A) → i < length xs → x ≡ get_or xs i x
      → flat_map f (map g (take i xs)) ++ f (g x) ≡ flat_map f (map g (take (i + 1) xs))
  entries_more i x l is =
      flat_map_more f [] (map g (take i xs)) (g x)
      ∙ ap (λ ys. flat_map f ys) (ap (λ y. map g (take i xs) ++ g y ∷ []) is ∙ sym (map_more g xs i x l))

  pub pushed_more : (begun before after : List C) (i : ℕ) (x : A) → i < length xs → x ≡ get_or xs i x
      → before ≡ begun ++ flat_map f (map g (take i xs)) → after ≡ before ++ f (g x)
      → after ≡ begun ++ flat_map f (map g (take (i + 1) xs))
  pushed_more begun before after i x l is known pushed =
      pushed ∙ ap (λ bs. bs ++ f (g x)) known
      ∙ append_assoc begun (flat_map f (map g (take i xs))) (f (g x))
      ∙ ap (λ ys. begun ++ ys) (entries_more i x l is)

-- with labels added at the end
abbrev pub with_labels : Description → List (List ℕ) → Description
with_labels d labels = record d { labels = d.labels ++ labels }

pub no_labels : (d : Description) → d ≡ with_labels d []
no_labels d = sym (ap (λ (ls : List (List ℕ)). record d { labels = ls }) (append-nil d.labels))

pub labels_more : (d before after : Description) (xs ys : List (List ℕ)) → before ≡ with_labels d xs
    → after ≡ with_labels before ys → after ≡ with_labels d (xs ++ ys)
labels_more d before after xs ys known added =
    added ∙ ap (λ b. with_labels b ys) known
    ∙ ap (λ (ls : List (List ℕ)). record d { labels = ls }) (append_assoc d.labels xs ys)

module _ {A B : Type 0} (h : B → List (List ℕ)) (g : A → B) (xs : List A) (d : Description) where
  pub described_more : (before after : Description) (i : ℕ) (x : A) → i < length xs
      → x ≡ get_or xs i x → before ≡ with_labels d (flat_map h (map g (take i xs)))
      → after ≡ with_labels before (h (g x))
      → after ≡ with_labels d (flat_map h (map g (take (i + 1) xs)))
  described_more before after i x l is known added =
      labels_more d before after (flat_map h (map g (take i xs))) (h (g x)) known added
      ∙ ap (λ ls. with_labels d ls) (entries_more h g xs i x l is)

  pub described_all : (after : Description) (i : ℕ) → length xs ≤ i
      → after ≡ with_labels d (flat_map h (map g (take i xs)))
      → after ≡ with_labels d (flat_map h (map g xs))
  described_all after i l known =
      known ∙ ap (λ ys. with_labels d (flat_map h (map g ys))) (take_all i xs l)
