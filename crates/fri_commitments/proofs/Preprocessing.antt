-- Which batch of a request is preprocessed, found by going through them, and whether there is a
-- matrix.
use Rattle.std.proofs.Common.{◌≡◌, ◌≢◌, ℕ, zero, suc, ◌+◌, ◌<◌, List, [], ◌∷◌, ◌++◌, length, take, drop, get_or, ◌==◌}
use Rattle.std.proofs.Common.{refl, sym, subst, ap, ◌∙◌, arith, true, false, Option, Some, None, add-one, drop-cons}
use Rattle.std.specs.List.{flat_map}
use Rattle.std.specs.Option.{is_some}
use Rattle.std.proofs.Math.ListN.{take-append-drop}
use Rattle.std.proofs.lemmas.List.{take_more}
use Rattle.std.proofs.Math.Seq.{length-take-le}
use Rattle.std.proofs.lemmas.List.Elements.{All-push, All-nil}
use Rattle.algebra.proofs.Lists.{Each, each_from_All, All_from_each}
use Rattle.p3_stark_pcs.specs.Preprocessing.{ArePreprocessedAt}
use Rattle.fri_records.specs.declared.records.Batch.{Batch}
use Rattle.fri_commitments.specs.Preprocessing.{NamesPreprocessed}

abbrev IsPlain : Batch → Type 0
IsPlain b = b.preprocessed ≡ false

abbrev IsPreprocessed : Batch → Type 0
IsPreprocessed b = b.preprocessed ≡ true

not_both : (b : Batch) → IsPreprocessed b → IsPlain b → ⊥
not_both b p q = cc

named_more : (n : ℕ) (xs : List Batch) (b : Batch) → IsPlain b
    → ArePreprocessedAt IsPlain IsPreprocessed n xs → ArePreprocessedAt IsPlain IsPreprocessed n (xs ++ b ∷ [])
named_more n [] b p h = absurd h
named_more zero (x ∷ xs) b p h = (h.0, All-push IsPlain xs b h.1 p)
named_more (suc n) (x ∷ xs) b p h = (h.0, named_more n xs b p h.1)

-- one batch more, which isn't preprocessed
names_more : (found : Option ℕ) (xs : List Batch) (b : Batch) → IsPlain b → NamesPreprocessed found xs
    → NamesPreprocessed found (xs ++ b ∷ [])
names_more None xs b p h = All-push IsPlain xs b h p
names_more (Some n) xs b p h = named_more n xs b p h

-- and which is
names_first : (xs : List Batch) (b : Batch) → IsPreprocessed b → Each IsPlain xs
    → NamesPreprocessed (Some (length xs)) (xs ++ b ∷ [])
names_first [] b p h = (p, All-nil IsPlain)
names_first (x ∷ xs) b p h = (h.0, names_first xs b p h.1)

in_middle : (P : Batch → Type 0) (xs ys : List Batch) (b : Batch) → Each P (xs ++ b ∷ ys) → P b
in_middle P [] ys b h = h.0
in_middle P (x ∷ xs) ys b h = in_middle P xs ys b h.1

-- two can't be
two_at : (n : ℕ) (xs ys : List Batch) (b : Batch) → ArePreprocessedAt IsPlain IsPreprocessed n xs
    → IsPreprocessed b → (j : Option ℕ) → NamesPreprocessed j (xs ++ b ∷ ys) → ⊥
two_at n [] ys b h p j names = h
two_at zero (x ∷ xs) ys b h p None names =
    not_both x h.0 (each_from_All IsPlain (x ∷ (xs ++ b ∷ ys)) names).0
two_at zero (x ∷ xs) ys b h p (Some zero) names =
    not_both b p (in_middle IsPlain xs ys b (each_from_All IsPlain (xs ++ b ∷ ys) names.1))
two_at zero (x ∷ xs) ys b h p (Some (suc k)) names = not_both x h.0 names.0
two_at (suc n) (x ∷ xs) ys b h p None names =
    two_at n xs ys b h.1 p None
    (All_from_each IsPlain (xs ++ b ∷ ys) (each_from_All IsPlain (x ∷ (xs ++ b ∷ ys)) names).1)
two_at (suc n) (x ∷ xs) ys b h p (Some zero) names = not_both x names.0 h.0
two_at (suc n) (x ∷ xs) ys b h p (Some (suc k)) names = two_at n xs ys b h.1 p (Some k) names.1

-- of the batches up to a place
module _ (bs : List Batch) (i : ℕ) (b : Batch) (l : i < length bs) (is : b ≡ get_or bs i b) where
  one_more : take i bs ++ b ∷ [] ≡ take (i + 1) bs
  one_more = ap (λ x. take i bs ++ x ∷ []) is ∙ sym (take_more bs i b l)

  pub plain_next : (found : Option ℕ) → NamesPreprocessed found (take i bs) → b.preprocessed ≡ false
      → NamesPreprocessed found (take (i + 1) bs)
  plain_next found names p =
      subst (λ xs. NamesPreprocessed found xs) one_more (names_more found (take i bs) b p names)

  pub preprocessed_next : NamesPreprocessed None (take i bs) → b.preprocessed ≡ true
      → NamesPreprocessed (Some i) (take (i + 1) bs)
  preprocessed_next names p =
      subst (λ n. NamesPreprocessed (Some n) (take (i + 1) bs)) (length-take-le i bs (omega (arith, l)))
      (subst (λ xs. NamesPreprocessed (Some (length (take i bs))) xs) one_more
      (names_first (take i bs) b p (each_from_All IsPlain (take i bs) names)))

  front : drop i bs ≡ b ∷ drop (i + 1) bs
  front = rw (add-one, drop-cons bs i b) (ap (λ w. w ∷ drop (suc i) bs) (sym is))

  whole : take i bs ++ b ∷ drop (i + 1) bs ≡ bs
  whole = ap (λ ys. take i bs ++ ys) (sym front) ∙ take-append-drop i bs

  pub two_preprocessed : (n : ℕ) → NamesPreprocessed (Some n) (take i bs) → b.preprocessed ≡ true
      → ¬ ((j : Option ℕ) × NamesPreprocessed j bs)
  two_preprocessed n names p all =
      two_at n (take i bs) (drop (i + 1) bs) b names p all.0
      (subst (λ xs. NamesPreprocessed all.0 xs) (sym whole) all.1)

-- by whether one was found
pub none_found : (found : Option ℕ) → is_some found ≡ false → found ≡ None
none_found None e = refl
none_found (Some n) e = cc

module _ (bs : List Batch) (i : ℕ) (b : Batch) (l : i < length bs) (is : b ≡ get_or bs i b)
    (p : b.preprocessed ≡ true) where
  pub another_found : (found : Option ℕ) → is_some found ≡ true → NamesPreprocessed found (take i bs)
      → ¬ ((j : Option ℕ) × NamesPreprocessed j bs)
  another_found None e names = absurd cc
  another_found (Some n) e names = two_preprocessed bs i b l is n names p

  pub first_found : (found : Option ℕ) → is_some found ≡ false → NamesPreprocessed found (take i bs)
      → NamesPreprocessed (Some i) (take (i + 1) bs)
  first_found found e names =
      preprocessed_next bs i b l is (subst (λ f. NamesPreprocessed f (take i bs)) (none_found found e) names) p

-- a list with a number of entries
pub some_list : {A : Type 0} (xs : List A) (n : ℕ) → length xs ≡ n → (n == 0) ≡ false → xs ≢ []
some_list [] n e h none = cc
some_list (x ∷ xs) n e h none = cc

-- entries of lists one after another
pub front_none : {A : Type 0} (xs ys : List A) → xs ++ ys ≡ [] → xs ≡ []
front_none [] ys e = refl
front_none (x ∷ xs) ys e = cc

pub back_none : {A : Type 0} (xs ys : List A) → xs ++ ys ≡ [] → ys ≡ []
back_none [] ys e = e
back_none (x ∷ xs) ys e = cc

module _ {A B : Type 0} (f : A → List B) where
  pub some_at : (xs : List A) (i : ℕ) (x : A) → i < length xs → x ≡ get_or xs i x → f x ≢ []
      → flat_map f xs ≢ []
  some_at [] i x l is some none = absurd (omega (arith, l))
  some_at (y ∷ ys) zero x l is some none = some (ap f is ∙ front_none (f y) (flat_map f ys) none)
  some_at (y ∷ ys) (suc i) x l is some none =
      some_at ys i x (omega (arith, l)) is some (back_none (f y) (flat_map f ys) none)
