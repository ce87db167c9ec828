-- Lists whose entries belong together, pair by pair.
use Rattle.std.proofs.Common.{◌≡◌, ℕ, ◌+◌, ◌<◌, ◌≤◌, List, [], ◌∷◌, ◌++◌, map, length, take, get_or, refl}
use Rattle.std.proofs.Common.{sym, subst, ap, ap₂, ◌∙◌}
use Rattle.std.specs.List.{AllZip}
use Rattle.std.proofs.lemmas.List.{take_all, take_more, map_more, map-append}
use Rattle.algebra.proofs.Lists.{map-map, all_zip-push}

module _ {A B : Type 0} (R : A → B → Type 0) where
  -- one pair more
  pub pairs_more : (xs : List A) (ys : List B) (i : ℕ) (x : A) (y : B) → i < length ys
      → y ≡ get_or ys i y → AllZip R xs (take i ys) → R x y
      → AllZip R (xs ++ x ∷ []) (take (i + 1) ys)
  pairs_more xs ys i x y h e pairs last =
      subst (λ zs. AllZip R (xs ++ x ∷ []) zs)
      (ap (λ z. take i ys ++ z ∷ []) e ∙ sym (take_more ys i y h))
      (all_zip-push R xs (take i ys) x y pairs last)

  pub pairs_done : (xs : List A) (ys : List B) (i : ℕ) → length ys ≤ i → AllZip R xs (take i ys)
      → AllZip R xs ys
  pairs_done xs ys i h pairs = subst (λ zs. AllZip R xs zs) (take_all i ys h) pairs

  -- what is read off both sides of each pair alike
  pub pairs_same : {C : Type 0} (f : A → C) (g : B → C) → ((x : A) (y : B) → R x y → f x ≡ g y)
      → (xs : List A) (ys : List B) → AllZip R xs ys → map g ys ≡ map f xs
  pairs_same f g same [] [] pairs = refl
  pairs_same f g same [] (y ∷ ys) pairs = absurd pairs
  pairs_same f g same (x ∷ xs) [] pairs = absurd pairs
  pairs_same f g same (x ∷ xs) (y ∷ ys) pairs =
      ap₂ (λ z zs. z ∷ zs) (sym (same x y pairs.0)) (pairs_same f g same xs ys pairs.1)

-- one entry more on both sides, read off alike
pub same_more : {A B C : Type 0} (f : A → C) (g : B → C) (xs news : List A) (ys : List B) (i : ℕ)
    (x : A) (y : B) → i < length ys → y ≡ get_or ys i y → news ≡ xs ++ x ∷ [] → f x ≡ g y
    → map f xs ≡ map g (take i ys) → map f news ≡ map g (take (i + 1) ys)
same_more f g xs news ys i x y h e pushed same known =
    ap (λ zs. map f zs) pushed ∙ map-append f xs (x ∷ [])
    ∙ ap₂ (λ zs z. zs ++ z ∷ []) known (same ∙ ap g e) ∙ sym (map_more g ys i y h)

-- what is read off an image
pub through : {A B C : Type 0} (f : B → C) (g : A → B) (xs : List A) (ys : List B) (zs : List C)
    → ys ≡ map g xs → map (λ x. f (g x)) xs ≡ zs → map f ys ≡ zs
through f g xs ys zs e h = ap (λ us. map f us) e ∙ map-map f g xs ∙ h

-- of an image on the right
pub pairs_mapped : {A B C : Type 0} (R : A → C → Type 0) (g : B → C) (xs : List A) (ys : List B)
    → AllZip (λ x y. R x (g y)) xs ys → AllZip R xs (map g ys)
pairs_mapped R g [] [] pairs = tt
pairs_mapped R g [] (y ∷ ys) pairs = absurd pairs
pairs_mapped R g (x ∷ xs) [] pairs = absurd pairs
pairs_mapped R g (x ∷ xs) (y ∷ ys) pairs = (pairs.0, pairs_mapped R g xs ys pairs.1)

-- pairs of pairs
pub pairs_through : {A B C : Type 0} (R : A → B → Type 0) (S : B → C → Type 0) (T : A → C → Type 0)
    → ((x : A) (y : B) (z : C) → R x y → S y z → T x z) → (xs : List A) (ys : List B) (zs : List C)
    → AllZip R xs ys → AllZip S ys zs → AllZip T xs zs
pairs_through R S T both [] [] [] p q = tt
pairs_through R S T both [] [] (z ∷ zs) p q = absurd q
pairs_through R S T both [] (y ∷ ys) zs p q = absurd p
pairs_through R S T both (x ∷ xs) [] zs p q = absurd p
pairs_through R S T both (x ∷ xs) (y ∷ ys) [] p q = absurd q
pairs_through R S T both (x ∷ xs) (y ∷ ys) (z ∷ zs) p q =
    (both x y z p.0 q.0, pairs_through R S T both xs ys zs p.1 q.1)

-- the entry that belongs to one among others
pub record IsPairedAmong {A B : Type 0} (R : A → B → Type 0) (x : A) (ys : List B) : Type 0 where
  pub before : List B
  pub entry : B
  pub after : List B
  pub among : ys ≡ before ++ entry ∷ after
  pub pair : R x entry

pub paired_among : {A B : Type 0} (R : A → B → Type 0) (before after : List A) (x : A) (ys : List B)
    → AllZip R (before ++ x ∷ after) ys → IsPairedAmong R x ys
paired_among R [] after x [] pairs = absurd pairs
paired_among R [] after x (y ∷ ys) pairs =
    record { before = []; entry = y; after = ys; among = refl; pair = pairs.0 }
paired_among R (z ∷ before) after x [] pairs = absurd pairs
paired_among R (z ∷ before) after x (y ∷ ys) pairs =
    let rest = paired_among R before after x ys pairs.1 in record {
      before = y ∷ rest.before;
      entry = rest.entry;
      after = rest.after;
      among = ap (λ us. y ∷ us) rest.among;
      pair = rest.pair;
    }
