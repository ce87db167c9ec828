-- Sums of lists, entry by entry, and of several lists times factors.
use Rattle.std.proofs.Common.{◌≡◌, ℕ, zero, suc, ◌+◌, ◌-◌, ◌<◌, ◌≤◌, List, [], ◌∷◌, ◌++◌, length, map, drop, take}
use Rattle.std.proofs.Common.{replicate, get_or, refl, sym, ap, ap₂, ◌∙◌, arith}
use Rattle.std.proofs.lemmas.List.{length-map, length-replicate, drop_more, get_or-map, same_lists}
use Rattle.algebra.specs.Field.{FieldOps, IsRing}
use Rattle.algebra.specs.Lists.{add_lists}
use Rattle.algebra.specs.RecombinedQuotients.{combined}
use Rattle.algebra.proofs.Values.{length-add_lists}
use Rattle.algebra.proofs.Ring.{◌:+◌, ◌:*◌, ◌:=◌, ring, :1, minus, o}

module _ {A : Type 0} (F : FieldOps A) where
  -- minus the sum of these lists times their factors
  abbrev pub balance : (m size : ℕ) (factors : List A) (masks : List (List A)) → List A
  balance m size factors masks = map (λ a. F.mul (F.neg F.one) a)
      (combined F m (λ i. get_or factors i F.zero) (λ i. get_or masks i []) (replicate size F.zero))

  -- what the masks from `i` on add to `written` is the whole
  abbrev pub IsBalanced : (size : ℕ) (factors : List A) (masks : List (List A)) (i : ℕ)
      (written : List A) → Type 0
  IsBalanced size factors masks i written =
      add_lists F written (balance (length factors - i) size (drop i factors) (drop i masks))
      ≡ balance (length factors) size factors masks

module _ {A : Type 0} (F : FieldOps A) (R : IsRing F) where
  infixl 65 ◌⊕◌
  infixl 70 ◌⊗◌
  open F use {zero as 𝟘, one as 𝟙, add as ◌⊕◌, mul as ◌⊗◌, neg}

  pub get_or-add_lists : (xs ys : List A) (i : ℕ) (d : A) → length xs ≡ length ys → i < length xs
      → get_or (add_lists F xs ys) i d ≡ get_or xs i d ⊕ get_or ys i d
  get_or-add_lists [] ys i d e l = absurd (omega (arith, l))
  get_or-add_lists (x ∷ xs) [] i d e l = absurd (omega (arith, e))
  get_or-add_lists (x ∷ xs) (y ∷ ys) zero d e l = refl
  get_or-add_lists (x ∷ xs) (y ∷ ys) (suc i) d e l =
      get_or-add_lists xs ys i d (omega (arith, e)) (omega (arith, l))

  -- entry by entry, the sums with another list's entries times a factor
  pub scaled_added : (xs others written : List A) (f : A) → length xs ≡ length others
      → length written ≡ length xs
      → ((k : ℕ) (d : A) → k < length others
      → get_or written k d ≡ get_or xs k d ⊕ f ⊗ get_or others k d)
      → written ≡ add_lists F xs (map (λ a. f ⊗ a) others)
  scaled_added xs others written f e w h =
      same_lists written (add_lists F xs (map (λ a. f ⊗ a) others))
      (w ∙ sym (length-add_lists F xs (map (λ a. f ⊗ a) others) same))
      (λ k d l. h k d (omega (arith, l, w, e))
      ∙ ap (λ x. get_or xs k d ⊕ x)
      (sym (get_or-map (λ a. f ⊗ a) others k d d (omega (arith, l, w, e))))
      ∙ sym (get_or-add_lists xs (map (λ a. f ⊗ a) others) k d same (omega (arith, l, w))))
    where
      same : length xs ≡ length (map (λ a. f ⊗ a) others)
      same = e ∙ sym (length-map others (λ a. f ⊗ a))

  add_lists-assoc : (xs ys zs : List A)
      → add_lists F xs (add_lists F ys zs) ≡ add_lists F (add_lists F xs ys) zs
  add_lists-assoc [] ys zs = refl
  add_lists-assoc (x ∷ xs) [] zs = refl
  add_lists-assoc (x ∷ xs) (y ∷ ys) [] = refl
  add_lists-assoc (x ∷ xs) (y ∷ ys) (z ∷ zs) =
      ap₂ (λ x xs. x ∷ xs) (sym (R.add_assoc x y z)) (add_lists-assoc xs ys zs)

  add_lists-zeros : (n : ℕ) (xs : List A) → length xs ≤ n → add_lists F xs (replicate n 𝟘) ≡ xs
  add_lists-zeros n [] l = refl
  add_lists-zeros zero (x ∷ xs) l = absurd (omega (arith, l))
  add_lists-zeros (suc n) (x ∷ xs) l =
      ap₂ (λ x xs. x ∷ xs) (R.add_zero x) (add_lists-zeros n xs (omega (arith, l)))

  zeros-add_lists : (n : ℕ) (xs : List A) → length xs ≤ n → add_lists F (replicate n 𝟘) xs ≡ xs
  zeros-add_lists zero [] l = refl
  zeros-add_lists (suc n) [] l = refl
  zeros-add_lists zero (x ∷ xs) l = absurd (omega (arith, l))
  zeros-add_lists (suc n) (x ∷ xs) l =
      ap₂ (λ x xs. x ∷ xs) (R.add_comm 𝟘 x ∙ R.add_zero x) (zeros-add_lists n xs (omega (arith, l)))

  length-add_lists-le : (xs ys : List A) → length (add_lists F xs ys) ≤ length ys
  length-add_lists-le [] ys = omega arith
  length-add_lists-le (x ∷ xs) [] = omega arith
  length-add_lists-le (x ∷ xs) (y ∷ ys) = omega (arith, length-add_lists-le xs ys)

  -- minus a sum
  negated-sum : (f : A) (xs ys : List A)
      → map (λ a. neg 𝟙 ⊗ a) (add_lists F (map (λ a. f ⊗ a) xs) ys)
      ≡ add_lists F (map (λ a. neg f ⊗ a) xs) (map (λ a. neg 𝟙 ⊗ a) ys)
  negated-sum f [] ys = refl
  negated-sum f (x ∷ xs) [] = refl
  negated-sum f (x ∷ xs) (y ∷ ys) =
      ap₂ (λ x xs. x ∷ xs)
      (ring F R 3 (λ f x y. minus :1 :* (f :* x :+ y) := minus f :* x :+ minus :1 :* y) refl f x y)
      (negated-sum f xs ys)

  negated-zeros : (n : ℕ) → map (λ a. neg 𝟙 ⊗ a) (replicate n 𝟘) ≡ replicate n 𝟘
  negated-zeros zero = refl
  negated-zeros (suc n) =
      ap₂ (λ x xs. x ∷ xs) (ring F R 1 (λ y. minus y :* o := o) refl 𝟙) (negated-zeros n)

  length-combined-le : (m size : ℕ) (c : ℕ → A) (t : ℕ → List A)
      → length (combined F m c t (replicate size 𝟘)) ≤ size
  length-combined-le zero size c t = omega (arith, length-replicate size 𝟘)
  length-combined-le (suc m) size c t =
      omega (
        arith,
        length-add_lists-le (map (λ a. c zero ⊗ a) (t zero))
            (combined F m (λ i. c (suc i)) (λ i. t (suc i)) (replicate size 𝟘)),
        length-combined-le m size (λ i. c (suc i)) (λ i. t (suc i)),
      )

  pub none_added : (size : ℕ) (factors : List A) (masks : List (List A)) (written : List A)
      → written ≡ replicate size 𝟘 → IsBalanced F size factors masks 0 written
  none_added size factors masks written e =
      ap (λ xs. add_lists F xs (balance F (length factors - 0) size factors masks)) e
      ∙ ap (λ n. add_lists F (replicate size 𝟘) (balance F n size factors masks))
      (let z : length factors - 0 ≡ length factors = omega arith in z)
      ∙ zeros-add_lists size (balance F (length factors) size factors masks)
      (omega (
        arith,
        length-map (combined F (length factors) (λ i. get_or factors i 𝟘)
            (λ i. get_or masks i []) (replicate size 𝟘)) (λ a. neg 𝟙 ⊗ a),
        length-combined-le (length factors) size (λ i. get_or factors i 𝟘) (λ i. get_or masks i []),
      ))

  pub one_more_added : (size : ℕ) (factors : List A) (masks : List (List A)) (i : ℕ) (f : A)
      (mask written grown : List A) → IsBalanced F size factors masks i written
      → i < length factors → i < length masks → f ≡ neg (get_or factors i 𝟘)
      → mask ≡ get_or masks i [] → grown ≡ add_lists F written (map (λ a. f ⊗ a) mask)
      → IsBalanced F size factors masks (i + 1) grown
  one_more_added size factors masks i f mask written grown before l m is mask_is more =
      ap (λ xs. add_lists F xs rest)
      (more ∙ ap₂ (λ g t. add_lists F written (map (λ a. g ⊗ a) t)) is mask_is)
      ∙ sym (add_lists-assoc written (map (λ a. neg g ⊗ a) t) rest)
      ∙ ap (λ xs. add_lists F written xs) (sym (negated-sum g t
      (combined F (length factors - (i + 1)) (λ j. get_or (drop (i + 1) factors) j 𝟘)
      (λ j. get_or (drop (i + 1) masks) j []) (replicate size 𝟘))))
      ∙ ap₂ (λ fs ms. add_lists F written (balance F (suc (length factors - (i + 1))) size fs ms))
      (sym (drop_more factors i 𝟘 l)) (sym (drop_more masks i [] m))
      ∙ ap (λ n. add_lists F written (balance F n size (drop i factors) (drop i masks)))
      (let e : suc (length factors - (i + 1)) ≡ length factors - i = omega (arith, l) in e)
      ∙ before
    where
      g : A
      g = get_or factors i 𝟘

      t : List A
      t = get_or masks i []

      rest : List A
      rest = balance F (length factors - (i + 1)) size (drop (i + 1) factors) (drop (i + 1) masks)

  pub all_added : (size : ℕ) (factors : List A) (masks : List (List A)) (i : ℕ) (written : List A)
      → IsBalanced F size factors masks i written → length factors ≤ i → length written ≤ size
      → written ≡ balance F (length factors) size factors masks
  all_added size factors masks i written before l w =
      sym (add_lists-zeros size written w)
      ∙ ap (λ xs. add_lists F written xs) (sym (negated-zeros size))
      ∙ ap (λ n. add_lists F written (balance F n size (drop i factors) (drop i masks)))
      (let z : 0 ≡ length factors - i = omega (arith, l) in z)
      ∙ before

  -- an empty list that was filled up with zeros
  pub resized : (size len : ℕ) (old new : List A) (value : A) → old ≡ [] → len ≡ 0 → value ≡ 𝟘
      → new ≡ take size old ++ replicate (size - len) value → new ≡ replicate size 𝟘
  resized size len old new value empty none null made =
      made
      ∙ ap₂ (λ xs n. take size xs ++ replicate n value) empty
      (let e : size - len ≡ size = omega (arith, none) in e)
      ∙ ap (λ xs. xs ++ replicate size value) (take_none size)
      ∙ ap (λ v. replicate size v) null
    where
      take_none : (n : ℕ) → take {A = A} n [] ≡ []
      take_none zero = refl
      take_none (suc n) = refl

  -- the given masks, and the one that balances them
  pub masks_are : (n size : ℕ) (factors wanted : List A) (masks random all : List (List A))
      (last : List A) → factors ≡ wanted → length wanted ≡ n → masks ≡ random
      → last ≡ balance F (length factors) size factors masks → all ≡ masks ++ last ∷ []
      → all ≡ random ++ balance F n size wanted random ∷ []
  masks_are n size factors wanted masks random all last f l m is made =
      made
      ∙ ap₂ (λ ms x. ms ++ x ∷ []) m
      (is ∙ ap₂ (λ fs ms. balance F (length fs) size fs ms) f m
      ∙ ap (λ k. balance F k size wanted random) l)
