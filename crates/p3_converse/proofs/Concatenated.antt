-- Lists of one length, one after the other, and one of them written anew.
use Rattle.std.proofs.Common.{◌≡◌, ℕ, zero, suc, ◌+◌, ◌-◌, ◌*◌, ◌<◌, ◌≤◌, List, ◌++◌, length, take, drop, refl, sym, ap, ap₂, subst, ◌∙◌, arith, suc-add, append-nil, append_assoc, length-append, length-drop}
use Rattle.std.specs.Prelude.{slice_range}
use borrow.Rule.Slice.PartMut.{put_mid}
use Rattle.std.proofs.lemmas.List.{take_at, drop_at, drop-drop, length-take-le}
use Rattle.std.proofs.lemmas.Nat.{mul-le}
use Rattle.std.proofs.lemmas.Slice.{take-put_mid, drop-put_mid}
use Rattle.p3_converse.specs.Positions.{part, concatenated}

pub concatenated_next : {A : Type 0} (n : ℕ) (f : ℕ → List A) → concatenated (n + 1) f ≡ concatenated n f ++ f n
concatenated_next zero f = append-nil (f 0)
concatenated_next (suc n) f = ap (λ k. concatenated k f) (suc-add n 1) ∙ ap (λ ys. f zero ++ ys) (concatenated_next n (λ i. f (suc i))) ∙ sym (append_assoc (f zero) (concatenated n (λ i. f (suc i))) (f (suc n)))

pub length-concatenated : {A : Type 0} (a n : ℕ) (f : ℕ → List A) → ((i : ℕ) → i < n → length (f i) ≡ a) → length (concatenated n f) ≡ n * a
length-concatenated a zero f h = omega arith
length-concatenated a (suc n) f h = length-append (f zero) (concatenated n (λ i. f (suc i))) ∙ ap₂ (λ x y. x + y) (h zero (omega arith)) (length-concatenated a n (λ i. f (suc i)) (λ i l. h (suc i) (omega (arith, l)))) ∙ omega arith

-- entry by entry of the lists
pub concatenated-equal : {A : Type 0} (n : ℕ) (f g : ℕ → List A) → ((i : ℕ) → i < n → f i ≡ g i) → concatenated n f ≡ concatenated n g
concatenated-equal zero f g h = refl
concatenated-equal (suc n) f g h = ap₂ (λ xs ys. xs ++ ys) (h zero (omega arith)) (concatenated-equal n (λ i. f (suc i)) (λ i. g (suc i)) (λ i l. h (suc i) (omega (arith, l))))

pub range_take : {A : Type 0} (xs : List A) (j a : ℕ) → slice_range xs j (j + a) ≡ take a (drop j xs)
range_take xs j a = ap (λ k. take k (drop j xs)) (let long : (j + a) - j ≡ a = omega arith in long)

-- the `m`-th of the lists
pub part-concatenated : {A : Type 0} (a n m : ℕ) (f : ℕ → List A) → ((i : ℕ) → i < n → length (f i) ≡ a) → m < n → take a (drop (m * a) (concatenated n f)) ≡ f m
part-concatenated a zero m f h l = absurd (omega (arith, l))
part-concatenated a (suc n) zero f h l = ap (λ k. take a (drop k (f zero ++ concatenated n (λ i. f (suc i))))) (let none : 0 * a ≡ 0 = omega arith in none) ∙ take_at (f zero) (concatenated n (λ i. f (suc i))) a (h zero (omega arith))
part-concatenated a (suc n) (suc m) f h l =
    ap (λ k. take a (drop k (f zero ++ concatenated n (λ i. f (suc i))))) (let more : suc m * a ≡ a + m * a = omega arith in more)
    ∙ ap (λ xs. take a xs) (sym (drop-drop (m * a) a (f zero ++ concatenated n (λ i. f (suc i)))) ∙ ap (λ xs. drop (m * a) xs) (drop_at (f zero) (concatenated n (λ i. f (suc i))) a (h zero (omega arith))))
    ∙ part-concatenated a n m (λ i. f (suc i)) (λ i k. h (suc i) (omega (arith, k))) (omega (arith, l))

-- that by its range
pub part-of_concatenated : {A : Type 0} (a n m : ℕ) (f : ℕ → List A) → ((i : ℕ) → i < n → length (f i) ≡ a) → m < n → part (concatenated n f) m a ≡ f m
part-of_concatenated a n m f h l = range_take (concatenated n f) (m * a) a ∙ part-concatenated a n m f h l

module _ {A : Type 0} (a n : ℕ) (given : List A) (g : ℕ → List A) where
  -- of the lists in `given` the first `m` are now those of `g`
  pub record IsWrittenUpTo (m : ℕ) (entries : List A) : Type 0 where
    pub lengths : length entries ≡ n * a
    pub done : take (m * a) entries ≡ concatenated m g
    pub rest : drop (m * a) entries ≡ drop (m * a) given

  pub written_part : (m : ℕ) (entries : List A) → IsWrittenUpTo m entries → part entries m a ≡ part given m a
  written_part m entries here = range_take entries (m * a) a ∙ ap (λ xs. take a xs) here.rest ∙ sym (range_take given (m * a) a)

  pub inside : (m : ℕ) → m < n → m * a + a ≤ n * a
  inside m l = omega (arith, mul-le (m + 1) a n a (omega (arith, l)) (omega arith))

  pub length-part : (m : ℕ) (entries : List A) → m < n → length entries ≡ n * a → length (part entries m a) ≡ a
  length-part m entries l e = ap length (range_take entries (m * a) a) ∙ length-take-le a (drop (m * a) entries) (omega (arith, length-drop (m * a) entries, inside m l, e))

  pub written_step : (m b : ℕ) (entries new : List A) → m < n → b ≡ a → new ≡ g m → length new ≡ a → IsWrittenUpTo m entries → IsWrittenUpTo (m + 1) (put_mid (m * a) b entries new)
  written_step m b entries new l eb e k here = let P : ℕ → Type 0 = λ c. IsWrittenUpTo (m + 1) (put_mid (m * a) c entries new) in subst P (sym eb) at_a
    where
      next : (m + 1) * a ≡ m * a + a
      next = omega arith

      before : m * a ≤ length entries
      before = omega (arith, here.lengths, inside m l)

      at_a : IsWrittenUpTo (m + 1) (put_mid (m * a) a entries new)
      at_a = record {
        lengths =
            length-append (take (m * a) entries) (new ++ drop a (drop (m * a) entries))
            ∙ ap₂ (λ x y. x + y) (length-take-le (m * a) entries before)
            (length-append new (drop a (drop (m * a) entries)) ∙ ap₂ (λ x y. x + y) k (length-drop a (drop (m * a) entries) ∙ ap (λ x. x - a) (length-drop (m * a) entries)))
            ∙ omega (arith, here.lengths, inside m l);
        done =
            ap (λ j. take j (put_mid (m * a) a entries new)) next
            ∙ take-put_mid (m * a) a entries new (m * a + a) (omega (arith, k)) before
            ∙ ap₂ (λ xs ys. xs ++ ys) here.done e
            ∙ sym (concatenated_next m g);
        rest =
            ap (λ j. drop j (put_mid (m * a) a entries new)) next
            ∙ drop-put_mid (m * a) a entries new (m * a + a) (omega arith) before k
            ∙ sym (drop-drop a (m * a) entries)
            ∙ ap (λ xs. drop a xs) here.rest
            ∙ drop-drop a (m * a) given
            ∙ ap (λ j. drop j given) (sym next);
      }
