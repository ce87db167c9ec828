-- Matrices masked one after another.
use Rattle.std.proofs.Common.{◌≡◌, ℕ, List, [], ◌∷◌, ◌++◌, length, append_assoc, sym, ap, subst, ◌∙◌, arith}
use Rattle.std.specs.List.{AllZip}
use Rattle.std.proofs.lemmas.List.{append-nil}
use Rattle.std.proofs.lemmas.List.Sums.{sum_by_push, sum_by-cons}
use Rattle.algebra.proofs.Lists.{all_zip-push}
use Rattle.rand_core.specs.Stream.{Stream}
use Rattle.p3_matrix.specs.declared.dense.RowMajorMatrix.{RowMajorMatrix}
use Rattle.p3_matrix.specs.Words.{past}
use Rattle.p3_matrix.proofs.Words.{past_none, past-add}
use Rattle.p3_fri_masks.specs.Masked.{mask_words, IsMasked, AreMasked, mask_words_of_all}

-- what is left of a list, with its number
pub record IsLeft {X : Type 0} (yielded rest all : List X) (n : ℕ) : Type 0 where
  pub whole : yielded ++ rest ≡ all
  pub count : n ≡ length rest

pub all_left : {X : Type 0} (rest all : List X) (n len : ℕ) → rest ≡ all → n ≡ len → len ≡ length all
    → IsLeft [] rest all n
all_left rest all n len e h l = record { whole = e; count = h ∙ l ∙ ap length (sym e) }

pub one_fewer : {X : Type 0} (yielded rest later all : List X) (x : X) (n fewer : ℕ)
    → IsLeft yielded rest all n → rest ≡ x ∷ later → fewer ≡ length later → IsLeft (yielded ++ x ∷ []) later all fewer
one_fewer yielded rest later all x n fewer before step counted = record {
  whole = append_assoc yielded (x ∷ []) later ∙ ap (λ xs. yielded ++ xs) (sym step) ∙ before.whole;
  count = counted;
}

pub none_left : {X : Type 0} (yielded rest all : List X) (n : ℕ) → IsLeft yielded rest all n → n ≡ 0 → yielded ≡ all
none_left yielded [] all n left m = sym (append-nil yielded) ∙ left.whole
none_left yielded (x ∷ rest) all n left m = absurd (omega (arith, left.count, m))

-- paired lists, first none, then one pair more
pub none_paired : {A B : Type 0} (R : A → B → Type 0) (xs : List A) → xs ≡ [] → AllZip R xs []
none_paired R xs e = subst (λ zs. AllZip R zs []) (sym e) tt

pub one_more_paired : {A B : Type 0} (R : A → B → Type 0) (xs grown : List A) (ys : List B) (x : A) (y : B)
    → AllZip R xs ys → R x y → grown ≡ xs ++ x ∷ [] → AllZip R grown (ys ++ y ∷ [])
one_more_paired R xs grown ys x y so_far is more =
    subst (λ zs. AllZip R zs (ys ++ y ∷ [])) (sym more) (all_zip-push R xs ys x y so_far is)

module _ {D T : Type 0} (from_word : ℕ → T) (r : ℕ) where
  masked_push : (es : List (D × RowMajorMatrix T)) (e : D × RowMajorMatrix T) (s now : Stream)
      (ms : List (D × RowMajorMatrix T)) (m : D × RowMajorMatrix T)
      → AreMasked from_word r es s ms → now ≡ past (mask_words_of_all from_word r es) s
      → m.0 ≡ e.0 → IsMasked from_word r e.1 now m.1
      → AreMasked from_word r (es ++ e ∷ []) s (ms ++ m ∷ [])
  masked_push [] e s now [] m so_far at beside is =
      (beside, subst (λ t. IsMasked from_word r e.1 t m.1) (at ∙ past_none s) is, tt)
  masked_push [] e s now (x ∷ ms) m so_far at beside is = absurd so_far
  masked_push (x ∷ es) e s now [] m so_far at beside is = absurd so_far
  masked_push (x ∷ es) e s now (y ∷ ms) m so_far at beside is = (
    so_far.0,
    so_far.1,
    masked_push es e (past (mask_words from_word r x.1) s) now ms m so_far.2
        (at ∙ ap (λ n. past n s) (sum_by-cons (λ (d : D × RowMajorMatrix T). mask_words from_word r d.1) x es)
        ∙ past-add (mask_words from_word r x.1) (mask_words_of_all from_word r es) s)
        beside is,
  )

  pub one_more_masked : (es : List (D × RowMajorMatrix T)) (e : D × RowMajorMatrix T) (s now : Stream)
      (ms grown : List (D × RowMajorMatrix T)) (m : D × RowMajorMatrix T)
      → AreMasked from_word r es s ms → now ≡ past (mask_words_of_all from_word r es) s
      → m.0 ≡ e.0 → IsMasked from_word r e.1 now m.1 → grown ≡ ms ++ m ∷ []
      → AreMasked from_word r (es ++ e ∷ []) s grown
  one_more_masked es e s now ms grown m so_far at beside is more =
      subst (λ ys. AreMasked from_word r (es ++ e ∷ []) s ys) (sym more) (masked_push es e s now ms m so_far at beside is)

  pub none_masked : (s : Stream) (ms : List (D × RowMajorMatrix T)) → ms ≡ [] → AreMasked from_word r [] s ms
  none_masked s ms e = subst (λ ys. AreMasked from_word r [] s ys) (sym e) tt

  pub past_one_more : (es : List (D × RowMajorMatrix T)) (e : D × RowMajorMatrix T) (s now next : Stream)
      → now ≡ past (mask_words_of_all from_word r es) s → next ≡ past (mask_words from_word r e.1) now
      → next ≡ past (mask_words_of_all from_word r (es ++ e ∷ [])) s
  past_one_more es e s now next at after =
      after ∙ ap (λ t. past (mask_words from_word r e.1) t) at
      ∙ sym (past-add (mask_words_of_all from_word r es) (mask_words from_word r e.1) s)
      ∙ ap (λ n. past n s) (sym (sum_by_push (λ (d : D × RowMajorMatrix T). mask_words from_word r d.1) es e))
