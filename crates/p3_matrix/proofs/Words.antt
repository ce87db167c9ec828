-- Words drawn one after another, and what is made of them.
use Rattle.std.proofs.Common.{◌≡◌, ℕ, zero, suc, ◌+◌, List, [], ◌∷◌, ◌++◌, refl, sym, ap, ap₂, ◌∙◌}
use Rattle.std.proofs.Common.{length, zero-add, suc-add, append_assoc}
use Rattle.std.proofs.lemmas.List.{append-nil}
use Rattle.rand_core.specs.Stream.{Stream, next_u64}
use Rattle.p3_matrix.specs.Words.{past, randoms}

pub past_none : (s : Stream) → past 0 s ≡ s
unfolding past
past_none s = refl

pub past-add : (a b : ℕ) (s : Stream) → past (a + b) s ≡ past b (past a s)
unfolding past
past-add zero b s = ap (λ n. past n s) (zero-add b)
past-add (suc a) b s = ap (λ n. past n s) (suc-add a b) ∙ past-add a b (next_u64 s).1

module _ {T : Type 0} (from_word : ℕ → T) where
  randoms-add : (a b : ℕ) (s : Stream)
      → randoms from_word (a + b) s ≡ randoms from_word a s ++ randoms from_word b (past a s)
  unfolding randoms past
  randoms-add zero b s = ap (λ n. randoms from_word n s) (zero-add b)
  randoms-add (suc a) b s =
      ap (λ n. randoms from_word n s) (suc-add a b)
      ∙ ap (λ xs. from_word (next_u64 s).0 ∷ xs) (randoms-add a b (next_u64 s).1)

  pub length-randoms : (n : ℕ) (s : Stream) → length (randoms from_word n s) ≡ n
  unfolding randoms
  length-randoms zero s = refl
  length-randoms (suc n) s = ap suc (length-randoms n (next_u64 s).1)

  -- to the first values, `n` random ones were added, and the generator stands past their words
  pub record AreDrawn (start : Stream) (first : List T) (n : ℕ) (written : List T) (now : Stream) : Type 0 where
    pub values : written ≡ first ++ randoms from_word n start
    pub stream : now ≡ past n start

  pub none_drawn : (start : Stream) (values : List T) → AreDrawn start values 0 values start
  unfolding randoms past
  none_drawn start values = record { values = sym (append-nil values); stream = refl }

  pub one_more_drawn : (start old new : Stream) (first values grown : List T) (n word : ℕ) (value : T)
      → AreDrawn start first n values old → (word, new) ≡ next_u64 old → value ≡ from_word word
      → grown ≡ values ++ value ∷ [] → AreDrawn start first (n + 1) grown new
  unfolding randoms past
  one_more_drawn start old new first values grown n word value before drawn is more =
      let pair : (word, new) ≡ next_u64 (past n start) = drawn ∙ ap (λ (s : Stream). next_u64 s) before.stream in
      record {
        values = more
            ∙ ap₂ (λ xs x. xs ++ x ∷ []) before.values (is ∙ ap from_word (ap (λ (p : ℕ × Stream). p.0) pair))
            ∙ append_assoc first (randoms from_word n start) (from_word (next_u64 (past n start)).0 ∷ [])
            ∙ ap (λ xs. first ++ xs) (sym (randoms-add n 1 start));
        stream = ap (λ (p : ℕ × Stream). p.1) pair ∙ sym (past-add n 1 start);
      }
