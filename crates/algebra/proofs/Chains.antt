-- The chain of a query goes through the entries of the words after each round, and its rows are
-- theirs.
use Rattle.std.proofs.Common.{◌≡◌, ℕ, zero, suc, ◌+◌, ◌-◌, ◌*◌, ◌/◌, ◌%◌, ◌^◌, ◌<◌, ◌≤◌, List, []}
use Rattle.std.proofs.Common.{◌∷◌, Option, length, take, drop, get_or, insert, remove, refl, sym}
use Rattle.std.proofs.Common.{ap, ap₂, ◌∙◌, arith, pow_pos, length-drop, length-take-le}
use Rattle.std.proofs.Common.{get_or-take, get_or-drop}
use Rattle.std.proofs.lemmas.Nat.{pow-add, div-add-mod'}
use Rattle.std.proofs.Math.Nat.{mod-lt, div-lt_iff_lt-mul, div-div-eq-div-mul}
use Rattle.algebra.specs.Field.{FieldOps}
use Rattle.algebra.specs.Folds.{neighbours}
use Rattle.algebra.specs.Rounds.{Round, total_log_arity, rolled_in, entry_of, after_round}
use Rattle.algebra.specs.Rounds.{after_rounds, words_folded, row_of_link, next_link, chain}
use Rattle.algebra.specs.Rounds.{chain_rows, rows_met, siblings_met, link_in, AreValuesMet}
use Rattle.algebra.proofs.FoldedWords.{row_within}
use Rattle.algebra.proofs.Rounds.{total-nil, total-cons, length-after_round, after_round-entry}

-- an entry that was taken out, put back
put_back : {A : Type 0} (xs : List A) (j : ℕ) (d : A) → j < length xs
    → insert (remove xs j) j (get_or xs j d) ≡ xs
put_back [] j d l = absurd (omega (arith, l))
put_back (x ∷ xs) zero d l = refl
put_back (x ∷ xs) (suc j) d l = ap (λ ys. x ∷ ys) (put_back xs j d (omega (arith, l)))

module _ {A : Type 0} (ys : List A) (h a i : ℕ) (n : length ys ≡ 2 ^ (h + a))
    (l : i < 2 ^ (h + a)) where
  place : i % 2 ^ a < 2 ^ a
  place = mod-lt i (pow_pos a)

  pub row_below : i / 2 ^ a < 2 ^ h
  row_below = (div-lt_iff_lt-mul (pow_pos a)).1 (rw (← pow-add 2 h a) l)

  within : i / 2 ^ a * 2 ^ a + 2 ^ a ≤ length ys
  within = rw (n, pow-add 2 h a) (row_within (i / 2 ^ a) (2 ^ h) (2 ^ a) row_below)

  count : i / 2 ^ a * 2 ^ a + 2 ^ a - i / 2 ^ a * 2 ^ a ≡ 2 ^ a
  count = omega arith

  length-neighbours : length (neighbours ys (i / 2 ^ a) a) ≡ 2 ^ a
  length-neighbours =
      ap (λ m. length (take m (drop (i / 2 ^ a * 2 ^ a) ys))) count
      ∙ length-take-le (2 ^ a) (drop (i / 2 ^ a * 2 ^ a) ys)
      (omega (arith, within, length-drop (i / 2 ^ a * 2 ^ a) ys))

  own_entry : (d : A) → get_or (neighbours ys (i / 2 ^ a) a) (i % 2 ^ a) d ≡ get_or ys i d
  own_entry d =
      ap (λ m. get_or (take m (drop (i / 2 ^ a * 2 ^ a) ys)) (i % 2 ^ a) d) count
      ∙ get_or-take (2 ^ a) (drop (i / 2 ^ a * 2 ^ a) ys) (i % 2 ^ a) d place
      ∙ get_or-drop (i / 2 ^ a * 2 ^ a) ys (i % 2 ^ a) d
      ∙ ap (λ m. get_or ys m d) (div-add-mod' i (2 ^ a))

  -- a query's row is that of the word
  pub row_met : (d : A)
      → insert (remove (neighbours ys (i / 2 ^ a) a) (i % 2 ^ a)) (i % 2 ^ a) (get_or ys i d)
      ≡ neighbours ys (i / 2 ^ a) a
  row_met d =
      ap (λ v. insert (remove (neighbours ys (i / 2 ^ a) a) (i % 2 ^ a)) (i % 2 ^ a) v)
      (sym (own_entry d))
      ∙ put_back (neighbours ys (i / 2 ^ a) a) (i % 2 ^ a) d (rw length-neighbours place)

module _ {A : Type 0} (F : FieldOps A) (fold : ℕ → ℕ → ℕ → A → List A → A)
    (inputs : ℕ → Option (List A)) where
  open F use {zero as 𝟘}

  -- the siblings of a query in one round
  abbrev siblings_in : (round : Round A) (ys : List A) (i : ℕ) → List A
  siblings_in r ys i = remove (neighbours ys (i / 2 ^ r.log_arity) r.log_arity)
      (i % 2 ^ r.log_arity)

  row_at : (k : ℕ) (r : Round A) (ys : List A) (i : ℕ) → length ys ≡ 2 ^ k → r.log_arity ≤ k
      → i < 2 ^ k
      → row_of_link r (siblings_in r ys i) (link_in F k ys i)
      ≡ neighbours ys (i / 2 ^ r.log_arity) r.log_arity
  row_at k r ys i n b l =
      let e : k ≡ k - r.log_arity + r.log_arity = omega (arith, b) in
      row_met ys (k - r.log_arity) r.log_arity i (n ∙ ap (λ m. 2 ^ m) e) (rw e at l) 𝟘

  below_after : (k : ℕ) (r : Round A) (ys : List A) (i : ℕ) → length ys ≡ 2 ^ k → r.log_arity ≤ k
      → i < 2 ^ k → i / 2 ^ r.log_arity < 2 ^ (k - r.log_arity)
  below_after k r ys i n b l =
      let e : k ≡ k - r.log_arity + r.log_arity = omega (arith, b) in
      row_below ys (k - r.log_arity) r.log_arity i (n ∙ ap (λ m. 2 ^ m) e) (rw e at l)

  -- one link more
  link_after : (values : ℕ → Option A) (k : ℕ) (r : Round A) (ys : List A) (i : ℕ)
      → length ys ≡ 2 ^ k → r.log_arity ≤ k → i < 2 ^ k
      → AreValuesMet F inputs k i values
      → next_link F fold values r (siblings_in r ys i) (link_in F k ys i)
      ≡ link_in F (k - r.log_arity) (after_round F fold inputs (k - r.log_arity) r ys)
      (i / 2 ^ r.log_arity)
  link_after values k r ys i n b l met =
      ap (λ v. record { index = row; log_height = h; value = v })
      (ap₂ (λ u zs. rolled_in F r u (fold row h r.log_arity r.beta zs))
      (met h (omega arith) ∙ ap (λ m. entry_of F (inputs h) (i / 2 ^ m))
      (let e : k - h ≡ r.log_arity = omega (arith, b) in e)) (row_at k r ys i n b l)
      ∙ sym (after_round-entry F fold inputs h r ys row 𝟘 (below_after k r ys i n b l)))
    where
      row : ℕ
      row = i / 2 ^ r.log_arity

      h : ℕ
      h = k - r.log_arity

  -- the values met go on
  values_after : (values : ℕ → Option A) (k : ℕ) (r : Round A) (i : ℕ) → r.log_arity ≤ k
      → AreValuesMet F inputs k i values
      → AreValuesMet F inputs (k - r.log_arity) (i / 2 ^ r.log_arity) values
  values_after values k r i b met h l =
      met h (omega (arith, l))
      ∙ ap (λ n. entry_of F (inputs h) n)
      (ap (λ n. i / n) (ap (λ m. 2 ^ m)
      (let e : k - h ≡ r.log_arity + (k - r.log_arity - h) = omega (arith, b, l) in e)
      ∙ pow-add 2 r.log_arity (k - r.log_arity - h))
      ∙ sym (div-div-eq-div-mul i (2 ^ r.log_arity) (2 ^ (k - r.log_arity - h))))

  -- the chain leads from an entry of the first word to that of the last in whose row it lies
  pub chain_through_words : (values : ℕ → Option A) (k : ℕ) (rounds : List (Round A)) (ys : List A)
      (i : ℕ)
      → length ys ≡ 2 ^ k → total_log_arity rounds ≤ k → i < 2 ^ k
      → AreValuesMet F inputs k i values
      → chain F fold values rounds (siblings_met rounds (words_folded F fold inputs k rounds ys) i)
      (link_in F k ys i)
      ≡ link_in F (k - total_log_arity rounds) (after_rounds F fold inputs k rounds ys)
      (i / 2 ^ total_log_arity rounds)
  chain_through_words values k [] ys i n b l met =
      ap₂ (λ m j. link_in F m ys j)
      (let e : k ≡ k - total_log_arity {A = A} [] = omega (arith, total-nil A) in e)
      (let e : i ≡ i / 1 = omega arith in e ∙ ap (λ m. i / 2 ^ m) (sym (total-nil A)))
  chain_through_words values k (r ∷ rounds) ys i n b l met =
      let small : r.log_arity ≤ k = omega (arith, b, total-cons r rounds) in
      let h = k - r.log_arity in
      let next = after_round F fold inputs h r ys in
      ap (λ link. chain F fold values rounds
      (siblings_met rounds (words_folded F fold inputs h rounds next) (i / 2 ^ r.log_arity))
      link) (link_after values k r ys i n small l met)
      ∙ chain_through_words values h rounds next (i / 2 ^ r.log_arity)
      (length-after_round F fold inputs h r ys) (omega (arith, b, total-cons r rounds))
      (below_after k r ys i n small l) (values_after values k r i small met)
      ∙ ap₂ (λ m j. link_in F m (after_rounds F fold inputs h rounds next) j)
      (let e : k - r.log_arity - total_log_arity rounds ≡ k - total_log_arity (r ∷ rounds) =
      omega (arith, total-cons r rounds) in e)
      (div-div-eq-div-mul i (2 ^ r.log_arity) (2 ^ total_log_arity rounds)
      ∙ ap (λ m. i / m) (sym (pow-add 2 r.log_arity (total_log_arity rounds))
      ∙ ap (λ m. 2 ^ m) (sym (total-cons r rounds))))

  -- and its rows are the words' rows
  pub chain_rows_through_words : (values : ℕ → Option A) (k : ℕ) (rounds : List (Round A))
      (ys : List A) (i : ℕ)
      → length ys ≡ 2 ^ k → total_log_arity rounds ≤ k → i < 2 ^ k
      → AreValuesMet F inputs k i values
      → chain_rows F fold values rounds
      (siblings_met rounds (words_folded F fold inputs k rounds ys) i) (link_in F k ys i)
      ≡ rows_met rounds (words_folded F fold inputs k rounds ys) i
  chain_rows_through_words values k [] ys i n b l met = refl
  chain_rows_through_words values k (r ∷ rounds) ys i n b l met =
      let small : r.log_arity ≤ k = omega (arith, b, total-cons r rounds) in
      let h = k - r.log_arity in
      let next = after_round F fold inputs h r ys in
      ap₂ (λ row rows. row ∷ rows) (row_at k r ys i n small l)
      (ap (λ link. chain_rows F fold values rounds
      (siblings_met rounds (words_folded F fold inputs h rounds next) (i / 2 ^ r.log_arity))
      link) (link_after values k r ys i n small l met)
      ∙ chain_rows_through_words values h rounds next (i / 2 ^ r.log_arity)
      (length-after_round F fold inputs h r ys) (omega (arith, b, total-cons r rounds))
      (below_after k r ys i n small l) (values_after values k r i small met))
