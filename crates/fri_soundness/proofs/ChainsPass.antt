-- A chain over the words' rows shows each step folded at its row.
use Rattle.std.proofs.Common.{◌≡◌, ℕ, ◌+◌, ◌-◌, ◌/◌, ◌%◌, ◌^◌, ◌<◌, ◌≤◌, List, [], ◌∷◌, Option}
use Rattle.std.proofs.Common.{length, take, drop, get_or, insert, sym, ap, ap₂, ◌∙◌, subst, arith, pow_pos, mod-lt, length-append}
use Rattle.std.proofs.Math.Nat.{div-lt_iff_lt-mul, div-div-eq-div-mul}
use Rattle.std.proofs.lemmas.Nat.{pow-add, div-add-mod'}
use Rattle.std.proofs.lemmas.List.{take-append-drop}
use Rattle.std.proofs.lemmas.List.Edits.{get_or-insert_at}
use Rattle.algebra.specs.Field.{FieldOps}
use Rattle.algebra.specs.Folds.{neighbours, fold_value}
use Rattle.algebra.specs.Rounds.{Round, rolled_in, entry_of, rows_met, chain, chain_rows, AreValuesMet}
use Rattle.algebra.proofs.Lists.{head_eq, tail_eq}
use Rattle.fri_soundness.specs.FoldTests.{Passes}
use Rattle.fri_soundness.specs.CommittedWords.{steps_of, next_word, AreWords}
use Rattle.fri_soundness.proofs.FoldRows.{get_or-neighbours, length-neighbours}

-- what a row of a word holds at the place that was filled
placed : {A : Type 0} (ys s : List A) (h a q : ℕ) (v d : A) → length ys ≡ 2 ^ (h + a) → q < 2 ^ (h + a)
    → insert s (q % 2 ^ a) v ≡ neighbours ys (q / 2 ^ a) a → v ≡ get_or ys q d
placed ys s h a q v d n l e =
    sym (get_or-insert_at s (q % 2 ^ a) v d (omega (
      arith,
      place,
      length_is,
      length-append (take (q % 2 ^ a) s) (drop (q % 2 ^ a) s),
      ap length (take-append-drop (q % 2 ^ a) s),
      length-append (take (q % 2 ^ a) s) (v ∷ drop (q % 2 ^ a) s),
    )))
    ∙ ap (λ row. get_or row (q % 2 ^ a) d) e
    ∙ get_or-neighbours ys (q / 2 ^ a) a (q % 2 ^ a) d place
    ∙ ap (λ k. get_or ys k d) (div-add-mod' q (2 ^ a))
  where
    place : q % 2 ^ a < 2 ^ a
    place = mod-lt q (pow_pos a)

    length_is : length (insert s (q % 2 ^ a) v) ≡ 2 ^ a
    length_is = ap length e ∙ length-neighbours ys (q / 2 ^ a) a h n ((div-lt_iff_lt-mul (pow_pos a)).1 (rw (← pow-add 2 h a) l))

module _ {A : Type 0} (F : FieldOps A) (w : ℕ → A) (inputs : ℕ → Option (List A)) (values : ℕ → Option A) where
  -- the entries met from one round on
  values_after : (k : ℕ) (r : Round A) (i : ℕ) → r.log_arity ≤ k
      → AreValuesMet F inputs k i values
      → AreValuesMet F inputs (k - r.log_arity) (i / 2 ^ r.log_arity) values
  values_after k r i b met h l =
      met h (omega (arith, l))
      ∙ ap (λ n. entry_of F (inputs h) n)
      (ap (λ n. i / n) (ap (λ m. 2 ^ m)
      (let e : k - h ≡ r.log_arity + (k - r.log_arity - h) = omega (arith, b, l) in e)
      ∙ pow-add 2 r.log_arity (k - r.log_arity - h))
      ∙ sym (div-div-eq-div-mul i (2 ^ r.log_arity) (2 ^ (k - r.log_arity - h))))

  pub chain_passes : (h : ℕ) (rounds : List (Round A)) (words siblings : List (List A)) (last : List A) (q : ℕ) (v : A)
      → AreWords h rounds words → q < 2 ^ h → AreValuesMet F inputs h q values
      → chain_rows F (fold_value F w) values rounds siblings (record { index = q; log_height = h; value = v }) ≡ rows_met rounds words q
      → (chain F (fold_value F w) values rounds siblings (record { index = q; log_height = h; value = v })).value
      ≡ get_or last (chain F (fold_value F w) values rounds siblings (record { index = q; log_height = h; value = v })).index F.zero
      → Passes F w (steps_of inputs h rounds words last) q × (v ≡ get_or (next_word words last) q F.zero)
  chain_passes h [] [] siblings last q v are l met rows ends = (tt, ends)
  chain_passes h [] (ys ∷ words) siblings last q v are l met rows ends = absurd are
  chain_passes h (r ∷ rounds) [] siblings last q v are l met rows ends = absurd are
  chain_passes h (r ∷ rounds) (ys ∷ words) [] last q v are l met rows ends = absurd cc
  chain_passes h (r ∷ rounds) (ys ∷ words) (s ∷ siblings) last q v are l met rows ends =
      let height = h - r.log_arity in
      let row = q / 2 ^ r.log_arity in
      let split : h ≡ height + r.log_arity = omega (arith, are.1) in
      let long : length ys ≡ 2 ^ (height + r.log_arity) = are.0 ∙ ap (λ n. 2 ^ n) split in
      let below : q < 2 ^ (height + r.log_arity) = subst (λ n. q < 2 ^ n) split l in
      let below_row : row < 2 ^ height = (div-lt_iff_lt-mul (pow_pos r.log_arity)).1 (rw (← pow-add 2 height r.log_arity) below) in
      let placed_is = placed ys s height r.log_arity q v F.zero long below (head_eq rows) in
      let next = rolled_in F r (values height) (fold_value F w row height r.log_arity r.beta (insert s (q % 2 ^ r.log_arity) v)) in
      let later = chain_passes height rounds words siblings last row next are.2 below_row (values_after h r q are.1 met) (tail_eq rows) ends in (
        (
          sym later.1
              ∙ ap₂ (λ u zs. rolled_in F r u (fold_value F w row height r.log_arity r.beta zs))
              (met height (omega arith) ∙ ap (λ m. entry_of F (inputs height) (q / 2 ^ m)) (let e : h - height ≡ r.log_arity = omega (arith, are.1) in e))
              (head_eq rows),
          later.0,
        ),
        placed_is,
      )
