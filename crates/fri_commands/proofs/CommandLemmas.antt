-- What the definitions of the commands answer, in each case that the code tells apart.
use Rattle.std.proofs.Common.{◌≡◌, ◌≢◌, ◌↔◌, nat_lt, IsTrue, refl, ltb-true, ℕ, zero, suc, ◌+◌, ◌-◌, ◌^◌, ◌<◌, ◌≤◌, ◌==◌, inl, inr, Bool, true, false, List, [], ◌∷◌, ◌++◌, length, get_or, map, Some, Ok, Err, sym, ap, ◌∙◌, arith}
use Rattle.std.specs.Prelude.{replicate, find, codes}
use Rattle.std.specs.List.{range_with_len}
use Rattle.std.proofs.lemmas.Bool.{cases_Bool, and_parts, and_from, lt-ltb, eqb-true, eq-eqb, ne_eqb}
use Rattle.std.proofs.lemmas.Slice.Eq.{bytes_eq-Decides}
use Rattle.std.specs.Str.{bytes_eq}
use Rattle.p3_fri_core.specs.Schedule.{schedule, IsStrictlyFalling}
use Rattle.fri_commands.specs.Texts.{parsed_number, parsed_list, line}
use Rattle.fri_commands.specs.Commands.{greatest_height, is_strictly_falling, answer, fold_answer, folded_numbers}
use Rattle.fri_commands.specs.Steps.{greatest_element, greatest_log_height, exact_log2}
use Rattle.fri_commands.specs.declared.fault.Fault.TheVariants.{Command}
use Rattle.fri_commands.proofs.Words.{schedule-ones, length-schedule_ones}

-- what `find` gives of some numbers in a row passes, and is one of them
find-range : (p : ℕ → Bool) (from count k : ℕ) → find p (range_with_len from count) ≡ Some k → (p k ≡ true) × (k < from + count)
find-range p from zero k e = absurd (cc)
find-range p from (suc count) k e = elim (cases_Bool (p from)) [
  | inl w ↦ let here : from ≡ k = cc (rw w at e) in (rw (← here) w, omega arith)
  | inr w ↦ let later = find-range p (from + 1) count k (rw w at e) in (later.0, omega arith)
]

-- a logarithm that isn't the one leaves those from the next one on
pub exact_log2-next : (most count log : ℕ) → log ≤ most → 2 ^ log ≢ count → find (λ k. 2 ^ k == count) (range_with_len (log + 1) (most + 1 - (log + 1))) ≡ find (λ k. 2 ^ k == count) (range_with_len log (most + 1 - log))
exact_log2-next most count log below other =
    let more : most + 1 - log ≡ suc (most + 1 - (log + 1)) = omega arith in
    rw (more, ne_eqb (2 ^ log) count other)

-- what the logarithm is
pub exact_log2-some : (most count k : ℕ) → exact_log2 most count ≡ Some k → (2 ^ k ≡ count) × (k ≤ most)
unfolding exact_log2
exact_log2-some most count k e =
    let found = find-range (λ log. 2 ^ log == count) 0 (most + 1) k e in
    (eqb-true (2 ^ k) count found.0, omega arith)

-- the answer of `fold` where its arguments have no fault
pub fold_answer-ok : (final_text betas_text word_text betas word : List ℕ) (final log_height : ℕ)
    → parsed_number greatest_height final_text ≡ Some final → parsed_list greatest_element betas_text ≡ Some betas → parsed_list greatest_element word_text ≡ Some word
    → exact_log2 greatest_log_height (length word) ≡ Some log_height → length betas ≡ length (schedule (log_height ∷ []) final 1)
    → fold_answer final_text betas_text word_text ≡ Ok (line (schedule (log_height ∷ []) final 1) ++ line (folded_numbers log_height (replicate (length betas) 1) betas word))
unfolding fold_answer
fold_answer-ok final_text betas_text word_text betas word final log_height is_final is_betas is_word is_height one_each =
    let ones : schedule (log_height ∷ []) final 1 ≡ replicate {A = ℕ} (length betas) 1 = schedule-ones log_height final ∙ ap (λ n. replicate {A = ℕ} n 1) (sym (length-schedule_ones log_height final) ∙ sym one_each) in
    rw (is_final, is_betas, is_word, is_height, eq-eqb (length betas) (length (schedule (log_height ∷ []) final 1)) one_each)
    (ap (λ (rounds : List ℕ). Ok (line (schedule (log_height ∷ []) final 1) ++ line (folded_numbers log_height rounds betas word))) ones)

unequal : (p q : List ℕ) → p ≢ q → bytes_eq p q ≡ false
unequal p q other = elim (cases_Bool (bytes_eq p q)) [ inl w ↦ absurd (other ((bytes_eq-Decides p q).0 w)) | inr w ↦ w ]

-- three arguments of a word that names no command
pub answer-other : (command first second third : List ℕ) → command ≢ codes "schedule" → command ≢ codes "fold" → answer (command ∷ first ∷ second ∷ third ∷ []) ≡ Err Command
unfolding answer
answer-other command first second third a b = rw (unequal command (codes "schedule") a, unequal command (codes "fold") b)

-- and four
pub answer-other_of_four : (command first second third fourth : List ℕ) → command ≢ codes "prove" → answer (command ∷ first ∷ second ∷ third ∷ fourth ∷ []) ≡ Err Command
unfolding answer
answer-other_of_four command first second third fourth a = rw (unequal command (codes "prove") a)

-- another number of arguments
pub answer-others : {X : Type 0} (f : X → List ℕ) (args : List X) → length args ≢ 4 → length args ≢ 5 → answer (map f args) ≡ Err Command
unfolding answer
answer-others f [] a b = refl
answer-others f (x ∷ []) a b = refl
answer-others f (x ∷ y ∷ []) a b = refl
answer-others f (x ∷ y ∷ z ∷ []) a b = refl
answer-others f (x ∷ y ∷ z ∷ w ∷ []) a b = absurd (a refl)
answer-others f (x ∷ y ∷ z ∷ w ∷ v ∷ []) a b = absurd (b refl)
answer-others f (x ∷ y ∷ z ∷ w ∷ v ∷ u ∷ more) a b = refl

-- the heights after the first fall too
falling-next : (a b : ℕ) (more : List ℕ) → IsStrictlyFalling (a ∷ b ∷ more) → IsStrictlyFalling (b ∷ more)
falling-next a b more falling k below =
    let at : suc k + 1 ≡ suc (k + 1) = omega arith in
    rw at at (falling (suc k) (omega arith))

-- falling heights pass the test, and no others
falling-from_test : (heights : List ℕ) → is_strictly_falling heights ≡ true → IsStrictlyFalling heights
falling-from_test [] test k below = absurd (omega arith)
falling-from_test (a ∷ []) test k below = absurd (omega arith)
falling-from_test (a ∷ b ∷ more) test zero below = ltb-true b a (and_parts (nat_lt b a) (is_strictly_falling (b ∷ more)) test).0
falling-from_test (a ∷ b ∷ more) test (suc k) below =
    let at : suc k + 1 ≡ suc (k + 1) = omega arith in
    rw at (falling-from_test (b ∷ more) (and_parts (nat_lt b a) (is_strictly_falling (b ∷ more)) test).1 k (omega arith))

test-from_falling : (heights : List ℕ) → IsStrictlyFalling heights → is_strictly_falling heights ≡ true
test-from_falling [] falling = refl
test-from_falling (a ∷ []) falling = refl
test-from_falling (a ∷ b ∷ more) falling =
    and_from (nat_lt b a) (is_strictly_falling (b ∷ more)) (lt-ltb b a (falling 0 (omega arith))) (test-from_falling (b ∷ more) (falling-next a b more falling))

-- a test that tells whether heights fall is the one of the definition
pub is_strictly_falling-test : (heights : List ℕ) (test : Bool) → IsTrue test ↔ IsStrictlyFalling heights → test ≡ is_strictly_falling heights
is_strictly_falling-test heights true tells = sym (test-from_falling heights (tells.0 refl))
is_strictly_falling-test heights false tells = elim (cases_Bool (is_strictly_falling heights)) [
  | inl w ↦ cc (tells.1 (falling-from_test heights w))
  | inr w ↦ sym w
]
