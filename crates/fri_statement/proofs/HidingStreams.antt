-- The stream of a scheme that hides determines the number of random columns and the preprocessing.
use Rattle.std.proofs.Common.{◌≡◌, ℕ, ◌<◌, [], ◌∷◌, length, refl, ap, arith}
use Rattle.std.specs.Prelude.{Option, Some, None}
use Rattle.std.specs.List.{All}
use Rattle.std.proofs.lemmas.List.Elements.{All-nil, All-cons}
use Rattle.algebra.proofs.Lists.{head_eq, tail_eq}
use Rattle.p3_challenger_fs.specs.declared.pattern.Hierarchy.TheVariants.{Begin, End}
use Rattle.p3_challenger_fs.specs.Pattern.{Step}
use Rattle.p3_challenger_fs.specs.StreamLaws.{FitsNumber, FitsText, FitsStep, FitsStream}
use Rattle.p3_challenger_fs.proofs.Streams.{description_determined}
use Rattle.fri_statement.specs.Hiding.{index_numbers, hiding_label, hiding_description}
use Rattle.fri_statement.specs.Hiding.{statement_step, hiding_steps}
use Rattle.fri_statement.specs.Hiding.{hiding_stream}
use Rattle.fri_statement.specs.StatementLaws.{IsDeterminedHiding}
use Rattle.fri_statement.proofs.Statements.{numbers_determined, length_numbers}

-- two numbers or three
few : (i : Option ℕ) → length (index_numbers i) < 3
few None = omega arith
few (Some index) = omega arith

label_fits : (n : ℕ) (i : Option ℕ) → FitsText (hiding_label n i)
label_fits n i = omega (arith, length_numbers (n ∷ index_numbers i), few i)

two_steps : (P : Step → Type 0) → P (statement_step Begin) → P (statement_step End) → All P hiding_steps
two_steps P first last = All-cons P (statement_step Begin) (statement_step End ∷ []) first
    (All-cons P (statement_step End) [] last (All-nil P))

fits : (n : ℕ) (i : Option ℕ) → FitsStream (hiding_description n i)
fits n i = record {
  name = omega arith;
  step_count = omega arith;
  steps = two_steps FitsStep (record { type_tag = tt; length = tt }) (record { type_tag = tt; length = tt });
  step_labels = two_steps (λ (s : Step). FitsText s.label) (omega arith) (omega arith);
  labels = All-cons FitsText (hiding_label n i) [] (label_fits n i) (All-nil FitsText);
}

same_index : (i j : Option ℕ) → index_numbers i ≡ index_numbers j → i ≡ j
same_index None None e = refl
same_index None (Some b) e = cc
same_index (Some a) None e = cc
same_index (Some a) (Some b) e = ap (λ n. Some n) (head_eq (tail_eq e))

pub hiding_determined : (m n : ℕ) (i j : Option ℕ) → IsDeterminedHiding m n i j
unfolding hiding_stream
hiding_determined m n i j p q r s e =
    let labels : hiding_label m i ≡ hiding_label n j = head_eq (ap (λ d. d.labels)
    (description_determined (hiding_description m i) (hiding_description n j) (fits m i) (fits n j) e)) in
    let numbers : m ∷ index_numbers i ≡ n ∷ index_numbers j =
    numbers_determined (m ∷ index_numbers i) (n ∷ index_numbers j)
    (All-cons FitsNumber m (index_numbers i) p r) (All-cons FitsNumber n (index_numbers j) q s) labels in
    (head_eq numbers, same_index i j (tail_eq numbers))
