-- The streams determine the statement and the context.
use Rattle.std.proofs.Common.{◌≡◌, ◌<◌, ℕ, ◌*◌, List, [], ◌∷◌, length, map, refl, sym, ap, ◌∙◌, arith, length-append}
use Rattle.std.specs.List.{All, flat_map}
use Rattle.std.proofs.lemmas.List.{length-map}
use Rattle.std.proofs.lemmas.List.Elements.{All-nil, All-cons, All-head, All-tail}
use Rattle.algebra.proofs.Lists.{head_eq, tail_eq}
use Rattle.p3_challenger_fs.specs.declared.pattern.Hierarchy.TheVariants.{Begin, End}
use Rattle.p3_challenger_fs.specs.Pattern.{Step, number_bytes}
use Rattle.p3_challenger_fs.specs.StreamLaws.{FitsNumber, FitsText, FitsStep, FitsStream}
use Rattle.p3_challenger_fs.proofs.Streams.{split_front, number_injective, number_delimited, last_determined}
use Rattle.p3_challenger_fs.proofs.Streams.{cons_equal, description_determined, short_fits}
use Rattle.p3_fri_relation.specs.Setting.{Parameters}
use Rattle.fri_statement.specs.Statement.{OpenedMatrix, OpenedCommitment, Statement, numbers_bytes, parameter_numbers}
use Rattle.fri_statement.specs.Statement.{matrix_label, commitment_labels, statement_labels}
use Rattle.fri_statement.specs.Statement.{opening_step, statement_steps, statement_description, statement_stream}
use Rattle.fri_statement.specs.StatementLaws.{IsPoint, FitsMatrix, FitsCommitment, FitsStatement}
use Rattle.fri_statement.specs.StatementLaws.{IsDeterminedStatement, IsDeterminedContext}
use Rattle.fri_statement.specs.Context.{context_description, context_stream}

pub numbers_determined : (xs ys : List ℕ) → All FitsNumber xs → All FitsNumber ys
    → numbers_bytes xs ≡ numbers_bytes ys → xs ≡ ys
numbers_determined xs ys p q e =
    last_determined FitsNumber number_bytes number_delimited (λ n. omega arith) xs ys p q e

pub length_numbers : (xs : List ℕ) → length (numbers_bytes xs) ≡ 8 * length xs
length_numbers [] = refl
length_numbers (x ∷ xs) = omega (arith, length-append (number_bytes x) (numbers_bytes xs), length_numbers xs)

-- three numbers
three : (a b c a' b' c' : ℕ) → a ∷ b ∷ c ∷ [] ≡ a' ∷ b' ∷ c' ∷ [] → (a ≡ a') × (b ≡ b') × (c ≡ c')
three a b c a' b' c' e = (head_eq e, head_eq (tail_eq e), head_eq (tail_eq (tail_eq e)))

three_fit : (a b c : ℕ) → FitsNumber a → FitsNumber b → FitsNumber c → All FitsNumber (a ∷ b ∷ c ∷ [])
three_fit a b c p q r =
    All-cons FitsNumber a (b ∷ c ∷ []) p (All-cons FitsNumber b (c ∷ []) q (All-cons FitsNumber c [] r (All-nil FitsNumber)))

abbrev matrix : (shift log_size width : ℕ) → List (List ℕ) → OpenedMatrix
matrix shift log_size width points =
    record { shift = shift; log_size = log_size; width = width; points = points }

same_matrix : (s s' l l' w w' : ℕ) (p p' : List (List ℕ)) → s ≡ s' → l ≡ l' → w ≡ w' → p ≡ p'
    → matrix s l w p ≡ matrix s' l' w' p'
same_matrix s s' l l' w w' p p' e f g h = cc

abbrev commitment : List ℕ → List OpenedMatrix → OpenedCommitment
commitment digest matrices = record { digest = digest; matrices = matrices }

same_commitment : (d d' : List ℕ) (ms ms' : List OpenedMatrix) → d ≡ d' → ms ≡ ms'
    → commitment d ms ≡ commitment d' ms'
same_commitment d d' ms ms' e f = cc

abbrev parameters : (blowup final arity queries batch commit query : ℕ) → Parameters
parameters blowup final arity queries batch commit query = record {
  log_blowup = blowup;
  log_final_poly_len = final;
  max_log_arity = arity;
  num_queries = queries;
  batch_pow_bits = batch;
  commit_pow_bits = commit;
  query_pow_bits = query;
}

seven : (a b c d e f g a' b' c' d' e' f' g' : ℕ)
    → a ∷ b ∷ c ∷ d ∷ e ∷ f ∷ g ∷ [] ≡ a' ∷ b' ∷ c' ∷ d' ∷ e' ∷ f' ∷ g' ∷ []
    → parameters a b c d e f g ≡ parameters a' b' c' d' e' f' g'
seven a b c d e f g a' b' c' d' e' f' g' same = cc

same_parameters : (p q : Parameters) → parameter_numbers p ≡ parameter_numbers q → p ≡ q
same_parameters p q e = seven p.log_blowup p.log_final_poly_len p.max_log_arity p.num_queries
    p.batch_pow_bits p.commit_pow_bits p.query_pow_bits
    q.log_blowup q.log_final_poly_len q.max_log_arity q.num_queries
    q.batch_pow_bits q.commit_pow_bits q.query_pow_bits e

abbrev statement : List ℕ → Parameters → List OpenedCommitment → Statement
statement context p commitments = record { context = context; parameters = p; commitments = commitments }

same_statement : (c c' : List ℕ) (p p' : Parameters) (cs cs' : List OpenedCommitment) → c ≡ c' → p ≡ p'
    → cs ≡ cs' → statement c p cs ≡ statement c' p' cs'
same_statement c c' p p' cs cs' e f g = cc

one_step : (s : Step) → FitsStep s → All FitsStep (s ∷ [])
one_step s f = All-cons FitsStep s [] f (All-nil FitsStep)

steps_fit : All FitsStep statement_steps
steps_fit = All-cons FitsStep (opening_step Begin) (opening_step End ∷ []) (record { type_tag = tt; length = tt })
    (one_step (opening_step End) (record { type_tag = tt; length = tt }))

-- of an extension of this degree
module _ (degree : ℕ) (some : 0 < degree) where
  -- as many bytes for each point
  point_size : (x : List ℕ) → IsPoint degree x → length (numbers_bytes x) ≡ 8 * degree
  point_size x p = omega (arith, length_numbers x, p.count)

  points_determined : (xs ys : List (List ℕ)) → All (IsPoint degree) xs → All (IsPoint degree) ys
      → flat_map numbers_bytes xs ≡ flat_map numbers_bytes ys → xs ≡ ys
  points_determined [] [] p q e = refl
  points_determined [] (y ∷ ys) p q e =
      absurd (omega (arith, some, point_size y (All-head (IsPoint degree) y ys q), length-append (numbers_bytes y) (flat_map numbers_bytes ys), ap length e))
  points_determined (x ∷ xs) [] p q e =
      absurd (omega (arith, some, point_size x (All-head (IsPoint degree) x xs p), length-append (numbers_bytes x) (flat_map numbers_bytes xs), ap length e))
  points_determined (x ∷ xs) (y ∷ ys) p q e =
      let px = All-head (IsPoint degree) x xs p in
      let py = All-head (IsPoint degree) y ys q in
      let first = split_front (numbers_bytes x) (numbers_bytes y) (flat_map numbers_bytes xs) (flat_map numbers_bytes ys)
      (point_size x px ∙ sym (point_size y py)) e in
      cons_equal x y xs ys (numbers_determined x y px.fit py.fit first.0)
      (points_determined xs ys (All-tail (IsPoint degree) x xs p) (All-tail (IsPoint degree) y ys q) first.1)

  matrix_determined : (x y : OpenedMatrix) → FitsMatrix degree x → FitsMatrix degree y → matrix_label x ≡ matrix_label y → x ≡ y
  matrix_determined x y p q e =
      let parts = split_front (numbers_bytes (x.shift ∷ x.log_size ∷ x.width ∷ []))
      (numbers_bytes (y.shift ∷ y.log_size ∷ y.width ∷ [])) (flat_map numbers_bytes x.points) (flat_map numbers_bytes y.points)
      (length_numbers (x.shift ∷ x.log_size ∷ x.width ∷ []) ∙ sym (length_numbers (y.shift ∷ y.log_size ∷ y.width ∷ []))) e in
      let numbers = three x.shift x.log_size x.width y.shift y.log_size y.width
      (numbers_determined (x.shift ∷ x.log_size ∷ x.width ∷ []) (y.shift ∷ y.log_size ∷ y.width ∷ [])
      (three_fit x.shift x.log_size x.width p.shift p.log_size p.width)
      (three_fit y.shift y.log_size y.width q.shift q.log_size q.width) parts.0) in
      same_matrix x.shift y.shift x.log_size y.log_size x.width y.width x.points y.points numbers.0 numbers.1 numbers.2
      (points_determined x.points y.points p.points q.points parts.1)

  matrices_determined : (xs ys : List OpenedMatrix) → All (FitsMatrix degree) xs → All (FitsMatrix degree) ys
      → map matrix_label xs ≡ map matrix_label ys → xs ≡ ys
  matrices_determined [] [] p q e = refl
  matrices_determined [] (y ∷ ys) p q e = absurd cc
  matrices_determined (x ∷ xs) [] p q e = absurd cc
  matrices_determined (x ∷ xs) (y ∷ ys) p q e =
      cons_equal x y xs ys (matrix_determined x y (All-head (FitsMatrix degree) x xs p) (All-head (FitsMatrix degree) y ys q) (head_eq e))
      (matrices_determined xs ys (All-tail (FitsMatrix degree) x xs p) (All-tail (FitsMatrix degree) y ys q) (tail_eq e))

  commitments_determined : (xs ys : List OpenedCommitment) → All (FitsCommitment degree) xs → All (FitsCommitment degree) ys
      → flat_map commitment_labels xs ≡ flat_map commitment_labels ys → xs ≡ ys
  commitments_determined [] [] p q e = refl
  commitments_determined [] (y ∷ ys) p q e = absurd cc
  commitments_determined (x ∷ xs) [] p q e = absurd cc
  commitments_determined (x ∷ xs) (y ∷ ys) p q e =
      let px = All-head (FitsCommitment degree) x xs p in
      let py = All-head (FitsCommitment degree) y ys q in
      let head = split_front x.digest y.digest (number_bytes (length x.matrices)) (number_bytes (length y.matrices))
      (px.digest ∙ sym py.digest) (head_eq e) in
      let count = number_injective (length x.matrices) (length y.matrices) px.count py.count head.1 in
      let rest = split_front (map matrix_label x.matrices) (map matrix_label y.matrices)
      (flat_map commitment_labels xs) (flat_map commitment_labels ys)
      (length-map x.matrices matrix_label ∙ count ∙ sym (length-map y.matrices matrix_label)) (tail_eq e) in
      cons_equal x y xs ys
      (same_commitment x.digest y.digest x.matrices y.matrices head.0
      (matrices_determined x.matrices y.matrices px.matrices py.matrices rest.0))
      (commitments_determined xs ys (All-tail (FitsCommitment degree) x xs p) (All-tail (FitsCommitment degree) y ys q) rest.1)

  labels_of : (a b : Statement) → FitsStatement degree a → FitsStatement degree b → statement_stream a ≡ statement_stream b
      → statement_labels a ≡ statement_labels b
  unfolding statement_stream
  labels_of a b p q e = ap (λ d. d.labels) (description_determined (statement_description a) (statement_description b)
      (short_fits (statement_description a) steps_fit p.stream) (short_fits (statement_description b) steps_fit q.stream) e)

  from_labels : (a b : Statement) → FitsStatement degree a → FitsStatement degree b → statement_labels a ≡ statement_labels b → a ≡ b
  unfolding statement_labels
  from_labels a b p q e =
      let rest = tail_eq e in
      same_statement a.context b.context a.parameters b.parameters a.commitments b.commitments (head_eq e)
      (same_parameters a.parameters b.parameters
      (numbers_determined (parameter_numbers a.parameters) (parameter_numbers b.parameters) p.parameters q.parameters (head_eq rest)))
      (commitments_determined a.commitments b.commitments p.commitments q.commitments (tail_eq rest))

pub statement_determined : (degree : ℕ) (a b : Statement) → IsDeterminedStatement degree a b
statement_determined degree a b some p q e =
    from_labels degree some a b p q (labels_of degree some a b p q e)

context_fits : (degree : ℕ) (context : List ℕ) → FitsNumber degree → FitsText context
    → FitsStream (context_description degree context)
context_fits degree context d f = record {
  name = omega arith;
  step_count = omega arith;
  steps = one_step _ (record { type_tag = d; length = tt });
  step_labels = All-cons (λ (s : Step). FitsText s.label) _ [] (omega arith) (All-nil (λ (s : Step). FitsText s.label));
  labels = All-cons FitsText context [] f (All-nil FitsText);
}

pub context_determined : (degree : ℕ) (a b : List ℕ) → IsDeterminedContext degree a b
unfolding context_stream
context_determined degree a b fits p q e = head_eq (ap (λ d. d.labels)
    (description_determined (context_description degree a) (context_description degree b)
    (context_fits degree a fits p) (context_fits degree b fits q) e))
