-- The stream determines the instance.
use Rattle.std.proofs.Common.{◌≡◌, ℕ, Bool, true, false, List, [], ◌∷◌, ◌++◌, length, map, refl, sym, ap, ◌∙◌, arith, append_assoc, append-nil, codes}
use Rattle.std.specs.List.{All, flat_map}
use Rattle.std.proofs.lemmas.List.{length-map}
use Rattle.std.proofs.lemmas.List.Elements.{All-nil, All-cons}
use Rattle.algebra.proofs.Lists.{head_eq, tail_eq}
use Rattle.p3_air.specs.declared.air.Node.{Node}
use Rattle.p3_air.specs.declared.air.Node.TheVariants.{Constant, Local, Next, Preprocessed}
use Rattle.p3_air.specs.declared.air.Node.TheVariants.{PreprocessedNext, Public, Periodic}
use Rattle.p3_air.specs.declared.air.Node.TheVariants.{Add, Sub, Mul, Neg}
use Rattle.p3_air.specs.declared.air.Rows.{Rows}
use Rattle.p3_air.specs.declared.air.Rows.TheVariants as rows
use Rattle.p3_air.specs.declared.air.Constraint.{Constraint}
use Rattle.p3_air.specs.declared.air.AirLayout.{AirLayout}
use Rattle.p3_challenger_fs.specs.declared.pattern.Hierarchy.{Hierarchy}
use Rattle.p3_challenger_fs.specs.declared.pattern.Hierarchy.TheVariants.{Begin, End}
use Rattle.p3_challenger_fs.specs.Pattern.{Step, number_bytes}
use Rattle.p3_challenger_fs.specs.StreamLaws.{FitsNumber, FitsStep}
use Rattle.p3_challenger_fs.proofs.Streams.{split_front, number_delimited, last_determined}
use Rattle.p3_challenger_fs.proofs.Streams.{cons_equal, description_determined, short_fits}
use Rattle.p3_uni_stark_transcript.specs.Instance.{Instance, rows_number, constraint_numbers, header_numbers}
use Rattle.p3_uni_stark_transcript.specs.Instance.{node_numbers, column_numbers, instance_numbers, numbers_bytes}
use Rattle.p3_uni_stark_transcript.specs.Steps.{commitment_step, challenge_step, opening_step, last_steps}
use Rattle.p3_uni_stark_transcript.specs.Steps.{stark_steps, stark_description, stark_stream}
use Rattle.p3_uni_stark_transcript.specs.InstanceLaws.{IsDeterminedInstance}

numbers_determined : (xs ys : List ℕ) → All FitsNumber xs → All FitsNumber ys
    → numbers_bytes xs ≡ numbers_bytes ys → xs ≡ ys
numbers_determined xs ys p q e =
    last_determined FitsNumber number_bytes number_delimited (λ n. omega arith) xs ys p q e

-- where each encoding shows where it ends, so do as many of them
counted : {A : Type 0} (f : A → List ℕ)
    → ((x y : A) (s t : List ℕ) → f x ++ s ≡ f y ++ t → (x ≡ y) × (s ≡ t))
    → (xs ys : List A) (s t : List ℕ) → length xs ≡ length ys
    → flat_map f xs ++ s ≡ flat_map f ys ++ t → (xs ≡ ys) × (s ≡ t)
counted f D [] [] s t l e = (refl, e)
counted f D [] (y ∷ ys) s t l e = absurd (omega (arith, l))
counted f D (x ∷ xs) [] s t l e = absurd (omega (arith, l))
counted f D (x ∷ xs) (y ∷ ys) s t l e =
    let first = D x y (flat_map f xs ++ s) (flat_map f ys ++ t)
    (sym (append_assoc (f x) (flat_map f xs) s) ∙ e ∙ append_assoc (f y) (flat_map f ys) t) in
    let rest = counted f D xs ys s t (omega (arith, l)) first.1 in
    (cons_equal x y xs ys first.0 rest.0, rest.1)

rows_determined : (x y : Rows) → rows_number x ≡ rows_number y → x ≡ y
rows_determined rows.All rows.All e = refl
rows_determined rows.First rows.First e = refl
rows_determined rows.Last rows.Last e = refl
rows_determined rows.Transition rows.Transition e = refl
rows_determined x y e = absurd cc

abbrev constraint : Rows → ℕ → Constraint
constraint rows node = record { rows = rows; node = node }

same_constraint : (r r' : Rows) (n n' : ℕ) → r ≡ r' → n ≡ n' → constraint r n ≡ constraint r' n'
same_constraint r r' n n' e f = cc

constraint_determined : (x y : Constraint) (s t : List ℕ)
    → constraint_numbers x ++ s ≡ constraint_numbers y ++ t → (x ≡ y) × (s ≡ t)
constraint_determined x y s t e = (
  same_constraint x.rows y.rows x.node y.node (rows_determined x.rows y.rows (head_eq e)) (head_eq (tail_eq e)),
  tail_eq (tail_eq e),
)

module _ {V : Type 0} (canonical : V → ℕ) (injective : (x y : V) → canonical x ≡ canonical y → x ≡ y) where
  same_node : (x y : Node V) → node_numbers canonical x ≡ node_numbers canonical y → x ≡ y
  same_node (Constant v) (Constant w) e = ap Constant (injective v w (head_eq (tail_eq e)))
  same_node (Local i) (Local j) e = ap Local (head_eq (tail_eq e))
  same_node (Next i) (Next j) e = ap Next (head_eq (tail_eq e))
  same_node (Preprocessed i) (Preprocessed j) e = ap Preprocessed (head_eq (tail_eq e))
  same_node (PreprocessedNext i) (PreprocessedNext j) e = ap PreprocessedNext (head_eq (tail_eq e))
  same_node (Public i) (Public j) e = ap Public (head_eq (tail_eq e))
  same_node (Periodic i) (Periodic j) e = ap Periodic (head_eq (tail_eq e))
  same_node (Add i j) (Add k l) e =
      let first = head_eq (tail_eq e) in let second = head_eq (tail_eq (tail_eq e)) in cc
  same_node (Sub i j) (Sub k l) e =
      let first = head_eq (tail_eq e) in let second = head_eq (tail_eq (tail_eq e)) in cc
  same_node (Mul i j) (Mul k l) e =
      let first = head_eq (tail_eq e) in let second = head_eq (tail_eq (tail_eq e)) in cc
  same_node (Neg i) (Neg j) e = ap Neg (head_eq (tail_eq e))
  same_node x y e = absurd (let kinds = head_eq e in cc)

  node_size : (x : Node V) → length (node_numbers canonical x) ≡ 3
  node_size (Constant v) = refl
  node_size (Local i) = refl
  node_size (Next i) = refl
  node_size (Preprocessed i) = refl
  node_size (PreprocessedNext i) = refl
  node_size (Public i) = refl
  node_size (Periodic i) = refl
  node_size (Add i j) = refl
  node_size (Sub i j) = refl
  node_size (Mul i j) = refl
  node_size (Neg i) = refl

  node_determined : (x y : Node V) (s t : List ℕ)
      → node_numbers canonical x ++ s ≡ node_numbers canonical y ++ t → (x ≡ y) × (s ≡ t)
  node_determined x y s t e =
      let parts = split_front (node_numbers canonical x) (node_numbers canonical y) s t
      (node_size x ∙ sym (node_size y)) e in
      (same_node x y parts.0, parts.1)

  same_elements : (xs ys : List V) → map canonical xs ≡ map canonical ys → xs ≡ ys
  same_elements [] [] e = refl
  same_elements [] (y ∷ ys) e = absurd cc
  same_elements (x ∷ xs) [] e = absurd cc
  same_elements (x ∷ xs) (y ∷ ys) e =
      cons_equal x y xs ys (injective x y (head_eq e)) (same_elements xs ys (tail_eq e))

  elements_determined : (xs ys : List V) (s t : List ℕ) → length xs ≡ length ys
      → map canonical xs ++ s ≡ map canonical ys ++ t → (xs ≡ ys) × (s ≡ t)
  elements_determined xs ys s t l e =
      let parts = split_front (map canonical xs) (map canonical ys) s t
      (length-map xs canonical ∙ l ∙ sym (length-map ys canonical)) e in
      (same_elements xs ys parts.0, parts.1)

  column_determined : (xs ys : List V) (s t : List ℕ)
      → column_numbers canonical xs ++ s ≡ column_numbers canonical ys ++ t → (xs ≡ ys) × (s ≡ t)
  column_determined xs ys s t e = elements_determined xs ys s t (head_eq e) (tail_eq e)

  abbrev instance : AirLayout → List (Node V) → List Constraint → List V → List (List V) → ℕ
      → Instance V
  instance layout nodes constraints publics periodic log_height = record {
    layout = layout;
    nodes = nodes;
    constraints = constraints;
    public_values = publics;
    periodic = periodic;
    log_height = log_height;
  }

  same_instance : (a a' : AirLayout) (n n' : List (Node V)) (c c' : List Constraint) (p p' : List V)
      (q q' : List (List V)) (h h' : ℕ) → a ≡ a' → n ≡ n' → c ≡ c' → p ≡ p' → q ≡ q' → h ≡ h'
      → instance a n c p q h ≡ instance a' n' c' p' q' h'
  same_instance a a' n n' c c' p p' q q' h h' ea en ec ep eq eh = cc

  abbrev layout : (w p n q : ℕ) → AirLayout
  layout w p n q = record {
    width = w;
    preprocessed_width = p;
    num_public_values = n;
    num_periodic_columns = q;
  }

  same_layout : (w w' p p' n n' q q' : ℕ) → w ≡ w' → p ≡ p' → n ≡ n' → q ≡ q'
      → layout w p n q ≡ layout w' p' n' q'
  same_layout w w' p p' n n' q q' e f g h = cc

  regroup : (a b c d e : List ℕ) → (((a ++ b) ++ c) ++ d) ++ e ≡ a ++ (b ++ (c ++ (d ++ (e ++ []))))
  regroup a b c d e = simp (append_assoc, append-nil)

  same_numbers : (a b : Instance V) → instance_numbers canonical a ≡ instance_numbers canonical b
      → a ≡ b
  unfolding instance_numbers
  same_numbers a b e =
      let top = split_front (header_numbers a) (header_numbers b) _ _ refl
      (sym (regroup (header_numbers a) (flat_map (node_numbers canonical) a.nodes)
      (flat_map constraint_numbers a.constraints) (map canonical a.public_values)
      (flat_map (column_numbers canonical) a.periodic))
      ∙ e ∙ regroup (header_numbers b) (flat_map (node_numbers canonical) b.nodes)
      (flat_map constraint_numbers b.constraints) (map canonical b.public_values)
      (flat_map (column_numbers canonical) b.periodic)) in
      let e0 = top.0 in
      let e1 = tail_eq e0 in
      let e2 = tail_eq e1 in
      let e3 = tail_eq e2 in
      let e4 = tail_eq e3 in
      let e5 = tail_eq e4 in
      let e6 = tail_eq e5 in
      let e7 = tail_eq e6 in
      let e8 = tail_eq e7 in
      let nodes = counted (node_numbers canonical) node_determined a.nodes b.nodes _ _ (head_eq e5) top.1 in
      let constraints = counted constraint_numbers constraint_determined a.constraints b.constraints _ _ (head_eq e6) nodes.1 in
      let publics = elements_determined a.public_values b.public_values _ _ (head_eq e7) constraints.1 in
      let periodic = counted (column_numbers canonical) column_determined a.periodic b.periodic [] [] (head_eq e8) publics.1 in
      same_instance a.layout b.layout a.nodes b.nodes a.constraints b.constraints a.public_values b.public_values
      a.periodic b.periodic a.log_height b.log_height
      (same_layout a.layout.width b.layout.width a.layout.preprocessed_width b.layout.preprocessed_width
      a.layout.num_public_values b.layout.num_public_values a.layout.num_periodic_columns b.layout.num_periodic_columns
      (head_eq e0) (head_eq e1) (head_eq e2) (head_eq e3))
      nodes.0 constraints.0 publics.0 periodic.0 (head_eq e4)

  module _ (d : ℕ) (preprocessed hides : Bool) where
    one : (s : Step) (steps : List Step) → FitsStep s → All FitsStep steps → All FitsStep (s ∷ steps)
    one s steps f rest = All-cons FitsStep s steps f rest

    of_commitment : (label : List ℕ) → FitsStep (commitment_step label)
    of_commitment label = record { type_tag = tt; length = tt }

    of_challenge : (label : List ℕ) → FitsNumber d → FitsStep (challenge_step d label)
    of_challenge label f = record { type_tag = f; length = tt }

    of_opening : (hierarchy : Hierarchy) → FitsStep (opening_step hierarchy)
    of_opening hierarchy = record { type_tag = tt; length = tt }

    abbrev last : List Step
    last = challenge_step d (codes "zeta") ∷ opening_step Begin ∷ opening_step End ∷ []

    last_fit : FitsNumber d → All FitsStep last
    last_fit f = one (challenge_step d (codes "zeta")) (opening_step Begin ∷ opening_step End ∷ [])
        (of_challenge (codes "zeta") f)
        (one (opening_step Begin) (opening_step End ∷ []) (of_opening Begin)
        (one (opening_step End) [] (of_opening End) (All-nil FitsStep)))

    random_fit : (h : Bool) → FitsNumber d → All FitsStep (last_steps d h)
    random_fit true f = one (commitment_step (codes "quotient")) (commitment_step (codes "random") ∷ last)
        (of_commitment (codes "quotient"))
        (one (commitment_step (codes "random")) last (of_commitment (codes "random")) (last_fit f))
    random_fit false f = one (commitment_step (codes "quotient")) last
        (of_commitment (codes "quotient")) (last_fit f)

    trace_fit : (h : Bool) → FitsNumber d → All FitsStep
        (commitment_step (codes "trace") ∷ challenge_step d (codes "alpha") ∷ last_steps d h)
    trace_fit h f = one (commitment_step (codes "trace")) (challenge_step d (codes "alpha") ∷ last_steps d h)
        (of_commitment (codes "trace"))
        (one (challenge_step d (codes "alpha")) (last_steps d h) (of_challenge (codes "alpha") f)
        (random_fit h f))

    steps_fit : (p h : Bool) → FitsNumber d → All FitsStep (stark_steps d p h)
    steps_fit true h f = one (commitment_step (codes "preprocessed"))
        (commitment_step (codes "trace") ∷ challenge_step d (codes "alpha") ∷ last_steps d h)
        (of_commitment (codes "preprocessed")) (trace_fit h f)
    steps_fit false h f = trace_fit h f

    pub instance_determined : (a b : Instance V) → IsDeterminedInstance canonical d preprocessed hides a b
    unfolding stark_stream
    instance_determined a b p q e = same_numbers a b
        (numbers_determined (instance_numbers canonical a) (instance_numbers canonical b) p.numbers q.numbers
        (head_eq (ap (λ s. s.labels) (description_determined
        (stark_description d canonical preprocessed hides a) (stark_description d canonical preprocessed hides b)
        (short_fits (stark_description d canonical preprocessed hides a) (steps_fit preprocessed hides p.degree) p.stream)
        (short_fits (stark_description d canonical preprocessed hides b) (steps_fit preprocessed hides q.degree) q.stream) e))))
