-- The stream of a PCS transcript determines its shape.
use Rattle.std.proofs.Common.{◌≡◌, ℕ, zero, suc, List, [], ◌∷◌, ◌++◌, length, map, codes, refl, sym, ◌∙◌, arith, append_assoc, subst, Vec, Global}
use Rattle.std.specs.List.{All, flat_map}
use Rattle.std.proofs.lemmas.List.{length-map}
use Rattle.std.proofs.lemmas.List.Elements.{All-nil, All-cons, All-head, All-tail, All-append, All-map}
use Rattle.p3_challenger_fs.specs.declared.pattern.Hierarchy.TheVariants.{Begin, End}
use Rattle.p3_challenger_fs.specs.declared.pattern.Kind.TheVariants.{Challenge}
use Rattle.p3_challenger_fs.specs.Pattern.{Step, number_bytes}
use Rattle.p3_challenger_fs.specs.StreamLaws.{FitsNumber}
use Rattle.p3_challenger_fs.proofs.Streams.{FitsWhole, cons_equal, split_front, stream_determined}
use Rattle.p3_fri_pcs_transcript.specs.Shapes.{pcs_shape}
use Rattle.p3_fri_pcs_transcript.specs.Steps.{PcsNumbers, bracket_step, widths, grouping, pcs_steps, pcs_stream, pcs_labels}
use Rattle.p3_fri_pow.specs.Steps.{pow_steps, challenge_step, message_step}
use Rattle.p3_fri_pcs_transcript.specs.declared.pcs_transcript.shape.PcsShape.{PcsShape}
use Rattle.p3_fri_pow.specs.Fits.{FitsList, FitsPoints}
use Rattle.p3_fri_pcs_transcript.specs.SeedLaws.{FitsMatrices, FitsCounts, FitsPcs}
use Rattle.p3_fri_pow.proofs.SeedLemmas.{count_equal, kind_equal, pow_step, pow_determined, pow_fits, labels_fit, labels_determined}
use Rattle.algebra.proofs.Lists.{head_eq, tail_eq}

-- the numbers of claimed values and how they are grouped give back the counts
points_determined : (xs ys : List (List ℕ)) (s t : List ℕ) → map length xs ≡ map length ys → flat_map (λ points. points) xs ++ s ≡ flat_map (λ points. points) ys ++ t → (xs ≡ ys) × (s ≡ t)
points_determined [] [] s t l e = (refl, e)
points_determined [] (y ∷ ys) s t l e = absurd cc
points_determined (x ∷ xs) [] s t l e = absurd cc
points_determined (x ∷ xs) (y ∷ ys) s t l e =
    let rest = λ (z : List (List ℕ)). flat_map (λ points. points) z in
    let first = split_front x y (rest xs ++ s) (rest ys ++ t) (head_eq l) (sym (append_assoc x (rest xs) s) ∙ e ∙ append_assoc y (rest ys) t) in
    let others = points_determined xs ys s t (tail_eq l) first.1 in
    (cons_equal x y xs ys first.0 others.0, others.1)

abbrev group : List (List ℕ) → List ℕ
group matrices = length matrices ∷ map length matrices

groups_determined : (xs ys : List (List (List ℕ))) → length xs ≡ length ys → flat_map group xs ≡ flat_map group ys → widths xs ≡ widths ys → xs ≡ ys
groups_determined [] [] l g w = refl
groups_determined [] (y ∷ ys) l g w = absurd (omega arith)
groups_determined (x ∷ xs) [] l g w = absurd (omega arith)
groups_determined (x ∷ xs) (y ∷ ys) l g w =
    let count = head_eq g in
    let lengths = split_front (map length x) (map length y) (flat_map group xs) (flat_map group ys) (length-map x length ∙ count ∙ sym (length-map y length))
    (tail_eq g) in
    let first = points_determined x y (widths xs) (widths ys) lengths.0 w in
    cons_equal x y xs ys first.0 (groups_determined xs ys (omega arith) lengths.1 first.1)

pub counts_determined : (xs ys : List (List (List ℕ))) → grouping xs ≡ grouping ys → widths xs ≡ widths ys → xs ≡ ys
counts_determined xs ys g w =
    groups_determined xs ys (head_eq g) (tail_eq g) w

grouping_fits : (xs : List (List (List ℕ))) → FitsCounts xs → All FitsNumber (grouping xs)
grouping_fits xs f = All-cons FitsNumber (length xs) (flat_map group xs) f.0 (groups_fit xs f.1)
  where
    groups_fit : (ys : List (List (List ℕ))) → All FitsMatrices ys → All FitsNumber (flat_map group ys)
    groups_fit [] p = All-nil FitsNumber
    groups_fit (y ∷ ys) p =
        let first = All-head FitsMatrices y ys p in
        All-append FitsNumber (group y) (flat_map group ys) (All-cons FitsNumber (length y) (map length y) first.0 (All-map FitsNumber length y (λ k d l. (first.1 k d l).0)))
        (groups_fit ys (All-tail FitsMatrices y ys p))

points_fit : (xs : List (List ℕ)) → All FitsPoints xs → All FitsNumber (flat_map (λ points. points) xs)
points_fit [] p = All-nil FitsNumber
points_fit (x ∷ xs) p =
    All-append FitsNumber x (flat_map (λ points. points) xs) (All-head FitsPoints x xs p).1 (points_fit xs (All-tail FitsPoints x xs p))

widths_fit : (xs : List (List (List ℕ))) → All FitsMatrices xs → All FitsNumber (widths xs)
widths_fit [] p = All-nil FitsNumber
widths_fit (x ∷ xs) p =
    All-append FitsNumber (flat_map (λ points. points) x) (widths xs) (points_fit x (All-head FitsMatrices x xs p).1)
    (widths_fit xs (All-tail FitsMatrices x xs p))

abbrev shape_with : List (List (List ℕ)) → ℕ → PcsNumbers
shape_with counts bits = record { counts = counts; batch_pow_bits = bits }

module _ (d : ℕ) where
  -- neither a proof of work nor a challenge is a message
  no_message : (label other : List ℕ) (bits n : ℕ) (x : Step) (u v : List Step) → x.kind ≡ Challenge → pow_steps label bits ++ x ∷ u ≡ message_step d other n ∷ v → ⊥
  no_message label other zero n x u v k e = let h = kind_equal x (message_step d other n) (head_eq e) in absurd cc
  no_message label other (suc bits) n x u v k e = let h = kind_equal (pow_step label (suc bits)) (message_step d other n) (head_eq e) in absurd cc

  messages_determined : (label other : List ℕ) (ms ns : List ℕ) (bits bits' : ℕ) (x y : Step) (u v : List Step) → x.kind ≡ Challenge → y.kind ≡ Challenge
      → map (message_step d other) ms ++ (pow_steps label bits ++ x ∷ u) ≡ map (message_step d other) ns ++ (pow_steps label bits' ++ y ∷ v)
      → (ms ≡ ns) × (bits ≡ bits') × (u ≡ v)
  messages_determined label other [] [] bits bits' x y u v k l e = let p = pow_determined label bits bits' x y u v k l e in (refl, p.0, p.2)
  messages_determined label other [] (n ∷ ns) bits bits' x y u v k l e = absurd (no_message label other bits n x u (map (message_step d other) ns ++ (pow_steps label bits' ++ y ∷ v)) k e)
  messages_determined label other (m ∷ ms) [] bits bits' x y u v k l e = absurd (no_message label other bits' m y v (map (message_step d other) ms ++ (pow_steps label bits ++ x ∷ u)) l (sym e))
  messages_determined label other (m ∷ ms) (n ∷ ns) bits bits' x y u v k l e =
      let step = message_step d other in
      let after = λ (zs : List ℕ) (b : ℕ) (z : Step) (w : List Step). map (message_step d other) zs ++ (pow_steps label b ++ z ∷ w) in
      let rest = messages_determined label other ms ns bits bits' x y u v k l (tail_eq e) in
      (cons_equal m n ms ns (count_equal (step m) (step n) m n (head_eq e) refl refl) rest.0, rest.1, rest.2)

  -- what the steps determine
  abbrev StepsAgree : PcsNumbers → PcsNumbers → Type 0
  StepsAgree s t = (widths s.counts ≡ widths t.counts) × (s.batch_pow_bits ≡ t.batch_pow_bits)

  regroup : (a b : List Step) (x y z : Step) (u : List Step) → (a ++ (b ++ (x ∷ y ∷ z ∷ []))) ++ u ≡ a ++ (b ++ x ∷ y ∷ z ∷ u)
  regroup a b x y z u = simp append_assoc

  pcs_determined : (s t : PcsNumbers) (u v : List Step) → pcs_steps d s ++ u ≡ pcs_steps d t ++ v → StepsAgree s t × (u ≡ v)
  unfolding pcs_steps
  pcs_determined s t u v e =
      let messages = λ (x : PcsNumbers). map (message_step d (codes "claimed_evaluations")) (widths x.counts) in
      let pow = λ (x : PcsNumbers). pow_steps (codes "batch_pow") x.batch_pow_bits in
      let alpha = challenge_step d (codes "alpha") in
      let p = messages_determined (codes "batch_pow") (codes "claimed_evaluations") (widths s.counts) (widths t.counts) s.batch_pow_bits t.batch_pow_bits alpha alpha
      (bracket_step Begin ∷ bracket_step End ∷ u) (bracket_step Begin ∷ bracket_step End ∷ v) refl refl
      (sym (regroup (messages s) (pow s) alpha (bracket_step Begin) (bracket_step End) u) ∙ e ∙ regroup (messages t) (pow t) alpha (bracket_step Begin) (bracket_step End) v) in
      ((p.0, p.1), tail_eq (tail_eq p.2))

  pcs_fits : (s : PcsNumbers) → FitsNumber d → FitsPcs s → All FitsWhole (pcs_steps d s)
  unfolding pcs_steps
  pcs_fits s p f =
      let messages = map (message_step d (codes "claimed_evaluations")) (widths s.counts) in
      let pow = pow_steps (codes "batch_pow") s.batch_pow_bits in
      let numbers = widths_fit s.counts f.counts.1 in
      let others = challenge_step d (codes "alpha") ∷ bracket_step Begin ∷ bracket_step End ∷ [] in
      All-append FitsWhole messages (pow ++ others)
      (All-map FitsWhole (message_step d (codes "claimed_evaluations")) (widths s.counts)
      (λ k e l. record { numbers = record { type_tag = p; length = numbers k e l }; label = omega arith }))
      (All-append FitsWhole pow others
      (pow_fits (codes "batch_pow") s.batch_pow_bits (omega arith) f.batch_pow_bits)
      (All-cons FitsWhole (challenge_step d (codes "alpha")) (bracket_step Begin ∷ bracket_step End ∷ [])
      (record { numbers = record { type_tag = p; length = tt }; label = omega arith })
      (All-cons FitsWhole (bracket_step Begin) (bracket_step End ∷ [])
      (record { numbers = record { type_tag = tt; length = tt }; label = omega arith })
      (All-cons FitsWhole (bracket_step End) []
      (record { numbers = record { type_tag = tt; length = tt }; label = omega arith }) (All-nil FitsWhole)))))

  same_pcs : (c c' : List (List (List ℕ))) (b b' : ℕ) → c ≡ c' → b ≡ b' → shape_with c b ≡ shape_with c' b'
  same_pcs c c' b b' e f = cc

  pub pcs_stream_determined : (s t : PcsNumbers) → FitsNumber d → FitsPcs s → FitsPcs t → pcs_stream d s ≡ pcs_stream d t → s ≡ t
  unfolding pcs_stream pcs_labels
  pcs_stream_determined s t p f g e =
      let parts = stream_determined 1 1 (codes "p3-fri-pcs") (codes "p3-fri-pcs") (pcs_steps d s) (pcs_steps d t) (map number_bytes (grouping s.counts)) (map number_bytes (grouping t.counts)) (StepsAgree s t) (omega arith) (omega arith)
      (pcs_fits s p f) (pcs_fits t p g) (λ _ u v h. pcs_determined s t u v h) (labels_fit (grouping s.counts)) (labels_fit (grouping t.counts)) e in
      let groups = labels_determined (grouping s.counts) (grouping t.counts) (grouping_fits s.counts f.counts) (grouping_fits t.counts g.counts) parts.3 in
      same_pcs s.counts t.counts s.batch_pow_bits t.batch_pow_bits (counts_determined s.counts t.counts groups parts.2.0) parts.2.1

-- a list behind another view of its items fits as the list does
list_fits : {A B : Type 0} (P : B → Type 0) (f : A → B) (xs : List A) → FitsList (λ x. P (f x)) xs → FitsList P (map f xs)
list_fits P f xs p = (omega (arith, length-map xs f, p.0), All-map P f xs p.1)

pub shape_fits : (s : PcsShape) (nested : List (Vec (Vec ℕ Global) Global)) → nested ≡ s.claimed_evaluation_counts.items
    → FitsList (λ lists. FitsList (λ numbers. FitsList FitsNumber numbers.items) lists.items) nested → FitsNumber s.batch_pow_bits → FitsPcs (pcs_shape s)
unfolding pcs_shape
shape_fits s nested e p b = record {
  counts = list_fits FitsMatrices (λ c. map (λ m. m.items) c.items) s.claimed_evaluation_counts.items
      (subst (λ (xs : List (Vec (Vec ℕ Global) Global)). FitsList (λ c. FitsList FitsPoints (map (λ m. m.items) c.items)) xs) e
      (p.0, λ k d l. list_fits FitsPoints (λ m. m.items) _ (p.1 k d l)));
  batch_pow_bits = b;
}
