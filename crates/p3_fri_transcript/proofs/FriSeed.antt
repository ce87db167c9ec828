-- The stream of a low-degree test determines its shape.
use Rattle.std.proofs.Common.{◌≡◌, ℕ, zero, suc, ◌<◌, List, [], ◌∷◌, ◌++◌, length, map, codes, refl}
use Rattle.std.proofs.Common.{sym, ap, ap₂, ◌∙◌, arith, append_assoc}
use Rattle.std.specs.List.{All}
use Rattle.std.proofs.lemmas.List.Elements.{All-nil, All-cons, All-append, All-same}
use Rattle.p3_challenger_fs.specs.declared.pattern.Hierarchy.TheVariants.{Atomic}
use Rattle.p3_challenger_fs.specs.declared.pattern.Kind.TheVariants.{Challenge}
use Rattle.p3_challenger_fs.specs.declared.pattern.TypeTag.TheVariants.{Bits}
use Rattle.p3_challenger_fs.specs.declared.pattern.Length.TheVariants.{Fixed}
use Rattle.p3_challenger_fs.specs.Pattern.{Step, number_bytes, seed_stream}
use Rattle.p3_challenger_fs.specs.StreamLaws.{FitsNumber}
use Rattle.p3_challenger_fs.proofs.Streams.{FitsWhole, stream_determined}
use Rattle.p3_fri_transcript.specs.Shapes.{fri_shape}
use Rattle.p3_fri_transcript.specs.Steps.{FriNumbers, commitment_step, round_steps, rounds_steps}
use Rattle.p3_fri_transcript.specs.Steps.{query_steps, fri_steps, fri_stream, fri_labels}
use Rattle.p3_fri_pow.specs.Steps.{pow_steps, challenge_step, message_step}
use Rattle.p3_fri_transcript.specs.declared.transcript.shape.FriShape.{FriShape}
use Rattle.p3_fri_transcript.specs.SeedLaws.{SameFriShape, FitsFri}
use Rattle.p3_fri_pow.proofs.SeedLemmas.{count_equal, pow_determined, pow_fits, labels_fit}
use Rattle.p3_fri_pow.proofs.SeedLemmas.{labels_determined}
use Rattle.algebra.proofs.Lists.{head_eq, tail_eq}

-- what the steps tell
record StepsAgree (s t : FriNumbers) : Type 0 where
  rounds : length s.log_arities ≡ length t.log_arities
  commit_pow_bits : 0 < length s.log_arities → s.commit_pow_bits ≡ t.commit_pow_bits
  final_poly_len : s.final_poly_len ≡ t.final_poly_len
  query_pow_bits : s.query_pow_bits ≡ t.query_pow_bits
  index_bits : s.index_bits ≡ t.index_bits
  num_queries : s.num_queries ≡ t.num_queries

abbrev index_step : ℕ → ℕ → Step
index_step width n = record { hierarchy = Atomic; kind = Challenge; type_tag = Bits width; label = codes "query_indices"; length = Fixed n }

type_equal : (s t : Step) → s ≡ t → s.type_tag ≡ t.type_tag
type_equal s t e = ap (λ (x : Step). x.type_tag) e

width_equal : (a b m n : ℕ) → index_step a m ≡ index_step b n → a ≡ b
width_equal a b m n e = let h = type_equal (index_step a m) (index_step b n) e in cc

regroup_round : (p : List Step) (x : Step) (q w : List Step)
    → ((p ++ x ∷ []) ++ q) ++ w ≡ p ++ x ∷ (q ++ w)
regroup_round p x q w = simp append_assoc

regroup_query : (r : List Step) (m : Step) (p : List Step) (x : Step) (u : List Step)
    → (r ++ m ∷ (p ++ x ∷ [])) ++ u ≡ r ++ m ∷ (p ++ x ∷ u)
regroup_query r m p x u = simp append_assoc

module _ (d : ℕ) where
  -- rounds in front of a message of the extension
  rounds_determined : (label : List ℕ) (bits bits' n n' a a' : ℕ) (u v : List Step)
      → rounds_steps d bits n ++ message_step d label a ∷ u ≡ rounds_steps d bits' n' ++ message_step d label a' ∷ v
      → (n ≡ n') × (0 < n → bits ≡ bits') × (a ≡ a') × (u ≡ v)
  rounds_determined label bits bits' zero zero a a' u v e =
      (refl, (λ h. absurd (omega (arith, h))), count_equal (message_step d label a) (message_step d label a') a a' (head_eq e) refl refl, tail_eq e)
  rounds_determined label bits bits' zero (suc n) a a' u v e = let h = type_equal (message_step d label a) commitment_step (head_eq e) in absurd cc
  rounds_determined label bits bits' (suc n) zero a a' u v e = let h = type_equal commitment_step (message_step d label a') (head_eq e) in absurd cc
  rounds_determined label bits bits' (suc n) (suc n') a a' u v e =
      let fold = challenge_step d (codes "fold_challenge") in
      let first = pow_determined (codes "commit_pow") bits bits' fold fold (rounds_steps d bits n ++ message_step d label a ∷ u) (rounds_steps d bits' n' ++ message_step d label a' ∷ v) refl refl
      (sym (regroup_round (pow_steps (codes "commit_pow") bits) fold (rounds_steps d bits n) (message_step d label a ∷ u))
      ∙ tail_eq e ∙ regroup_round (pow_steps (codes "commit_pow") bits') fold (rounds_steps d bits' n') (message_step d label a' ∷ v)) in
      let rest = rounds_determined label bits bits' n n' a a' u v first.2 in
      (ap (λ k. suc k) rest.0, (λ _. first.0), rest.2, rest.3)

  fri_determined : (s t : FriNumbers) (u v : List Step) → fri_steps d s ++ u ≡ fri_steps d t ++ v
      → StepsAgree s t × (u ≡ v)
  unfolding fri_steps
  fri_determined s t u v e =
      let pow = λ (x : FriNumbers). pow_steps (codes "query_pow") x.query_pow_bits in
      let index = λ (x : FriNumbers). index_step x.index_bits x.num_queries in
      let rounds = λ (x : FriNumbers). rounds_steps d x.commit_pow_bits (length x.log_arities) in
      let message = λ (x : FriNumbers). message_step d (codes "final_poly") x.final_poly_len in
      let first = rounds_determined (codes "final_poly") s.commit_pow_bits t.commit_pow_bits (length s.log_arities) (length t.log_arities) s.final_poly_len t.final_poly_len (pow s ++ index s ∷ u) (pow t ++ index t ∷ v)
      (sym (regroup_query (rounds s) (message s) (pow s) (index s) u) ∙ e ∙ regroup_query (rounds t) (message t) (pow t) (index t) v) in
      let second = pow_determined (codes "query_pow") s.query_pow_bits t.query_pow_bits (index s) (index t) u v refl refl first.3 in (
        record {
          rounds = first.0;
          commit_pow_bits = first.1;
          final_poly_len = first.2;
          query_pow_bits = second.0;
          index_bits = width_equal s.index_bits t.index_bits s.num_queries t.num_queries second.1;
          num_queries = count_equal (index s) (index t) s.num_queries t.num_queries second.1 refl refl;
        },
        second.2,
      )

  -- the steps' numbers fit
  rounds_fit : (bits n : ℕ) → FitsNumber d → FitsNumber bits → All FitsWhole (rounds_steps d bits n)
  rounds_fit bits zero p b = All-nil FitsWhole
  rounds_fit bits (suc n) p b =
      All-append FitsWhole (round_steps d bits) (rounds_steps d bits n)
      (All-cons FitsWhole commitment_step (pow_steps (codes "commit_pow") bits ++ challenge_step d (codes "fold_challenge") ∷ []) (record { numbers = record { type_tag = tt; length = tt }; label = omega arith })
      (All-append FitsWhole (pow_steps (codes "commit_pow") bits) (challenge_step d (codes "fold_challenge") ∷ []) (pow_fits (codes "commit_pow") bits (omega arith) b)
      (All-cons FitsWhole (challenge_step d (codes "fold_challenge")) [] (record { numbers = record { type_tag = p; length = tt }; label = omega arith }) (All-nil FitsWhole))))
      (rounds_fit bits n p b)

  query_fits : (s : FriNumbers) → FitsNumber d → FitsFri s → All FitsWhole (query_steps d s)
  query_fits s p f =
      All-cons FitsWhole (message_step d (codes "final_poly") s.final_poly_len) (pow_steps (codes "query_pow") s.query_pow_bits ++ index_step s.index_bits s.num_queries ∷ [])
      (record { numbers = record { type_tag = p; length = f.final_poly_len }; label = omega arith })
      (All-append FitsWhole (pow_steps (codes "query_pow") s.query_pow_bits) (index_step s.index_bits s.num_queries ∷ []) (pow_fits (codes "query_pow") s.query_pow_bits (omega arith) f.query_pow_bits)
      (All-cons FitsWhole (index_step s.index_bits s.num_queries) [] (record { numbers = record { type_tag = f.index_bits; length = f.num_queries }; label = omega arith }) (All-nil FitsWhole)))

  fri_fits : (s : FriNumbers) → FitsNumber d → FitsFri s → All FitsWhole (fri_steps d s)
  unfolding fri_steps
  fri_fits s p f = All-append FitsWhole (rounds_steps d s.commit_pow_bits (length s.log_arities)) (query_steps d s) (rounds_fit s.commit_pow_bits (length s.log_arities) p f.commit_pow_bits) (query_fits s p f)

  pub fri_stream_determined : (s t : FriNumbers) → FitsNumber d → FitsFri s → FitsFri t
      → fri_stream d s ≡ fri_stream d t → SameFriShape s t
  unfolding fri_stream fri_labels
  fri_stream_determined s t p f g e =
      let list = λ (x : FriNumbers). x.log_blowup ∷ x.max_log_arity ∷ x.log_arities in
      let parts = stream_determined 1 1 (codes "p3-fri") (codes "p3-fri") (fri_steps d s) (fri_steps d t) (map number_bytes (list s)) (map number_bytes (list t)) (StepsAgree s t) (omega arith) (omega arith)
      (fri_fits s p f) (fri_fits t p g) (λ _ u v h. fri_determined s t u v h) (labels_fit (list s)) (labels_fit (list t)) e in
      let numbers = labels_determined (list s) (list t) (list_fits s f) (list_fits t g) parts.3 in
      let first = tail_eq numbers in
      let agree : StepsAgree s t = parts.2 in
      record {
        log_arities = tail_eq first;
        final_poly_len = agree.final_poly_len;
        commit_pow_bits = agree.commit_pow_bits;
        query_pow_bits = agree.query_pow_bits;
        num_queries = agree.num_queries;
        index_bits = agree.index_bits;
        log_blowup = head_eq numbers;
        max_log_arity = head_eq first;
      }
    where
      list_fits : (x : FriNumbers) → FitsFri x
          → All FitsNumber (x.log_blowup ∷ x.max_log_arity ∷ x.log_arities)
      list_fits x f = All-cons FitsNumber x.log_blowup (x.max_log_arity ∷ x.log_arities) f.log_blowup (All-cons FitsNumber x.max_log_arity x.log_arities f.max_log_arity f.log_arities)

  -- and tells no more
  rounds_same : (n bits bits' : ℕ) → (0 < n → bits ≡ bits')
      → rounds_steps d bits n ≡ rounds_steps d bits' n
  rounds_same zero bits bits' h = refl
  rounds_same (suc n) bits bits' h = ap (λ b. rounds_steps d b (suc n)) (h (omega arith))

  query_same : (f f' p p' w w' n n' : ℕ) → f ≡ f' → p ≡ p' → w ≡ w' → n ≡ n'
      → message_step d (codes "final_poly") f ∷ (pow_steps (codes "query_pow") p ++ index_step w n ∷ []) ≡ message_step d (codes "final_poly") f' ∷ (pow_steps (codes "query_pow") p' ++ index_step w' n' ∷ [])
  query_same f f' p p' w w' n n' e g h i =
      ap (λ x. message_step d (codes "final_poly") x ∷ (pow_steps (codes "query_pow") p ++ index_step w n ∷ [])) e
      ∙ ap (λ x. message_step d (codes "final_poly") f' ∷ (pow_steps (codes "query_pow") x ++ index_step w n ∷ [])) g
      ∙ ap (λ x. message_step d (codes "final_poly") f' ∷ (pow_steps (codes "query_pow") p' ++ index_step x n ∷ [])) h
      ∙ ap (λ x. message_step d (codes "final_poly") f' ∷ (pow_steps (codes "query_pow") p' ++ index_step w' x ∷ [])) i

  steps_same : (s t : FriNumbers) → SameFriShape s t → fri_steps d s ≡ fri_steps d t
  unfolding fri_steps
  steps_same s t h =
      ap₂ (λ (x y : List Step). x ++ y)
      (rounds_same (length s.log_arities) s.commit_pow_bits t.commit_pow_bits h.commit_pow_bits ∙ ap (λ (xs : List ℕ). rounds_steps d t.commit_pow_bits (length xs)) h.log_arities)
      (query_same s.final_poly_len t.final_poly_len s.query_pow_bits t.query_pow_bits s.index_bits t.index_bits s.num_queries t.num_queries h.final_poly_len h.query_pow_bits h.index_bits h.num_queries)

  pub fri_stream_same : (s t : FriNumbers) → SameFriShape s t → fri_stream d s ≡ fri_stream d t
  unfolding fri_stream fri_labels
  fri_stream_same s t h =
      ap₂ (λ (x : List Step) (y : List ℕ). seed_stream 1 (codes "p3-fri") x (map number_bytes y)) (steps_same s t h) (list_same s.log_blowup t.log_blowup s.max_log_arity t.max_log_arity s.log_arities t.log_arities h.log_blowup h.max_log_arity h.log_arities)
    where
      list_same : (a a' b b' : ℕ) (xs xs' : List ℕ) → a ≡ a' → b ≡ b' → xs ≡ xs'
          → a ∷ b ∷ xs ≡ a' ∷ b' ∷ xs'
      list_same a a' b b' xs xs' e f g = cc

pub shape_fits : (s : FriShape) (numbers : List ℕ) → numbers ≡ s.log_arities.items
    → All FitsNumber numbers → FitsNumber s.final_poly_len → FitsNumber s.commit_pow_bits
    → FitsNumber s.query_pow_bits
    → FitsNumber s.num_queries → FitsNumber s.index_bits → FitsNumber s.log_blowup → FitsNumber s.max_log_arity → FitsFri (fri_shape s)
unfolding fri_shape
shape_fits s numbers e l f c q n i b m = record {
  log_arities = All-same FitsNumber s.log_arities.items numbers (sym e) l;
  final_poly_len = f;
  commit_pow_bits = c;
  query_pow_bits = q;
  num_queries = n;
  index_bits = i;
  log_blowup = b;
  max_log_arity = m;
}
