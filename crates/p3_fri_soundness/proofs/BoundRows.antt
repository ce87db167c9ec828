-- The rounds of an accepted proof: the rows that they open, and the chains of the queries.
use Rattle.std.proofs.Common.{◌≡◌, ℕ, zero, suc, ◌+◌, ◌-◌, ◌/◌, ◌^◌, ◌<◌, ◌≤◌, List, [], ◌∷◌, length, map, get_or, Option, Some}
use Rattle.std.proofs.Common.{refl, sym, ap, ◌∙◌, subst, arith}
use Rattle.std.specs.Prelude.{slice_index}
use Rattle.std.specs.List.{AllZip, zip, range_with_len, sum}
use Rattle.std.proofs.lemmas.List.{ext_get_or, length-map, get_or-map}
use Rattle.std.proofs.lemmas.List.Sums.{sum_by-cons}
use Rattle.algebra.specs.Polynomial.{val, tabulate}
use Rattle.algebra.specs.TwoAdic.{pt}
use Rattle.algebra.specs.Folds.{neighbours}
use Rattle.algebra.specs.Rounds.{Link, rows_met, chain, chain_rows}
use Rattle.algebra.proofs.Lists.{head_eq, get_or-tabulate}
use Rattle.algebra.proofs.Lifting.{lifted_pt}
use Rattle.p3_fri_relation.specs.Setting.{Setting, Parameters, CommitmentClaim, RoundOpening, Proof, final_height}
use Rattle.p3_fri_relation.specs.Heights.{matrices_of}
use Rattle.p3_fri_relation.specs.Queries.{Source, rounds_of, heights_after, row_indices, siblings_at, first_link, last_link, rows_folded}
use Rattle.p3_fri_relation.specs.TestRounds.{row_folded, OpensRound, HasSiblings}
use Rattle.p3_fri_relation.specs.Acceptance.{top_height, log_arities, source, test_replay, positions, IsInRange, FriAccepts}
use Rattle.p3_fri_relation.proofs.QueryLinks.{length-chain_rows}
use Rattle.p3_fri_relation.proofs.Instances.{instance_sum}
use Rattle.p3_fri_relation.proofs.InstanceQueries.{last-log_height}
use Rattle.p3_fri_relation.proofs.ClaimedHeights.{has_height-greatest}
use Rattle.p3_fri_relation.proofs.TestReplays.{length-replay_betas, length-positions}
use Rattle.std.proofs.lemmas.Slice.Zip.{AllZip-long}
use Rattle.std.specs.Prelude.{All}
use Rattle.fri_soundness.proofs.Answered.{answer_passes}
use Rattle.fri_soundness.specs.CommittedWords.{AreWords, IsAnswered, PassesTest}
use Rattle.p3_fri_soundness.specs.Bound.{word_rows, BindWords, lifted_root, FoldsPolynomials, AreInputsMet, RoundsOpenedFrom}

-- in each round an index meets the row that has it
rows_met-at : {E : Type 0} (las : List ℕ) (betas : List E) (words : List (List E)) (q k : ℕ) → length betas ≡ length las → length words ≡ length las → k < length las
    → get_or (rows_met (rounds_of las betas) words q) k [] ≡ neighbours (get_or words k []) (get_or (row_indices las q) k 0) (get_or las k 0)
rows_met-at [] betas words q k b n l = absurd (omega (arith, l))
rows_met-at (a ∷ las) [] words q k b n l = absurd (omega (arith, b))
rows_met-at (a ∷ las) (beta ∷ betas) [] q k b n l = absurd (omega (arith, n))
rows_met-at (a ∷ las) (beta ∷ betas) (ys ∷ words) q zero b n l = refl
rows_met-at (a ∷ las) (beta ∷ betas) (ys ∷ words) q (suc k) b n l =
    rows_met-at las betas words (q / 2 ^ a) k (omega (arith, b)) (omega (arith, n)) (omega (arith, l))

length-rows_met : {E : Type 0} (las : List ℕ) (betas : List E) (words : List (List E)) (q : ℕ) → length betas ≡ length las → length words ≡ length las
    → length (rows_met (rounds_of las betas) words q) ≡ length las
length-rows_met [] betas words q b n = refl
length-rows_met (a ∷ las) [] words q b n = absurd (omega (arith, b))
length-rows_met (a ∷ las) (beta ∷ betas) [] q b n = absurd (omega (arith, n))
length-rows_met (a ∷ las) (beta ∷ betas) (ys ∷ words) q b n = ap suc (length-rows_met las betas words (q / 2 ^ a) (omega (arith, b)) (omega (arith, n)))

module _ {F E C Com Path InCom InPath : Type 0} (s : Setting F E C Com Path InCom InPath) where
  bound_count : (las : List ℕ) (h : ℕ) (coms : List Com) (words : List (List E)) → BindWords s las h coms words → length words ≡ length las
  bound_count [] h coms words b = ap length b
  bound_count (a ∷ las) h [] words b = absurd b
  bound_count (a ∷ las) h (cm ∷ coms) [] b = absurd b
  bound_count (a ∷ las) h (cm ∷ coms) (ys ∷ words) b = ap suc (bound_count las (h - a) coms words b.2)

  pub are_words : (las : List ℕ) (betas : List E) (h : ℕ) (coms : List Com) (words : List (List E)) → length betas ≡ length las → sum las ≤ h → BindWords s las h coms words
      → AreWords h (rounds_of las betas) words
  are_words [] betas h coms words n l b = subst (λ ws. AreWords h [] ws) (sym b) tt
  are_words (a ∷ las) [] h coms words n l b = absurd (omega (arith, n))
  are_words (a ∷ las) (beta ∷ betas) h [] words n l b = absurd b
  are_words (a ∷ las) (beta ∷ betas) h (cm ∷ coms) [] n l b = absurd b
  are_words (a ∷ las) (beta ∷ betas) h (cm ∷ coms) (ys ∷ words) n l b =
      let whole = sum_by-cons (λ r. r) a las in
      (b.1, omega arith, are_words las betas (h - a) coms words (omega (arith, n)) (omega arith) b.2)

  module _ (p : Parameters) (las : List ℕ) (top : ℕ) (proof : Proof F E Com Path InPath) (from : Source E) (betas : List E) (positions : List ℕ)
      (many : length positions ≡ p.num_queries) where
    -- the rows that round `k` opens are those of its word
    abbrev pub Shows : (words : List (List E)) (k : ℕ) → Type 0
    Shows words k = tabulate p.num_queries (λ j. row_folded s p las top proof from betas positions j k ∷ [])
        ≡ word_rows (get_or las k 0) (get_or words k []) (map (λ q. get_or (row_indices las q) k 0) positions)

    -- so is the row of each query
    shown_row : (words : List (List E)) (k : ℕ) → Shows words k → (j : ℕ) → j < p.num_queries
        → row_folded s p las top proof from betas positions j k
        ≡ neighbours (get_or words k []) (get_or (row_indices las (get_or positions j 0)) k 0) (get_or las k 0)
    shown_row words k shows j m = head_eq (sym (get_or-tabulate p.num_queries (λ j. row_folded s p las top proof from betas positions j k ∷ []) j [] m)
        ∙ ap (λ xs. get_or xs j []) shows
        ∙ get_or-map (λ i. neighbours (get_or words k []) i (get_or las k 0) ∷ []) (map (λ q. get_or (row_indices las q) k 0) positions) j 0 []
        (omega (arith, m, many, length-map positions (λ q. get_or (row_indices las q) k 0)))
        ∙ ap (λ i. neighbours (get_or words k []) i (get_or las k 0) ∷ []) (get_or-map (λ q. get_or (row_indices las q) k 0) positions j 0 0 (omega (arith, m, many))))

    -- where commitments bind, from the `a`-th round on
    bound_shows : (a : ℕ) (rest : List ℕ) (h : ℕ) (coms : List Com) (openings : List (RoundOpening E Path)) (words : List (List E)) → BindWords s rest h coms words
        → ((k : ℕ) → get_or las (a + k) 0 ≡ get_or rest k 0) → ((k : ℕ) → get_or (heights_after las top) (a + k) 0 ≡ get_or (heights_after rest h) k 0)
        → AllZip (OpensRound s p las top proof from betas positions) (range_with_len a (length rest)) (zip coms openings)
        → (k : ℕ) → k < length rest
        → tabulate p.num_queries (λ j. row_folded s p las top proof from betas positions j (a + k) ∷ [])
        ≡ word_rows (get_or rest k 0) (get_or words k []) (map (λ q. get_or (row_indices las q) (a + k) 0) positions)
    bound_shows a [] h coms openings words b la ha all k l = absurd (omega (arith, l))
    bound_shows a (c ∷ rest) h [] openings words b la ha all k l = absurd b
    bound_shows a (c ∷ rest) h (cm ∷ coms) openings [] b la ha all k l = absurd b
    bound_shows a (c ∷ rest) h (cm ∷ coms) [] (ys ∷ words) b la ha all k l = absurd all
    bound_shows a (c ∷ rest) h (cm ∷ coms) (r ∷ openings) (ys ∷ words) b la ha all zero l =
        subst (λ n. tabulate p.num_queries (λ j. row_folded s p las top proof from betas positions j n ∷ [])
        ≡ word_rows c ys (map (λ q. get_or (row_indices las q) n 0) positions)) same
        (b.0 (map (λ q. get_or (row_indices las q) a 0) positions) (tabulate p.num_queries (λ j. row_folded s p las top proof from betas positions j a ∷ [])) r.path
        (subst (λ n. s.opens_round cm (record { width = 2 ^ n; height = 2 ^ (h - c) } ∷ []) (map (λ q. get_or (row_indices las q) a 0) positions)
        (tabulate p.num_queries (λ j. row_folded s p las top proof from betas positions j a ∷ [])) r.path) (ap (λ n. get_or las n 0) same ∙ la zero)
        (subst (λ n. s.opens_round cm (record { width = 2 ^ get_or las a 0; height = 2 ^ n } ∷ []) (map (λ q. get_or (row_indices las q) a 0) positions)
        (tabulate p.num_queries (λ j. row_folded s p las top proof from betas positions j a ∷ [])) r.path) (ap (λ n. get_or (heights_after las top) n 0) same ∙ ha zero) all.0)))
      where
        same : a ≡ a + 0
        same = omega arith
    bound_shows a (c ∷ rest) h (cm ∷ coms) (r ∷ openings) (ys ∷ words) b la ha all (suc k) l =
        subst (λ n. tabulate p.num_queries (λ j. row_folded s p las top proof from betas positions j n ∷ [])
        ≡ word_rows (get_or rest k 0) (get_or words k []) (map (λ q. get_or (row_indices las q) n 0) positions)) same
        (bound_shows (a + 1) rest (h - c) coms openings words b.2 (λ i. ap (λ n. get_or las n 0) (more i) ∙ la (suc i))
        (λ i. ap (λ n. get_or (heights_after las top) n 0) (more i) ∙ ha (suc i)) all.1 k (omega (arith, l)))
      where
        same : a + 1 + k ≡ a + suc k
        same = omega arith

        more : (i : ℕ) → a + 1 + i ≡ a + suc i
        more i = omega arith

  module _ (p : Parameters) (claims : List (CommitmentClaim E InCom)) (proof : Proof F E Com Path InPath) (c : C) (alpha : E) (accepts : FriAccepts s p claims proof c alpha) where
    abbrev las : List ℕ
    las = log_arities p claims

    abbrev top : ℕ
    top = top_height p claims

    abbrev betas : List E
    betas = (test_replay s p claims proof c).betas

    abbrev ranged : IsInRange p claims s.fields.two_adicity
    ranged = accepts.instance_of.in_range

    abbrev from : Source E
    from = source s p claims proof alpha

    pub drawn : length betas ≡ length las
    drawn = length-replay_betas s p claims proof c (accepts.counts.commitments ∙ sym accepts.counts.commit_witnesses) ∙ accepts.counts.commitments

    siblings_count : (j : ℕ) → length (siblings_at j proof.rounds) ≡ length las
    siblings_count j = length-map proof.rounds (λ r. get_or r.siblings j []) ∙ AllZip-long (HasSiblings p.num_queries) las proof.rounds accepts.counts.rounds

    -- the rows that are opened are the words', by query and round by round
    pub rows_shown : (words : List (List E)) → length words ≡ length las
        → ((k : ℕ) → k < length las → Shows p las top proof from betas (positions s p claims proof c) (length-positions s p claims proof c) words k)
        → RoundsOpenedFrom s p claims proof alpha c words
    rows_shown words words_count shows j l =
        let q = slice_index (positions s p claims proof c) j in
        let count = length-chain_rows s.fields.ext s.fold (from.met j q) las betas (siblings_at j proof.rounds)
        (first_link s p top from proof (rounds_of las betas) j q) drawn (siblings_count j) in
        ext_get_or [] (rows_folded s p top from proof (rounds_of las betas) j q) (rows_met (rounds_of las betas) words q)
        (count ∙ sym (length-rows_met las betas words q drawn words_count))
        (λ k b. let inner : k < length las = omega (arith, b, count) in
        shown_row p las top proof from betas (positions s p claims proof c) (length-positions s p claims proof c) words k (shows k inner) j
        (omega (arith, l, length-positions s p claims proof c))
        ∙ sym (rows_met-at las betas words q k drawn words_count inner))

    module _ (words : List (List E)) (bound : BindWords s las top proof.commitments words) where
      pub words_are : AreWords top (rounds_of las betas) words
      words_are = let whole = instance_sum p claims s.fields.two_adicity ranged in
          are_words las betas top proof.commitments words drawn (omega (arith, whole)) bound

      pub rows_are : RoundsOpenedFrom s p claims proof alpha c words
      rows_are = rows_shown words (bound_count las top proof.commitments words bound)
          (λ k l. let zero_more : 0 + k ≡ k = omega arith in
          subst (λ n. tabulate p.num_queries (λ j. row_folded s p las top proof from betas (positions s p claims proof c) j n ∷ [])
          ≡ word_rows (get_or las k 0) (get_or words k []) (map (λ q. get_or (row_indices las q) n 0) (positions s p claims proof c))) zero_more
          (bound_shows p las top proof from betas (positions s p claims proof c) (length-positions s p claims proof c) 0 las top proof.commitments proof.rounds words bound
          (λ i. ap (λ n. get_or las n 0) (let z : 0 + i ≡ i = omega arith in z)) (λ i. ap (λ n. get_or (heights_after las top) n 0) (let z : 0 + i ≡ i = omega arith in z))
          accepts.openings.rounds_open k l))

    module _ (polys : FoldsPolynomials s) (inputs : ℕ → Option (List E)) (met : AreInputsMet s p claims proof alpha inputs (positions s p claims proof c))
        (words : List (List E)) (are : AreWords top (rounds_of las betas) words) (rows : RoundsOpenedFrom s p claims proof alpha c words)
        (inside : All (λ position. position < 2 ^ top) (positions s p claims proof c)) (j : ℕ) (l : j < length (positions s p claims proof c)) where
      abbrev q : ℕ
      q = slice_index (positions s p claims proof c) j

      abbrev last : Link E
      last = last_link s p top from proof (rounds_of las betas) j q

      ends_are : last.value ≡ val s.fields.ext proof.final_poly (pt s.fields.ext (lifted_root s) last.index last.log_height)
      ends_are = (accepts.openings.queries_hold j l).ends
          ∙ ap (λ x. val s.fields.ext proof.final_poly x) (lifted_pt s.fields.base s.fields.ext s.fields.lift polys.lift s.fields.root last.index (final_height p))
          ∙ ap (λ h. val s.fields.ext proof.final_poly (pt s.fields.ext (lifted_root s) last.index h))
          (sym (last-log_height s p claims proof alpha betas j q s.fields.two_adicity ranged accepts.counts.rounds drawn))

      answered : IsAnswered s.fields.ext (lifted_root s) top (rounds_of las betas) words proof.final_poly (from.met j q) (siblings_at j proof.rounds) (from.first j q) q
      answered = record {
        rows = subst (λ f. chain_rows s.fields.ext f (from.met j q) (rounds_of las betas) (siblings_at j proof.rounds) (first_link s p top from proof (rounds_of las betas) j q)
            ≡ rows_met (rounds_of las betas) words q) polys.fold (rows j l);
        ends = subst (λ f. (chain s.fields.ext f (from.met j q) (rounds_of las betas) (siblings_at j proof.rounds) (first_link s p top from proof (rounds_of las betas) j q)).value
            ≡ val s.fields.ext proof.final_poly (pt s.fields.ext (lifted_root s)
            (chain s.fields.ext f (from.met j q) (rounds_of las betas) (siblings_at j proof.rounds) (first_link s p top from proof (rounds_of las betas) j q)).index
            (chain s.fields.ext f (from.met j q) (rounds_of las betas) (siblings_at j proof.rounds) (first_link s p top from proof (rounds_of las betas) j q)).log_height)) polys.fold ends_are;
      }

      begins : from.met j q top ≡ Some (from.first j q)
      begins = rw (has_height-greatest p.log_blowup (matrices_of claims) ranged.some_matrix)

      pub position_passes : PassesTest s.fields.ext (lifted_root s) inputs top (rounds_of las betas) words proof.final_poly q
      position_passes =
          answer_passes s.fields.ext (lifted_root s) inputs top (rounds_of las betas) words proof.final_poly
          are q (inside j 0 l) (from.met j q) (met j l) (siblings_at j proof.rounds) (from.first j q) begins answered
