-- That all openings of a proof are good, from its parts as they are verified one after another.
use Rattle.std.proofs.Common.{◌≡◌, ℕ, zero, suc, ◌+◌, ◌/◌, ◌^◌, ◌<◌, ◌≤◌, ◌⊎◌, inl, inr, arith}
use Rattle.std.proofs.Common.{List, [], ◌∷◌, length, map, get_or, refl, sym, ap, ◌∙◌, subst}
use Rattle.std.specs.Prelude.{All, EachIndex, SomeIndex, slice_index, slice_index_or, sum}
use Rattle.std.specs.List.{AllZip, Any, zip, range_with_len}
use Rattle.algebra.specs.Polynomial.{val, tabulate}
use Rattle.algebra.specs.Rounds.{Link}
use Rattle.algebra.specs.TwoAdic.{pt}
use Rattle.algebra.proofs.Lists.{get_or-tabulate, tabulate-equal}
use Rattle.p3_fri_relation.specs.declared.proof.CommitPhaseMultiStep.{CommitPhaseMultiStep}
use Rattle.p3_fri_relation.specs.Setting.{Setting, Parameters, CommitmentClaim, Proof, RoundOpening, InputOpening, final_height}
use Rattle.p3_fri_relation.specs.Inputs.{AreInputsGood, sums_at}
use Rattle.p3_fri_relation.specs.Queries.{rounds_of, row_indices, heights_after, siblings_at, first_link, last_link, final_value}
use Rattle.p3_fri_relation.specs.FoldedQuery.{QueryInput, IsInOrder, folded_value, group_rows}
use Rattle.p3_fri_relation.specs.TestRounds.{HasSiblings, row_folded}
use Rattle.p3_fri_relation.specs.Acceptance.{IsInRange, top_height, log_arities, source, OpensRound, RoundsOpen, QueryEnds}
use Rattle.p3_fri_relation.specs.Views.{rounds_opened, siblings_opened}
use Rattle.p3_fri_relation.specs.declared.error.FriError.{FriError}
use Rattle.p3_fri_relation.specs.declared.error.FriError.TheVariants.{OutOfMemory, FinalPolyMismatch, CommitPhaseMmcsError}
use Rattle.p3_fri_relation.specs.Faults.{InputFault, RoundsFault, OpeningsFault}
use Rattle.p3_fri_relation.proofs.InstanceQueries.{query_of, query-in_order, query-folded_value, query-group_rows}
use Rattle.p3_fri_relation.proofs.QueryLinks.{chain-index, row_indices-below}
use Rattle.p3_fri_relation.proofs.InstanceQueries.{siblings-of_rounds}
use Rattle.p3_fri_relation.proofs.Instances.{instance_top, instance_sum}
use Rattle.std.proofs.lemmas.List.{length-map, get_or-map}
use Rattle.std.proofs.lemmas.Slice.Zip.{AllZip-long}
use Rattle.p3_fri_verifier.specs.Openings.{AreOpened}
use Rattle.p3_fri_queries.specs.Folded.{query_at, EndsAtFinal, indices_folded, rows_folded}
use Rattle.p3_fri_queries.specs.Opened.{OpensRoundTo as OpensAt, RoundsOpenTo, SomeRoundFails}

length_siblings : {E Path : Type 0} (j : ℕ) (rounds : List (RoundOpening E Path)) → length (siblings_at j rounds) ≡ length rounds
length_siblings j [] = refl
length_siblings j (r ∷ rounds) = ap suc (length_siblings j rounds)

module _ {F E C Com Path InCom InPath : Type 0} (s : Setting F E C Com Path InCom InPath) (p : Parameters)
    (claims : List (CommitmentClaim E InCom)) (proof : Proof F E Com Path InPath) (alpha : E) (betas : List E)
    (positions : List ℕ) where
  -- what is opened of the inputs is good
  pub inputs_good : AreOpened s p claims proof alpha betas positions
      → AreInputsGood s.fields p.log_blowup alpha (top_height p claims) claims proof.inputs s.opens_input positions
  inputs_good o = record {
    count = o.count;
    points = o.points;
    opened = o.good.inputs_open;
    sums = λ j l. (o.good.queries_hold j l).sums;
  }

  pub opened_from : AreInputsGood s.fields p.log_blowup alpha (top_height p claims) claims proof.inputs s.opens_input positions
      → EachIndex positions (QueryEnds s p claims proof alpha betas positions) → RoundsOpen s p claims proof alpha betas positions
      → AreOpened s p claims proof alpha betas positions
  opened_from i ends rounds = record {
    points = i.points;
    count = i.count;
    good = record {
      inputs_open = i.opened;
      rounds_open = rounds;
      queries_hold = λ j l. record { sums = i.sums j l; ends = ends j l };
    };
  }

  module _ (counts : AllZip (HasSiblings p.num_queries) (log_arities p claims) proof.rounds)
      (drawn : length betas ≡ length (log_arities p claims)) where
    -- the last link of query `j`, and its index
    abbrev last : (j : ℕ) → Link E
    last j = last_link s p (top_height p claims) (source s p claims proof alpha) proof (rounds_of (log_arities p claims) betas) j (slice_index positions j)

    last_index : (j : ℕ) → (last j).index
        ≡ slice_index positions j / 2 ^ sum (log_arities p claims)
    last_index j = chain-index s.fields.ext s.fold
        ((source s p claims proof alpha).met j (slice_index positions j))
        (log_arities p claims) betas (siblings_at j proof.rounds)
        (first_link s p (top_height p claims) (source s p claims proof alpha) proof (rounds_of (log_arities p claims) betas) j (slice_index positions j))
        drawn (length_siblings j proof.rounds ∙ AllZip-long (HasSiblings p.num_queries) (log_arities p claims) proof.rounds counts)

    module _ (two_adicity : ℕ) (ranged : IsInRange p claims two_adicity) where
      -- the same of the query that is folded by itself
      abbrev pub EndsFolded : (j : ℕ) → Type 0
      EndsFolded j = folded_value (query_of s p claims proof alpha betas j (slice_index positions j)) s.fields.ext s.fold
          ≡ val s.fields.ext proof.final_poly (s.fields.lift (pt s.fields.base s.fields.root
          (slice_index positions j / 2 ^ sum (log_arities p claims)) (final_height p)))

      final_same : (j : ℕ) → final_value s p proof (last j)
          ≡ val s.fields.ext proof.final_poly (s.fields.lift (pt s.fields.base s.fields.root
          (slice_index positions j / 2 ^ sum (log_arities p claims)) (final_height p)))
      final_same j = ap (λ i. val s.fields.ext proof.final_poly (s.fields.lift (pt s.fields.base s.fields.root i (final_height p)))) (last_index j)

      value_same : (j : ℕ) → folded_value (query_of s p claims proof alpha betas j (slice_index positions j)) s.fields.ext s.fold
          ≡ (last j).value
      value_same j = query-folded_value s p claims proof alpha betas j (slice_index positions j) two_adicity ranged counts drawn

      pub ends_from : (j : ℕ) → EndsFolded j → QueryEnds s p claims proof alpha betas positions j
      ends_from j h = sym (value_same j) ∙ h ∙ sym (final_same j)

      pub ends_folded : (j : ℕ) → QueryEnds s p claims proof alpha betas positions j → EndsFolded j
      ends_folded j h = value_same j ∙ h ∙ final_same j

-- the query that the code folds, of what it is given, is that query of the proof
module _ {F E C Com Path InCom InPath M Data Err : Type 0} (s : Setting F E C Com Path InCom InPath) (p : Parameters)
    (claims : List (CommitmentClaim E InCom)) (proof : Proof F E Com Path InPath) (alpha : E) (betas : List E)
    (positions : List ℕ) (arities : List ℕ) (openings : List (CommitPhaseMultiStep E M Com Data Path Err))
    (reduced : List (List (ℕ × E))) (top : ℕ)
    (scheduled : arities ≡ log_arities p claims) (opened : proof.rounds ≡ rounds_opened openings)
    (tallest : top ≡ top_height p claims) where
  abbrev pub HasReduced : (j : ℕ) → Type 0
  HasReduced j = slice_index_or reduced j []
      ≡ sums_at s.fields p.log_blowup alpha top claims proof.inputs j (slice_index positions j)

  abbrev with_parts : (j : ℕ) (la : List ℕ) (siblings : List (List (List E))) (inputs : List (ℕ × E)) (h : ℕ) → QueryInput E
  with_parts j la siblings inputs h = record {
    query = j;
    index = slice_index positions j;
    betas = betas;
    log_arities = la;
    siblings = siblings;
    inputs = inputs;
    log_height = h;
    final_height = final_height p;
  }

  pub query_same : (j : ℕ) → HasReduced j
      → query_at positions betas arities openings reduced top (final_height p) j
      ≡ query_of s p claims proof alpha betas j (slice_index positions j)
  query_same j h =
      ap (λ la. with_parts j la (siblings_opened openings) (slice_index_or reduced j []) top) scheduled
      ∙ ap (λ siblings. with_parts j (log_arities p claims) siblings (slice_index_or reduced j []) top)
      (siblings-of_rounds openings ∙ ap (λ rounds. map (λ r. r.siblings) rounds) (sym opened))
      ∙ ap (λ inputs. with_parts j (log_arities p claims) (map (λ r. r.siblings) proof.rounds) inputs top) h
      ∙ ap (λ t. with_parts j (log_arities p claims) (map (λ r. r.siblings) proof.rounds)
      (sums_at s.fields p.log_blowup alpha t claims proof.inputs j (slice_index positions j)) t) tallest

-- properties beside numbers that count up
module _ {Y : Type 0} where
  pub all_numbered : (R R' : ℕ → Y → Type 0) (a n : ℕ) (ys : List Y)
      → ((k : ℕ) (y : Y) → k < a + n → R k y → R' k y) → AllZip R (range_with_len a n) ys → AllZip R' (range_with_len a n) ys
  all_numbered R R' a zero [] h all = tt
  all_numbered R R' a zero (y ∷ ys) h all = absurd all
  all_numbered R R' a (suc n) [] h all = absurd all
  all_numbered R R' a (suc n) (y ∷ ys) h all =
      (h a y (omega arith) all.0, all_numbered R R' (a + 1) n ys (λ k z l. h k z (omega arith)) all.1)

  number_below : (a n : ℕ) (ys : List Y) (i : ℕ) (x : ℕ × Y) → i < length (zip (range_with_len a n) ys)
      → get_or (zip (range_with_len a n) ys) i x ≡ x → x.0 < a + n
  number_below a zero ys i x l e = absurd (omega arith)
  number_below a (suc n) [] i x l e = absurd (omega arith)
  number_below a (suc n) (y ∷ ys) zero x l e = let same : a ≡ x.0 = ap (λ (z : ℕ × Y). z.0) e in omega arith
  number_below a (suc n) (y ∷ ys) (suc i) x l e = let h = number_below (a + 1) n ys i x (omega arith) e in omega arith

  pub some_numbered : (P P' : ℕ × Y → Type 0) (n : ℕ) (ys : List Y) → ((x : ℕ × Y) → x.0 < n → P x → P' x)
      → Any P (zip (range_with_len 0 n) ys) → Any P' (zip (range_with_len 0 n) ys)
  some_numbered P P' n ys h some = (
    some.0,
    some.1,
    some.2,
    some.3,
    h some.1 (let l = number_below 0 n ys some.0 some.1 some.2 some.3 in omega arith) some.4,
  )

module _ {F E C Com Path InCom InPath M Data Err : Type 0} (s : Setting F E C Com Path InCom InPath) (p : Parameters)
    (claims : List (CommitmentClaim E InCom)) (proof : Proof F E Com Path InPath) (alpha : E) (betas : List E)
    (positions : List ℕ) (arities : List ℕ) (openings : List (CommitPhaseMultiStep E M Com Data Path Err))
    (reduced : List (List (ℕ × E))) (top : ℕ)
    (scheduled : arities ≡ log_arities p claims) (opened : proof.rounds ≡ rounds_opened openings)
    (tallest : top ≡ top_height p claims) (queries : length positions ≡ p.num_queries)
    (counts : AllZip (HasSiblings p.num_queries) (log_arities p claims) proof.rounds)
    (drawn : length betas ≡ length (log_arities p claims)) (two_adicity : ℕ) (ranged : IsInRange p claims two_adicity)
    (sums : (j : ℕ) → j < length positions → HasReduced s p claims proof alpha betas positions arities openings reduced top scheduled opened tallest j)
  where
    -- what all queries fold, round by round
    abbrev indices : List (List ℕ)
    indices = indices_folded arities positions

    abbrev rows : List (List (List (List E)))
    rows = rows_folded s.fields.ext s.fold (length arities) (length positions)
        (query_at positions betas arities openings reduced top (final_height p))

    indices_at : (k : ℕ) → k < length arities → slice_index_or indices k []
        ≡ map (λ q. slice_index (row_indices (log_arities p claims) q) k) positions
    indices_at k l = get_or-tabulate (length arities) _ k [] l
        ∙ ap (λ la. map (λ q. slice_index (row_indices la q) k) positions) scheduled

    abbrev row_of : (j k : ℕ) → List E
    row_of = row_folded s p (log_arities p claims) (top_height p claims) proof (source s p claims proof alpha) betas positions

    rows_at : (k : ℕ) → k < length arities → slice_index_or rows k []
        ≡ tabulate p.num_queries (λ j. row_of j k ∷ [])
    rows_at k l = get_or-tabulate (length arities) _ k [] l
        ∙ tabulate-equal (length positions) _ (λ j. row_of j k ∷ [])
        (λ j m. ap (λ row. row ∷ []) (ap (λ rs. slice_index_or rs k [])
        (ap (λ q. group_rows q s.fields.ext s.fold)
        (query_same s p claims proof alpha betas positions arities openings reduced top scheduled opened tallest j (sums j m))
        ∙ query-group_rows s p claims proof alpha betas j (slice_index positions j) two_adicity ranged counts drawn)))
        ∙ ap (λ n. tabulate n (λ j. row_of j k ∷ [])) queries

    -- what is asked of a round's opening
    abbrev asked : (k : ℕ) (commitment : Com) (r : RoundOpening E Path) (la : List ℕ) (h : ℕ) (is : List ℕ) (rs : List (List (List E))) → Type 0
    asked k commitment r la h is rs = s.opens_round commitment
        (record { width = 2 ^ slice_index la k; height = 2 ^ slice_index (heights_after la h) k } ∷ []) is rs r.path

    abbrev la' : List ℕ
    la' = log_arities p claims

    abbrev h' : ℕ
    h' = top_height p claims

    pub round_opens : (k : ℕ) (y : Com × RoundOpening E Path) → k < length arities
        → OpensAt s.opens_round arities top indices rows k y → OpensRound s p claims proof alpha betas positions k y
    round_opens k y l h =
        let is = slice_index_or indices k [] in
        let rs = slice_index_or rows k [] in
        let is' = map (λ q. slice_index (row_indices la' q) k) positions in
        subst (λ x. asked k y.0 y.1 la' h' is' x) (rows_at k l)
        (subst (λ x. asked k y.0 y.1 la' h' x rs) (indices_at k l)
        (subst (λ x. asked k y.0 y.1 la' x is rs) tallest
        (subst (λ x. asked k y.0 y.1 x top is rs) scheduled h)))

    pub round_opens_at : (k : ℕ) (y : Com × RoundOpening E Path) → k < length arities
        → OpensRound s p claims proof alpha betas positions k y → OpensAt s.opens_round arities top indices rows k y
    round_opens_at k y l h =
        let is = slice_index_or indices k [] in
        let rs = slice_index_or rows k [] in
        let is' = map (λ q. slice_index (row_indices la' q) k) positions in
        subst (λ x. asked k y.0 y.1 x top is rs) (sym scheduled)
        (subst (λ x. asked k y.0 y.1 la' x is rs) (sym tallest)
        (subst (λ x. asked k y.0 y.1 la' h' x rs) (sym (indices_at k l))
        (subst (λ x. asked k y.0 y.1 la' h' is' x) (sym (rows_at k l)) h)))

-- the parts as the code meets them
module _ {F E C Com Path InCom InPath : Type 0} (s : Setting F E C Com Path InCom InPath) (p : Parameters)
    (claims : List (CommitmentClaim E InCom)) (proof : Proof F E Com Path InPath) (alpha : E) (betas : List E)
    (positions : List ℕ) (top : ℕ) (tallest : top ≡ top_height p claims) (inputs : List (InputOpening F InPath))
    (inputs_are : inputs ≡ proof.inputs) where
  abbrev Good : ℕ → List (InputOpening F InPath) → Type 0
  Good t i = AreInputsGood s.fields p.log_blowup alpha t claims i s.opens_input positions

  pub inputs_good_at : AreOpened s p claims proof alpha betas positions
      → AreInputsGood s.fields p.log_blowup alpha top claims inputs s.opens_input positions
  inputs_good_at o = subst (λ i. Good top i) (sym inputs_are) (subst (λ t. Good t proof.inputs) (sym tallest)
      (inputs_good s p claims proof alpha betas positions o))

  pub opened_at : AreInputsGood s.fields p.log_blowup alpha top claims inputs s.opens_input positions
      → EachIndex positions (QueryEnds s p claims proof alpha betas positions) → RoundsOpen s p claims proof alpha betas positions
      → AreOpened s p claims proof alpha betas positions
  opened_at i = opened_from s p claims proof alpha betas positions
      (subst (λ t. Good t proof.inputs) tallest (subst (λ x. Good top x) inputs_are i))

  abbrev Faulty : {A B : Type 0} → FriError A B → ℕ → List (InputOpening F InPath) → Type 0
  Faulty e t i = InputFault s.fields p.log_blowup alpha t claims i s.opens_input positions e

  pub input_fault_at : {A B : Type 0} (e : FriError A B)
      → InputFault s.fields p.log_blowup alpha top claims inputs s.opens_input positions e
      → OpeningsFault s p claims proof alpha betas positions e ⊎ (e ≡ OutOfMemory)
  input_fault_at e h =
      inl (inl (subst (λ t. Faulty e t proof.inputs) tallest (subst (λ x. Faulty e top x) inputs_are h)))

-- what is read of a proof is the test's: its instance, the rounds that are shown, the reduced openings
-- and the final polynomial
pub record IsRead {F E C Com Path InCom InPath M Data Err : Type 0} (s : Setting F E C Com Path InCom InPath)
    (p : Parameters) (claims : List (CommitmentClaim E InCom)) (proof : Proof F E Com Path InPath) (alpha : E)
    (betas : List E) (positions : List ℕ) (top : ℕ) (inputs : List (InputOpening F InPath)) (arities : List ℕ)
    (openings : List (CommitPhaseMultiStep E M Com Data Path Err)) (reduced : List (List (ℕ × E)))
    (final_poly : List E) (two_adicity : ℕ) : Type 0 where
  pub tallest : top ≡ top_height p claims
  pub inputs_are : inputs ≡ proof.inputs
  pub scheduled : arities ≡ log_arities p claims
  pub opened : proof.rounds ≡ rounds_opened openings
  pub queries : length positions ≡ p.num_queries
  pub counts : AllZip (HasSiblings p.num_queries) (log_arities p claims) proof.rounds
  pub drawn : length betas ≡ length (log_arities p claims)
  pub ranged : IsInRange p claims two_adicity
  pub sums : reduced ≡ tabulate (length positions) (λ j.
      sums_at s.fields p.log_blowup alpha top claims inputs j (slice_index positions j))
  pub final_is : final_poly ≡ proof.final_poly

module _ {F E C Com Path InCom InPath M Data Err : Type 0} {s : Setting F E C Com Path InCom InPath}
    {p : Parameters} {claims : List (CommitmentClaim E InCom)} {proof : Proof F E Com Path InPath} {alpha : E}
    {betas : List E} {positions : List ℕ} {top : ℕ} {inputs : List (InputOpening F InPath)} {arities : List ℕ}
    {openings : List (CommitPhaseMultiStep E M Com Data Path Err)} {reduced : List (List (ℕ × E))}
    {final_poly : List E} {two_adicity : ℕ}
    (read : IsRead s p claims proof alpha betas positions top inputs arities openings reduced final_poly two_adicity)
  where
    each_sum : EachIndex positions (HasReduced s p claims proof alpha betas positions arities openings reduced top read.scheduled read.opened read.tallest)
    each_sum j l = ap (λ rs. get_or rs j []) read.sums ∙ get_or-tabulate (length positions) _ j [] l ∙ ap (λ i. sums_at s.fields p.log_blowup alpha top claims i j (slice_index positions j)) read.inputs_are

    same : (j : ℕ) → j < length positions → query_at positions betas arities openings reduced top (final_height p) j
        ≡ query_of s p claims proof alpha betas j (slice_index positions j)
    same j l = query_same s p claims proof alpha betas positions arities openings reduced top read.scheduled read.opened read.tallest j (each_sum j l)

    pub in_order_at : two_adicity < 64
        → EachIndex positions (λ j. IsInOrder (query_at positions betas arities openings reduced top (final_height p) j))
    in_order_at small j l = subst (λ q. IsInOrder q) (sym (same j l))
        (query-in_order s p claims proof alpha betas j (slice_index positions j) two_adicity read.ranged read.counts read.drawn small (omega (arith, l, read.queries)))

    abbrev Folds : (j : ℕ) → QueryInput E → List ℕ → List E → Type 0
    Folds j q la poly = folded_value q s.fields.ext s.fold ≡ val s.fields.ext poly
        (s.fields.lift (pt s.fields.base s.fields.root (slice_index positions j / 2 ^ sum la) (final_height p)))

    pub ends_at : (j : ℕ) → j < length positions → QueryEnds s p claims proof alpha betas positions j
        → EndsAtFinal s.fields s.fold final_poly (query_at positions betas arities openings reduced top (final_height p) j)
    ends_at j l h = subst (λ q. Folds j q arities final_poly) (sym (same j l))
        (subst (λ la. Folds j (query_of s p claims proof alpha betas j (slice_index positions j)) la final_poly) (sym read.scheduled)
        (subst (λ x. Folds j (query_of s p claims proof alpha betas j (slice_index positions j)) (log_arities p claims) x) (sym read.final_is)
        (ends_folded s p claims proof alpha betas positions read.counts read.drawn two_adicity read.ranged j h)))

    pub ends_of : (j : ℕ) → j < length positions
        → EndsAtFinal s.fields s.fold final_poly (query_at positions betas arities openings reduced top (final_height p) j)
        → QueryEnds s p claims proof alpha betas positions j
    ends_of j l h = ends_from s p claims proof alpha betas positions read.counts read.drawn two_adicity read.ranged j
        (subst (λ x. Folds j (query_of s p claims proof alpha betas j (slice_index positions j)) (log_arities p claims) x) read.final_is
        (subst (λ la. Folds j (query_of s p claims proof alpha betas j (slice_index positions j)) la final_poly) read.scheduled
        (subst (λ q. Folds j q arities final_poly) (same j l) h)))

    abbrev GoodInputs : ℕ → List (InputOpening F InPath) → Type 0
    GoodInputs t i = AreInputsGood s.fields p.log_blowup alpha t claims i s.opens_input positions

    abbrev indices_read : List (List ℕ)
    indices_read = indices_folded arities positions

    abbrev rows_read : List (List (List (List E)))
    rows_read = rows_folded s.fields.ext s.fold (length arities) (length positions)
        (query_at positions betas arities openings reduced top (final_height p))

    module _ {commitments : List Com} (commitments_are : commitments ≡ proof.commitments) where
      abbrev numbered : List (Com × RoundOpening E Path)
      numbered = zip proof.commitments proof.rounds

      pairs : zip commitments (rounds_opened openings) ≡ numbered
      pairs = ap (λ coms. zip coms (rounds_opened openings)) commitments_are ∙ ap (λ rs. zip proof.commitments rs) (sym read.opened)

      rounds_at : (k : ℕ) (y : Com × RoundOpening E Path) → k < length arities
          → OpensRound s p claims proof alpha betas positions k y → OpensAt s.opens_round arities top indices_read rows_read k y
      rounds_at = round_opens_at s p claims proof alpha betas positions arities openings reduced top read.scheduled read.opened read.tallest read.queries read.counts read.drawn two_adicity read.ranged each_sum

      rounds_of_at : (k : ℕ) (y : Com × RoundOpening E Path) → k < length arities
          → OpensAt s.opens_round arities top indices_read rows_read k y → OpensRound s p claims proof alpha betas positions k y
      rounds_of_at = round_opens s p claims proof alpha betas positions arities openings reduced top read.scheduled read.opened read.tallest read.queries read.counts read.drawn two_adicity read.ranged each_sum

      pub rounds_open_at : RoundsOpenTo s.opens_round arities top indices_read rows_read commitments (rounds_opened openings)
          → RoundsOpen s p claims proof alpha betas positions
      rounds_open_at h' = let h = subst (λ ys. AllZip (OpensAt s.opens_round arities top indices_read rows_read) (range_with_len 0 (length arities)) ys) pairs h' in subst (λ n. AllZip (OpensRound s p claims proof alpha betas positions) (range_with_len 0 n) numbered) (ap length read.scheduled)
          (all_numbered _ (OpensRound s p claims proof alpha betas positions) 0 (length arities) numbered (λ k y l. rounds_of_at k y (omega (arith, l))) h)

      pub open_rounds_at : RoundsOpen s p claims proof alpha betas positions
          → RoundsOpenTo s.opens_round arities top indices_read rows_read commitments (rounds_opened openings)
      open_rounds_at h = subst (λ ys. AllZip (OpensAt s.opens_round arities top indices_read rows_read) (range_with_len 0 (length arities)) ys) (sym pairs) (all_numbered (OpensRound s p claims proof alpha betas positions) _ 0 (length arities) numbered (λ k y l. rounds_at k y (omega (arith, l)))
          (subst (λ n. AllZip (OpensRound s p claims proof alpha betas positions) (range_with_len 0 n) numbered) (sym (ap length read.scheduled)) h))

      -- why the queries or the rounds are refused
      pub queries_fault_at : {A B : Type 0} → GoodInputs top inputs → (e : FriError A B)
          → ((e ≡ OutOfMemory) ⊎ ((e ≡ FinalPolyMismatch) × SomeIndex positions (λ j.
          ¬ EndsAtFinal s.fields s.fold final_poly (query_at positions betas arities openings reduced top (final_height p) j))))
          ⊎ ((error : A) × (e ≡ CommitPhaseMmcsError error)
          × SomeRoundFails s.opens_round arities top indices_read rows_read commitments (rounds_opened openings))
          → OpeningsFault s p claims proof alpha betas positions e ⊎ (e ≡ OutOfMemory)
      queries_fault_at good e (inl (inl is)) = inr is
      queries_fault_at {A} {B} good e (inl (inr h)) =
          let here : GoodInputs (top_height p claims) inputs = subst (λ t. GoodInputs t inputs) read.tallest good in
          inl (inr (subst (λ (x : FriError A B). RoundsFault s p claims proof alpha betas positions x) (sym h.0)
          (h.1.0, h.1.1, ((here.sums h.1.0 h.1.1).defined, λ ends. h.1.2 (ends_at h.1.0 h.1.1 ends)))))
      queries_fault_at {A} {B} good e (inr h) =
          let here : GoodInputs (top_height p claims) inputs = subst (λ t. GoodInputs t inputs) read.tallest good in
          let some = subst (λ ys. Any (λ (k, opening). ¬ OpensAt s.opens_round arities top indices_read rows_read k opening) (zip (range_with_len 0 (length arities)) ys)) pairs h.2 in
          inl (inr (subst (λ (x : FriError A B). RoundsFault s p claims proof alpha betas positions x) (sym h.1) (
            (λ j l. (here.sums j l).defined),
            subst (λ n. Any (λ (k, opening). ¬ OpensRound s p claims proof alpha betas positions k opening) (zip (range_with_len 0 n) numbered)) (ap length read.scheduled)
                (some_numbered _ _ (length arities) numbered (λ x l no opens. no (rounds_at x.0 x.1 l opens)) some),
          )))

-- numbers of an instance in range
module _ {E Com : Type 0} (p : Parameters) (claims : List (CommitmentClaim E Com)) (two_adicity top : ℕ) where
  pub top_within : IsInRange p claims two_adicity → top ≡ top_height p claims → top ≤ two_adicity
  top_within ranged is = let bounds = instance_top p claims two_adicity ranged in omega (arith, bounds.1)

  pub rounds_within : (arities : List ℕ) → IsInRange p claims two_adicity → arities ≡ log_arities p claims
      → top ≡ top_height p claims → sum arities ≤ top
  rounds_within arities ranged scheduled is =
      let whole = instance_sum p claims two_adicity ranged in
      omega (arith, whole, ap sum scheduled)

-- each round's indices are those of the word that it folds to
pub indices_below : (arities : List ℕ) (top : ℕ) (positions : List ℕ) (indices : List (List ℕ))
    → indices ≡ indices_folded arities positions
    → sum arities ≤ top → All (λ position. position < 2 ^ top) positions
    → EachIndex arities (λ k. All (λ index. index < 2 ^ slice_index (heights_after arities top) k) (slice_index_or indices k []))
indices_below arities top positions indices are within below k l =
    let at : slice_index_or indices k [] ≡ map (λ position. slice_index (row_indices arities position) k) positions =
    ap (λ t. get_or t k []) are ∙ get_or-tabulate (length arities) _ k [] l in
    subst (λ xs. All (λ index. index < 2 ^ slice_index (heights_after arities top) k) xs) (sym at)
    (λ i d m. let n : i < length positions = omega (arith, m, length-map positions (λ position. slice_index (row_indices arities position) k)) in
    subst (λ x. x < 2 ^ slice_index (heights_after arities top) k) (sym (get_or-map (λ position. slice_index (row_indices arities position) k) positions i 0 d n))
    (row_indices-below arities top (get_or positions i 0) k 0 within (below i 0 n) l))

-- a fact of two values, at equal ones
pub at_both : {A B : Type 0} (P : A → B → Type 0) {a a' : A} {b b' : B} → a ≡ a' → b ≡ b' → P a b → P a' b'
at_both P {a} {a'} {b} {b'} e f h = subst (λ y. P a' y) f (subst (λ x. P x b) e h)
