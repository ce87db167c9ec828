-- A query of a proof whose lengths are right, as one that is folded by itself: it is in order, and
-- its value and rows are those of the query's way.
use Rattle.std.proofs.Common.{◌≡◌, ℕ, zero, suc, ◌^◌, ◌<◌, ◌≤◌, min, inl, inr, List, [], ◌∷◌}
use Rattle.std.proofs.Common.{◌++◌, length, map, get_or, Bool, true, false, Option, Some, None}
use Rattle.std.proofs.Common.{if◌then◌else◌, refl, sym, ap, ◌∙◌, subst, arith}
use mathlib.Core.Path.{fun_ext}
use Rattle.std.specs.List.{All, AllZip}
use Rattle.std.proofs.lemmas.Bool.{eq-eqb, ne_eqb}
use Rattle.std.proofs.lemmas.Bool.Decides.{leb_tells}
use Rattle.std.proofs.lemmas.List.{take_all}
use Rattle.p3_fri_relation.specs.Setting.{Setting, Parameters, MatrixClaim, CommitmentClaim, Proof}
use Rattle.p3_fri_relation.specs.Setting.{RoundOpening, final_height}
use Rattle.p3_fri_relation.specs.Heights.{matrices_of, greatest_height, heights_below, heights_of, has_height}
use Rattle.p3_fri_relation.specs.Inputs.{sum_at, sums_at}
use Rattle.p3_fri_relation.specs.Queries.{rounds_of, siblings_at, last_link, rows_folded}
use Rattle.algebra.specs.Nested.{lists}
use Rattle.p3_fri_relation.specs.declared.proof.CommitPhaseMultiStep.{CommitPhaseMultiStep}
use Rattle.p3_fri_relation.specs.Views.{siblings_opened, rounds_opened}
use Rattle.std.proofs.Common.{◌-◌}
use Rattle.std.proofs.lemmas.List.{length-map}
use Rattle.std.proofs.lemmas.Slice.Zip.{AllZip-long}
use Rattle.p3_fri_relation.proofs.QueryLinks.{chain-log_height}
use Rattle.p3_fri_relation.specs.Queries.{first_link}
use Rattle.algebra.specs.Rounds.{Round, Link, chain, chain_rows}
use Rattle.p3_fri_relation.specs.FoldedQuery.{QueryInput, HaveRows, AreMet, reaches}
use Rattle.p3_fri_relation.specs.FoldedQuery.{value_at, folded, AreInputsMet, IsInOrder, folded_value}
use Rattle.p3_fri_relation.specs.FoldedQuery.{group_rows, siblings_of_query, start}
use Rattle.p3_fri_relation.specs.TestRounds.{HasSiblings}
use Rattle.p3_fri_relation.specs.Acceptance.{IsInRange, top_height, log_arities, source}
use Rattle.p3_fri_relation.proofs.ClaimedHeights.{has_height-bound}
use Rattle.p3_fri_relation.proofs.Instances.{instance_heights, instance_sum, instance_range}
use Rattle.p3_fri_relation.proofs.Instances.{instance_met, further_heights}

-- values by log height, of the log heights of some matrices
module _ (b : ℕ) {E : Type 0} (ms : List (MatrixClaim E)) {A : Type 0} (v : ℕ → A) where
  abbrev listed : (n : ℕ) → List (ℕ × A)
  listed n = map (λ h. (h, v h)) (heights_below b ms n)

  -- a number that isn't below the bound isn't listed
  value_at-beyond : (n h : ℕ) → n ≤ h → value_at (listed n) h ≡ None
  value_at-beyond zero h beyond = refl
  value_at-beyond (suc n) h beyond = step (heights_below b ms n) (value_at-beyond n h (omega arith)) (has_height b ms n)
    where
      step : (hs : List ℕ) → value_at (map (λ k. (k, v k)) hs) h ≡ None → (is_one : Bool)
          → value_at (map (λ k. (k, v k)) ((if is_one then n ∷ [] else []) ++ hs)) h ≡ None
      step hs none true = rw (ne_eqb h n (λ same. omega arith)) none
      step hs none false = none

  -- one below it is, where some matrix has it
  value_at-below : (n h : ℕ) → h < n → value_at (listed n) h ≡ (if has_height b ms h then Some (v h) else None)
  value_at-below zero h below = absurd (omega arith)
  value_at-below (suc n) h below = elim (leb_tells n h) [
    | inl w ↦ there (let low = w.1 in omega arith) (heights_below b ms n) (value_at-beyond n h w.1) (has_height b ms n) refl
    | inr w ↦ later (λ same. (let low = w.1 in omega arith)) (heights_below b ms n) (value_at-below n h w.1) (has_height b ms n)
  ]
    where
      there : h ≡ n → (hs : List ℕ) → value_at (map (λ k. (k, v k)) hs) h ≡ None → (is_one : Bool) → has_height b ms n ≡ is_one
          → value_at (map (λ k. (k, v k)) ((if is_one then n ∷ [] else []) ++ hs)) h ≡ (if has_height b ms h then Some (v h) else None)
      there same hs none true e = rw (eq-eqb h n same, same, e) refl
      there same hs none false e =
          let absent : has_height b ms h ≡ false = rw same e in
          none ∙ rw absent refl

      later : (h ≡ n → ⊥) → (hs : List ℕ) → value_at (map (λ k. (k, v k)) hs) h ≡ (if has_height b ms h then Some (v h) else None) → (is_one : Bool)
          → value_at (map (λ k. (k, v k)) ((if is_one then n ∷ [] else []) ++ hs)) h ≡ (if has_height b ms h then Some (v h) else None)
      later other hs found true = rw (ne_eqb h n other) found
      later other hs found false = found

  -- so of the list of all: a value for each log height that some matrix has, and for no other
  pub value_at-heights : (h : ℕ) → value_at (map (λ k. (k, v k)) (heights_of b ms)) h ≡ (if has_height b ms h then Some (v h) else None)
  value_at-heights h = elim (leb_tells (suc (greatest_height b ms)) h) [
    | inl w ↦ value_at-beyond (suc (greatest_height b ms)) h w.1 ∙ sym (absent (has_height b ms h) refl w.1)
    | inr w ↦ value_at-below (suc (greatest_height b ms)) h w.1
  ]
    where
      absent : (is_one : Bool) → has_height b ms h ≡ is_one → suc (greatest_height b ms) ≤ h → (if is_one then Some (v h) else None) ≡ None
      absent true e beyond = absurd (let bound = has_height-bound b ms h e in omega arith)
      absent false e beyond = refl

-- a query has a row in each round, where each round has one for each query
rows_from : {E Path : Type 0} (n j : ℕ) (arities : List ℕ) (rounds : List (RoundOpening E Path)) → j < n
    → AllZip (λ a r. (length r.siblings ≡ n) × All (λ row. suc (length row) ≡ 2 ^ a) r.siblings) arities rounds
    → HaveRows j arities (map (λ r. r.siblings) rounds)
rows_from n j [] rounds within each = tt
rows_from n j (a ∷ arities) [] within each = tt
rows_from n j (a ∷ arities) (r ∷ rounds) within each =
    let here = each.0.0 in
    let inside : j < length r.siblings = omega arith in
    ((inside, each.0.1 j [] inside), rows_from n j arities rounds within each.1)

length_siblings : {E Path : Type 0} (rounds : List (RoundOpening E Path)) → length (map (λ r. r.siblings) rounds) ≡ length rounds
length_siblings [] = refl
length_siblings (r ∷ rounds) = ap (λ n. suc n) (length_siblings rounds)

keys_listed : {A : Type 0} (v : ℕ → A) (heights : List ℕ) → map (λ (input : ℕ × A). input.0) (map (λ h. (h, v h)) heights) ≡ heights
keys_listed v [] = refl
keys_listed v (h ∷ heights) = ap (λ rest. h ∷ rest) (keys_listed v heights)

siblings_same : {E Path : Type 0} (j : ℕ) (rounds : List (RoundOpening E Path))
    → map (λ rows. get_or rows j []) (map (λ r. r.siblings) rounds) ≡ siblings_at j rounds
siblings_same j [] = refl
siblings_same j (r ∷ rounds) = ap (λ rest. get_or r.siblings j [] ∷ rest) (siblings_same j rounds)

module _ {F E C Com Path InCom InPath : Type 0} (s : Setting F E C Com Path InCom InPath)
    (p : Parameters) (claims : List (CommitmentClaim E InCom)) (proof : Proof F E Com Path InPath)
    (alpha : E) (betas : List E) (j position : ℕ) where
  -- the `j`-th query of a proof, at its position, as one that is folded by itself
  abbrev pub query_of : QueryInput E
  query_of = record {
    query = j;
    index = position;
    betas = betas;
    log_arities = log_arities p claims;
    siblings = map (λ r. r.siblings) proof.rounds;
    inputs = sums_at s.fields p.log_blowup alpha (top_height p claims) claims proof.inputs j position;
    log_height = top_height p claims;
    final_height = final_height p;
  }

  module _ (counts : AllZip (HasSiblings p.num_queries) (log_arities p claims) proof.rounds) (drawn : length betas ≡ length (log_arities p claims)) where
    -- all its rounds are folded
    pub query-folded : folded query_of ≡ log_arities p claims
    query-folded = take_all (min (length betas) (length (map (λ r. r.siblings) proof.rounds))) (log_arities p claims)
        (let opened = AllZip-long (HasSiblings p.num_queries) (log_arities p claims) proof.rounds counts in let mapped = length_siblings proof.rounds in omega arith)

  abbrev query_rounds : List (Round E)
  query_rounds = rounds_of (log_arities p claims) betas

  abbrev met : ℕ → Option E
  met = (source s p claims proof alpha).met j position

  -- it meets the query's quotient sums
  query-values : value_at query_of.inputs ≡ met
  query-values = fun_ext (λ h. value_at-heights p.log_blowup (matrices_of claims) (λ k. sum_at s.fields p.log_blowup alpha (top_height p claims) claims proof.inputs j position k) h)

  abbrev sum_of : ℕ → E
  sum_of h = sum_at s.fields p.log_blowup alpha (top_height p claims) claims proof.inputs j position h

  abbrev values_in : List ℕ → List E
  values_in heights = map (λ (input : ℕ × E). input.1) (map (λ h. (h, sum_of h)) heights)

  module _ (two_adicity : ℕ) (ranged : IsInRange p claims two_adicity) where
    -- it begins with that of the greatest log height
    query-start : start query_of s.fields.ext s.fold ≡ first_link s p (top_height p claims) (source s p claims proof alpha) proof query_rounds j position
    query-start = ap (λ heights. record {
      index = position;
      log_height = top_height p claims;
      value = get_or (values_in heights) 0 s.fields.ext.zero;
    }) (instance_heights p claims two_adicity ranged)

    module _ (counts : AllZip (HasSiblings p.num_queries) (log_arities p claims) proof.rounds) (drawn : length betas ≡ length (log_arities p claims)) where
      query-inputs : AreInputsMet query_of (map (λ input. input.0) query_of.inputs)
      query-inputs =
          let P : List ℕ → Type 0 = λ heights. AreInputsMet query_of heights in
          let Q : List ℕ → Type 0 = λ arities. AreMet (reaches arities (top_height p claims)) (top_height p claims) (further_heights p claims) in
          subst P (sym (keys_listed sum_of (heights_of p.log_blowup (matrices_of claims)) ∙ instance_heights p claims two_adicity ranged))
          (refl, subst Q (sym (query-folded counts drawn)) (instance_met p claims two_adicity ranged))

      -- it is in order
      pub query-in_order : two_adicity < 64 → j < p.num_queries → IsInOrder query_of
      query-in_order small within = record {
        log_arities = instance_range p claims two_adicity ranged small;
        rows = rows_from p.num_queries j (log_arities p claims) proof.rounds within counts;
        distance = (let whole = instance_sum p claims two_adicity ranged in omega arith);
        ends = rw (query-folded counts drawn) (instance_sum p claims two_adicity ranged);
        inputs = query-inputs;
      }

      -- its value is that of the query's last link
      pub query-folded_value : folded_value query_of s.fields.ext s.fold ≡ (last_link s p (top_height p claims) (source s p claims proof alpha) proof query_rounds j position).value
      query-folded_value =
          ap (λ values. (chain s.fields.ext s.fold values (rounds_of (folded query_of) betas) (siblings_of_query query_of s.fields.ext s.fold) (start query_of s.fields.ext s.fold)).value) query-values
          ∙ ap (λ arities. (chain s.fields.ext s.fold met (rounds_of arities betas) (siblings_of_query query_of s.fields.ext s.fold) (start query_of s.fields.ext s.fold)).value) (query-folded counts drawn)
          ∙ ap (λ siblings. (chain s.fields.ext s.fold met query_rounds siblings (start query_of s.fields.ext s.fold)).value) (siblings_same j proof.rounds)
          ∙ ap (λ link. (chain s.fields.ext s.fold met query_rounds (siblings_at j proof.rounds) link).value) query-start

      -- its rows are those that the query folds
      pub query-group_rows : group_rows query_of s.fields.ext s.fold ≡ rows_folded s p (top_height p claims) (source s p claims proof alpha) proof query_rounds j position
      query-group_rows =
          ap (λ values. chain_rows s.fields.ext s.fold values (rounds_of (folded query_of) betas) (siblings_of_query query_of s.fields.ext s.fold) (start query_of s.fields.ext s.fold)) query-values
          ∙ ap (λ arities. chain_rows s.fields.ext s.fold met (rounds_of arities betas) (siblings_of_query query_of s.fields.ext s.fold) (start query_of s.fields.ext s.fold)) (query-folded counts drawn)
          ∙ ap (λ siblings. chain_rows s.fields.ext s.fold met query_rounds siblings (start query_of s.fields.ext s.fold)) (siblings_same j proof.rounds)
          ∙ ap (λ link. chain_rows s.fields.ext s.fold met query_rounds (siblings_at j proof.rounds) link) query-start

-- a query as the call sees it, whose siblings stand in vectors
module _ {E M Com Data Path Err : Type 0} where
  pub siblings-of_rounds : (openings : List (CommitPhaseMultiStep E M Com Data Path Err))
      → siblings_opened openings ≡ map (λ r. r.siblings) (rounds_opened openings)
  siblings-of_rounds [] = refl
  siblings-of_rounds (o ∷ openings) = ap (λ rest. lists o.sibling_values.items ∷ rest) (siblings-of_rounds openings)

-- where the query of an instance ends
module _ {F E C Com Path InCom InPath : Type 0} (s : Setting F E C Com Path InCom InPath)
    (p : Parameters) (claims : List (CommitmentClaim E InCom)) (proof : Proof F E Com Path InPath)
    (alpha : E) (betas : List E) (j position two_adicity : ℕ) (ranged : IsInRange p claims two_adicity)
    (counts : AllZip (HasSiblings p.num_queries) (log_arities p claims) proof.rounds) (drawn : length betas ≡ length (log_arities p claims)) where
  abbrev last : Link E
  last = last_link s p (top_height p claims) (source s p claims proof alpha) proof (rounds_of (log_arities p claims) betas) j position

  opened_each : length (siblings_at j proof.rounds) ≡ length (log_arities p claims)
  opened_each = length-map proof.rounds (λ r. get_or r.siblings j []) ∙ AllZip-long (HasSiblings p.num_queries) (log_arities p claims) proof.rounds counts

  pub last-log_height : last.log_height ≡ final_height p
  last-log_height =
      chain-log_height s.fields.ext s.fold ((source s p claims proof alpha).met j position)
      (log_arities p claims) betas (siblings_at j proof.rounds) (first_link s p (top_height p claims) (source s p claims proof alpha) proof (rounds_of (log_arities p claims) betas) j position) drawn opened_each
      ∙ (let whole = instance_sum p claims two_adicity ranged in omega arith)
