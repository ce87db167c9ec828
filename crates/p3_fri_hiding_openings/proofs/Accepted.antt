-- An opening of what is inside, cut into what is shown and what is kept back, is accepted of the
-- honest claims of what is shown.
use Rattle.std.proofs.Common.{◌≡◌, ℕ, ◌^◌, ◌/◌, List, [], ◌∷◌, map, length, All, Option}
use Rattle.std.proofs.Common.{refl, sym, ap, ap₂, ◌∙◌, subst}
use Rattle.p3_matrix.specs.declared.dense.RowMajorMatrix.{RowMajorMatrix}
use Rattle.p3_matrix.specs.Matrix.{rows}
use Rattle.p3_pcs.specs.Requests.{Held, Request, FitDomains, honest_claims, honest_values}
use Rattle.p3_stark_pcs.specs.Preprocessing.{AreOpenableAt}
use Rattle.p3_fri_relation.specs.Setting.{Fields, Setting, Parameters, Proof, CommitmentClaim}
use Rattle.p3_fri_relation.specs.Acceptance.{Accepts}
use Rattle.p3_fri_openings.specs.Held.{held_in, held_of}
use Rattle.p3_fri_openings.specs.SchemeClaims.{relation_claims}
use Rattle.p3_fri_opening_prover.specs.Refusals.{asked_of}
use Rattle.p3_fri_two_adic.specs.Ends.{last_state}
use Rattle.p3_fri_hiding_openings.specs.RandomValues.{MayAppend, with_random_values}
use Rattle.p3_fri_hiding_openings.specs.Halves.{shown_of, shown_values, kept_values}
use Rattle.p3_fri_hiding_openings.specs.Hiding.{HidingAccepts}
use Rattle.p3_fri_hiding_openings.specs.declared.data.HidingFriPcsProverData.{HidingFriPcsProverData}
use Rattle.p3_fri_hiding_openings.specs.Data.{IsUnopened, IsPreprocessing, hidden_columns, shown_polynomials}
use Rattle.p3_fri_hiding_openings.specs.Requests.{inside}
use Rattle.p3_fri_hiding_openings.specs.Opening.{MeetsBudget, PassesHidingChecks}
use Rattle.p3_fri_hiding_openings.proofs.Counted.{AreCounted, counted, within}
use Rattle.p3_fri_hiding_openings.proofs.Fitting.{may_append}
use Rattle.p3_fri_hiding_openings.proofs.Openable.{all_unmapped, wide_inside}
use Rattle.p3_fri_hiding_openings.proofs.Shown.{values_shown, claims_joined}

module _ {F E T : Type 0} (f : Fields F E) (committed : T → List (RowMajorMatrix F))
    (log_blowup r : ℕ) where
  abbrev Outer : Type 0
  Outer = Request (HidingFriPcsProverData T) E

  sizes_alike : (hidden : ℕ) (ms : List (RowMajorMatrix F))
      → map (λ (m : Held E). m.size) (map (shown_of hidden) (map (held_in f log_blowup) ms))
      ≡ map (λ (m : Held E). m.size) (map (held_in f log_blowup) ms)
  sizes_alike hidden [] = refl
  sizes_alike hidden (m ∷ ms) =
      ap (λ rest. length (rows m) / 2 ^ log_blowup ∷ rest) (sizes_alike hidden ms)

  all_sizes : (requests : List Outer)
      → map (λ q. map (λ m. m.size) (shown_polynomials f committed log_blowup r q.datum)) requests
      ≡ map (λ q. map (λ m. m.size) (held_of f committed log_blowup q.datum)) (map inside requests)
  all_sizes [] = refl
  all_sizes (q ∷ requests) =
      ap₂ (λ sizes rest. sizes ∷ rest)
      (sizes_alike (hidden_columns r q.datum) (committed q.datum.inner)) (all_sizes requests)

  -- domains that fit what is shown fit what is inside
  pub sizes_inside : (log_sizes : List (List ℕ)) (requests : List Outer)
      → FitDomains (shown_polynomials f committed log_blowup r) (λ n. 2 ^ n) log_sizes requests
      → FitDomains (held_of f committed log_blowup) (λ n. 2 ^ n) log_sizes (map inside requests)
  sizes_inside log_sizes requests fits = fits ∙ all_sizes requests

  module _ (preprocessing : Option ℕ) (requests : List Outer)
      (openable : AreOpenableAt (IsUnopened f committed log_blowup r)
      (IsPreprocessing f committed log_blowup r) (shown_polynomials f committed log_blowup r)
      preprocessing
      requests) where
    pub all_counted : AreCounted r preprocessing 0 (map (λ (q : Outer). q.datum) requests)
    all_counted =
        counted f committed log_blowup r preprocessing (map (λ (q : Outer). q.datum) requests)
        openable.data_openable

    -- what is shown of the values
    pub honest_shown : (values cut : List (List (List (List E))))
        → values ≡ map (honest_values (held_of f committed log_blowup)) (map inside requests)
        → cut ≡ shown_values r preprocessing values
        → cut ≡ map (honest_values (shown_polynomials f committed log_blowup r)) requests
    honest_shown values cut are is =
        is ∙ ap (λ vs. shown_values r preprocessing vs) are
        ∙ values_shown f committed log_blowup r preprocessing requests all_counted

    -- the claims of what is shown, with the values that are kept back
    module _ {Com : Type 0} (commitment_of : T → Com) (log_sizes : List (List ℕ))
        (values kept : List (List (List (List E))))
        (are : values ≡ map (honest_values (held_of f committed log_blowup)) (map inside requests))
        (is : kept ≡ kept_values r preprocessing values) where
      abbrev claims_shown : List (CommitmentClaim E Com)
      claims_shown = relation_claims (λ n. n)
          (honest_claims (shown_polynomials f committed log_blowup r) (λ d. commitment_of d.inner)
          log_sizes
          requests)

      abbrev claims_held : List (CommitmentClaim E Com)
      claims_held = relation_claims (λ n. n)
          (honest_claims (held_of f committed log_blowup) commitment_of log_sizes
          (map inside requests))

      kept_is : kept ≡ kept_values r preprocessing
          (map (honest_values (held_of f committed log_blowup)) (map inside requests))
      kept_is = is ∙ ap (λ vs. kept_values r preprocessing vs) are

      pub with_kept : with_random_values claims_shown kept ≡ claims_held
      with_kept =
          ap (λ vs. with_random_values claims_shown vs) kept_is
          ∙ claims_joined f committed log_blowup r preprocessing requests all_counted commitment_of
          (λ (n : ℕ). n) log_sizes

module _ {F E C Com Path InCom InPath T : Type 0} (s : Setting F E C Com Path InCom InPath)
    (p : Parameters) (committed : T → List (RowMajorMatrix F)) (commitment_of : T → InCom) (r : ℕ)
    (preprocessing : Option ℕ) (requests : List (Request (HidingFriPcsProverData T) E))
    (openable : AreOpenableAt (IsUnopened s.fields committed p.log_blowup r)
    (IsPreprocessing s.fields committed p.log_blowup r)
    (shown_polynomials s.fields committed p.log_blowup r) preprocessing requests)
    (passed : PassesHidingChecks s.fields p r committed requests) (log_sizes : List (List ℕ))
    (fits : FitDomains (shown_polynomials s.fields committed p.log_blowup r) (λ n. 2 ^ n) log_sizes
    requests)
    (values kept : List (List (List (List E))))
    (are : values
    ≡ map (honest_values (held_of s.fields committed p.log_blowup)) (map inside requests))
    (is : kept ≡ kept_values r preprocessing values) (proof : Proof F E Com Path InPath) (c : C)
  where
    abbrev shown_claims : List (CommitmentClaim E InCom)
    shown_claims = relation_claims (λ n. n)
        (honest_claims (shown_polynomials s.fields committed p.log_blowup r)
        (λ d. commitment_of d.inner)
        log_sizes requests)

    abbrev held_claims : List (CommitmentClaim E InCom)
    held_claims = relation_claims (λ n. n)
        (honest_claims (held_of s.fields committed p.log_blowup) commitment_of log_sizes
        (map inside requests))

    same_claims : with_random_values shown_claims kept ≡ held_claims
    same_claims =
        with_kept s.fields committed p.log_blowup r preprocessing requests openable commitment_of
        log_sizes values kept are is

    pub accepted_shown : Accepts s p held_claims proof c
        → HidingAccepts s p r preprocessing shown_claims kept proof c
    accepted_shown accepts = record {
      appends = subst
          (λ vs. MayAppend r p.num_queries s.fields.degree preprocessing shown_claims vs)
          (sym (is ∙ ap (λ vs. kept_values r preprocessing vs) are))
          (may_append s.fields committed p r preprocessing commitment_of (λ (n : ℕ). n) log_sizes
          requests fits
          (all_counted s.fields committed p.log_blowup r preprocessing requests openable)
          (within s.fields committed p.log_blowup r preprocessing
          (map (λ (q : Request (HidingFriPcsProverData T) E). q.datum) requests)
          openable.data_openable)
          openable.points
          (wide_inside s.fields committed p.log_blowup r preprocessing requests openable)
          (all_unmapped inside (λ q. All (MeetsBudget s.fields p r) (asked_of committed q)) requests
          passed.budgets)
          openable.some_matrix);
      accepts = subst (λ cs. Accepts s p cs proof c) (sym same_claims) accepts;
    }

    pub ends_shown : (last : C) → last ≡ last_state s p held_claims proof c
        → last ≡ last_state s p (with_random_values shown_claims kept) proof c
    ends_shown last ends = ends ∙ ap (λ cs. last_state s p cs proof c) (sym same_claims)
