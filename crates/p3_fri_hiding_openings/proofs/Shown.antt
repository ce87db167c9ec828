-- Shown values with those that are kept back, where the index names preprocessing.
use Rattle.std.proofs.Common.{◌≡◌, ℕ, ◌+◌, List, [], ◌∷◌, map, All, Option, sym}
use Rattle.std.specs.List.{enumerate_from}
use Rattle.std.proofs.lemmas.List.Elements.{All-cons, All-nil}
use Rattle.p3_matrix.specs.declared.dense.RowMajorMatrix.{RowMajorMatrix}
use Rattle.p3_pcs.specs.Requests.{Held, Request, honest_values, honest_claims}
use Rattle.p3_fri_relation.specs.Setting.{Fields}
use Rattle.p3_fri_openings.specs.Held.{held_of}
use Rattle.p3_fri_openings.specs.SchemeClaims.{relation_claims}
use Rattle.p3_fri_hiding_openings.specs.RandomValues.{count_at, with_random_values}
use Rattle.p3_fri_hiding_openings.specs.Halves.{shown_values, kept_values}
use Rattle.p3_fri_hiding_openings.proofs.InsideClaims.{shown_inside, claims_inside}
use Rattle.p3_fri_hiding_openings.specs.declared.data.HidingFriPcsProverData.{HidingFriPcsProverData}
use Rattle.p3_fri_hiding_openings.specs.Data.{hidden_columns, shown_polynomials}
use Rattle.p3_fri_hiding_openings.specs.Requests.{inside}
use Rattle.p3_fri_hiding_openings.proofs.Counted.{AreCounted}

module _ {F E T : Type 0} (f : Fields F E) (committed : T → List (RowMajorMatrix F))
    (log_blowup r : ℕ) (preprocessing : Option ℕ) where
  abbrev Outer : Type 0
  Outer = Request (HidingFriPcsProverData T) E

  abbrev held : T → List (Held E)
  held = held_of f committed log_blowup

  abbrev inner_of : HidingFriPcsProverData T → T
  inner_of d = d.inner

  named_from : (n : ℕ) (requests : List Outer)
      → AreCounted r preprocessing n (map (λ (q : Outer). q.datum) requests)
      → All (λ (round, q). hidden_columns r q.datum ≡ count_at r preprocessing round)
      (enumerate_from n requests)
  named_from n [] counts =
      All-nil (λ ((round, q) : ℕ × Outer).
      hidden_columns r q.datum ≡ count_at r preprocessing round)
  named_from n (q ∷ requests) counts =
      All-cons (λ ((round, q) : ℕ × Outer).
      hidden_columns r q.datum ≡ count_at r preprocessing round) (n, q)
      (enumerate_from (n + 1) requests) (sym counts.0) (named_from (n + 1) requests counts.1)

  module _ (requests : List Outer)
      (counts : AreCounted r preprocessing 0 (map (λ (q : Outer). q.datum) requests)) where
    -- what is shown of all values are the values of the shown polynomials
    pub values_shown :
        shown_values r preprocessing (map (honest_values held) (map inside requests))
        ≡ map (honest_values (shown_polynomials f committed log_blowup r)) requests
    values_shown =
        shown_inside inner_of (hidden_columns r) held r preprocessing requests
        (named_from 0 requests counts)

    -- the claims of these, with what is kept back, are those of all
    pub claims_joined : {Com Domain : Type 0} (commitment_of : T → Com) (log_size : Domain → ℕ)
        (domains : List (List Domain))
        → with_random_values (relation_claims log_size
        (honest_claims (shown_polynomials f committed log_blowup r) (λ d. commitment_of d.inner)
        domains requests))
        (kept_values r preprocessing (map (honest_values held) (map inside requests)))
        ≡ relation_claims log_size
        (honest_claims held commitment_of domains (map inside requests))
    claims_joined commitment_of log_size domains =
        claims_inside inner_of (hidden_columns r) held r preprocessing commitment_of log_size
        domains requests (named_from 0 requests counts)
