-- The values that are kept back may be appended to the honest claims of what is shown: they nest
-- alike, and the masks meet the budget.
use Rattle.std.proofs.Common.{◌≡◌, ◌≢◌, ℕ, suc, ◌+◌, ◌-◌, ◌<◌, ◌≤◌, ◌/◌, ◌^◌, List, [], ◌∷◌, ◌++◌}
use Rattle.std.proofs.Common.{map, length, Option, All, refl, sym, ap, ap₂, ◌∙◌, arith, subst}
use Rattle.std.specs.Prelude.{IfSome}
use Rattle.std.specs.List.{AllZip, enumerate_from, flat_map}
use Rattle.std.proofs.lemmas.List.{length-map, length-drop}
use Rattle.algebra.proofs.Lists.{Each, each_from_All, All_from_each, head_eq, tail_eq}
use Rattle.p3_matrix.specs.declared.dense.RowMajorMatrix.{RowMajorMatrix}
use Rattle.p3_matrix.specs.Matrix.{rows, matrix_width}
use Rattle.p3_pcs.specs.Claims.{zip_with, point_claims, matrix_claims}
use Rattle.p3_pcs.specs.Requests.{Held, Request, FitDomains, honest_claims, honest_values}
use Rattle.p3_pcs.specs.Claims.{PointClaim}
use Rattle.p3_fri_relation.specs.Setting.{Fields, Parameters, MatrixClaim}
use Rattle.p3_fri_relation.specs.Setting.{CommitmentClaim}
use Rattle.p3_fri_openings.specs.Rounds.{ask}
use Rattle.p3_fri_openings.proofs.Committed.{width_of_values}
use Rattle.p3_fri_openings.specs.Committed.{committed_values}
use Rattle.p3_fri_openings.specs.SchemeClaims.{matrix_claim, relation_claims}
use Rattle.p3_fri_openings.specs.Held.{held_in, held_of}
use Rattle.p3_fri_opening_prover.specs.Refusals.{asked_of}
use Rattle.p3_fri_masks.specs.Budget.{required_height}
use Rattle.p3_fri_hiding_openings.specs.RandomValues.{count_at, FitsMatrix, NestInMatrix}
use Rattle.p3_fri_hiding_openings.specs.RandomValues.{MayAppend}
use Rattle.p3_fri_hiding_openings.specs.RandomValues.{MeetsBudget as MeetsClaimed}
use Rattle.p3_fri_hiding_openings.specs.Halves.{kept_back, kept_values, shown_of}
use Rattle.p3_fri_hiding_openings.specs.declared.data.HidingFriPcsProverData.{HidingFriPcsProverData}
use Rattle.p3_fri_hiding_openings.specs.Data.{hidden_columns, shown_polynomials}
use Rattle.p3_fri_hiding_openings.specs.Requests.{inside}
use Rattle.p3_fri_hiding_openings.specs.Shown.{shown_in}
use Rattle.p3_fri_hiding_openings.specs.Opening.{MeetsBudget}
use Rattle.p3_fri_hiding_openings.proofs.Counted.{AreCounted}

-- matrices without their last `hidden` columns
abbrev pub first_in : {F E : Type 0} → Fields F E → (log_blowup hidden : ℕ)
    → List (RowMajorMatrix F) → List (Held E)
first_in f log_blowup hidden ms = map (shown_of hidden) (map (held_in f log_blowup) ms)

-- the values that a request asks for, of held matrices
abbrev pub values_of : {E : Type 0} → List (Held E) → List (List E) → List (List (List E))
values_of held points = zip_with (λ m zs. map m.values_at zs) held points

-- of the values of one matrix's columns, of which the last `hidden` only hide the others
module _ {F E : Type 0} (f : Fields F E) (log_blowup count hidden : ℕ) (same : count ≡ hidden)
    (m : RowMajorMatrix F) (wide : hidden ≤ matrix_width m) where
  kept_length : (z : E) → length (kept_back count (committed_values f log_blowup m z)) ≡ count
  kept_length z =
      let vs = committed_values f log_blowup m z in
      let width = width_of_values f log_blowup m z in
      let left = length-drop (length vs - count) vs in
      omega (arith, width, left, wide, same)

  nest_points : (points : List E)
      → AllZip (λ (z : PointClaim E) (values : List E). length values ≡ count)
      (point_claims points (map (shown_in f log_blowup hidden m).values_at points))
      (map (kept_back count) (map (committed_values f log_blowup m) points))
  nest_points [] = tt
  nest_points (z ∷ points) = (kept_length z, nest_points points)

-- as many lists of points as matrices
count_first : {F E : Type 0} (f : Fields F E) (log_blowup hidden : ℕ) (ms : List (RowMajorMatrix F))
    (points : List (List E)) → length points ≡ length (first_in f log_blowup hidden ms)
    → length points ≡ length ms
count_first f log_blowup hidden ms points count =
    count ∙ length-map (map (held_in f log_blowup) ms) (shown_of hidden)
    ∙ length-map ms (held_in f log_blowup)

points_counted : {E : Type 0} (values : E → List E) (points : List E)
    → length (point_claims points (map values points)) ≡ length points
points_counted values [] = refl
points_counted values (z ∷ points) = ap suc (points_counted values points)

-- of the matrices of one datum
module _ {F E Domain : Type 0} (f : Fields F E) (p : Parameters) (r : ℕ) (log_size : Domain → ℕ)
    (count hidden : ℕ) (same : count ≡ hidden) where
  pub matrices_fit : (domains : List Domain) (ms : List (RowMajorMatrix F))
      (points : List (List E))
      → map (λ d. 2 ^ log_size d) domains
      ≡ map (λ m. m.size) (first_in f p.log_blowup hidden ms)
      → length points ≡ length ms → Each (λ m. hidden ≤ matrix_width m) ms
      → Each (MeetsBudget f p r) (zip_with ask ms points)
      → AllZip (FitsMatrix p.num_queries f.degree count)
      (map (matrix_claim log_size) (matrix_claims domains points
      (values_of (first_in f p.log_blowup hidden ms) points)))
      (map (map (kept_back count)) (values_of (map (held_in f p.log_blowup) ms) points))
  matrices_fit [] [] points sizes counts wide meet = tt
  matrices_fit [] (m ∷ ms) points sizes counts wide meet = absurd (cc)
  matrices_fit (d ∷ domains) [] points sizes counts wide meet = absurd (cc)
  matrices_fit (d ∷ domains) (m ∷ ms) [] sizes counts wide meet = absurd (omega (arith, counts))
  matrices_fit (d ∷ domains) (m ∷ ms) (zs ∷ points) sizes counts wide meet =
      let size : 2 ^ log_size d ≡ length (rows m) / 2 ^ p.log_blowup = head_eq sizes in
      let few = points_counted (shown_in f p.log_blowup hidden m).values_at zs in (
        record {
          budget = subst (λ (n : ℕ). required_height p.num_queries f.degree n
              ≤ 2 ^ log_size d / 2) (sym few)
              (subst (λ (n : ℕ). required_height p.num_queries f.degree (length zs) ≤ n / 2)
              (sym size) meet.0.height);
          nest = nest_points f p.log_blowup count hidden same m wide.0 zs;
        },
        matrices_fit domains ms points (tail_eq sizes) (omega (arith, counts)) wide.1 meet.1,
      )

-- of all data
module _ {F E T Com Domain : Type 0} (f : Fields F E) (committed : T → List (RowMajorMatrix F))
    (p : Parameters) (r : ℕ) (preprocessing : Option ℕ) (commitment_of : T → Com)
    (log_size : Domain → ℕ) where
  abbrev Outer : Type 0
  Outer = Request (HidingFriPcsProverData T) E

  abbrev held_by : HidingFriPcsProverData T → ℕ
  held_by d = length (shown_polynomials f committed p.log_blowup r d)

  abbrev IsWide : HidingFriPcsProverData T → Type 0
  IsWide d = All (λ m. hidden_columns r d ≤ matrix_width m) (committed d.inner)

  rounds_fit : (n : ℕ) (domains : List (List Domain)) (requests : List Outer)
      → FitDomains (shown_polynomials f committed p.log_blowup r) (λ d. 2 ^ log_size d) domains
      requests
      → AreCounted r preprocessing n (map (λ q. q.datum) requests)
      → Each (λ q. length q.points ≡ held_by q.datum) requests
      → Each (λ q. IsWide q.datum) requests
      → Each (λ q. All (MeetsBudget f p r) (asked_of committed (inside q))) requests
      → AllZip (λ (round, c) matrices.
      AllZip (FitsMatrix p.num_queries f.degree (count_at r preprocessing round)) c.matrices
      matrices)
      (enumerate_from n (relation_claims log_size (honest_claims
      (shown_polynomials f committed p.log_blowup r) (λ d. commitment_of d.inner) domains
      requests)))
      (map (λ (k, matrices). map (map (kept_back (count_at r preprocessing k))) matrices)
      (enumerate_from n
      (map (honest_values (held_of f committed p.log_blowup)) (map inside requests))))
  rounds_fit n [] [] sizes counted points wide meet = tt
  rounds_fit n [] (q ∷ requests) sizes counted points wide meet = absurd (cc)
  rounds_fit n (ds ∷ domains) [] sizes counted points wide meet = absurd (cc)
  rounds_fit n (ds ∷ domains) (q ∷ requests) sizes counted points wide meet =
      let ms = committed q.datum.inner in (
        matrices_fit f p r log_size (count_at r preprocessing n) (hidden_columns r q.datum)
            counted.0 ds ms q.points (head_eq sizes)
            (count_first f p.log_blowup (hidden_columns r q.datum) ms q.points points.0)
            (each_from_All (λ m. hidden_columns r q.datum ≤ matrix_width m) ms wide.0)
            (each_from_All (MeetsBudget f p r) (zip_with ask ms q.points) meet.0),
        rounds_fit (n + 1) domains requests (tail_eq sizes) counted.1 points.1 wide.1 meet.1,
      )

-- what fits nests alike, and meets the budget
module _ {E : Type 0} (num_queries degree : ℕ) where
  matrices_nest : (count : ℕ) (claims : List (MatrixClaim E)) (random : List (List (List E)))
      → AllZip (FitsMatrix num_queries degree count) claims random
      → AllZip (NestInMatrix count) claims random
  matrices_nest count [] [] fit = tt
  matrices_nest count [] (points ∷ random) fit = absurd fit
  matrices_nest count (claim ∷ claims) [] fit = absurd fit
  matrices_nest count (claim ∷ claims) (points ∷ random) fit =
      (fit.0.nest, matrices_nest count claims random fit.1)

  matrices_meet : (count : ℕ) (claims : List (MatrixClaim E)) (random : List (List (List E)))
      → AllZip (FitsMatrix num_queries degree count) claims random
      → Each (MeetsClaimed num_queries degree) claims
  matrices_meet count [] random fit = tt
  matrices_meet count (claim ∷ claims) [] fit = absurd fit
  matrices_meet count (claim ∷ claims) (points ∷ random) fit =
      (fit.0.budget, matrices_meet count claims random fit.1)

module _ {E Com : Type 0} (num_queries degree r : ℕ) (preprocessing : Option ℕ) where
  abbrev FitFrom : ℕ → List (CommitmentClaim E Com) → List (List (List (List E))) → Type 0
  FitFrom n claims random = AllZip (λ (round, c) matrices.
      AllZip (FitsMatrix num_queries degree (count_at r preprocessing round)) c.matrices matrices)
      (enumerate_from n claims) random

  all_nest : (n : ℕ) (claims : List (CommitmentClaim E Com))
      (random : List (List (List (List E)))) → FitFrom n claims random
      → AllZip (λ (round, c) matrices.
      AllZip (NestInMatrix (count_at r preprocessing round)) c.matrices matrices)
      (enumerate_from n claims) random
  all_nest n [] [] fit = tt
  all_nest n [] (matrices ∷ random) fit = absurd fit
  all_nest n (c ∷ claims) [] fit = absurd fit
  all_nest n (c ∷ claims) (matrices ∷ random) fit = (
    matrices_nest num_queries degree (count_at r preprocessing n) c.matrices matrices fit.0,
    all_nest (n + 1) claims random fit.1,
  )

  all_meet : (n : ℕ) (claims : List (CommitmentClaim E Com))
      (random : List (List (List (List E)))) → FitFrom n claims random
      → Each (λ c. All (MeetsClaimed num_queries degree) c.matrices) claims
  all_meet n [] random fit = tt
  all_meet n (c ∷ claims) [] fit = absurd fit
  all_meet n (c ∷ claims) (matrices ∷ random) fit = (
    All_from_each (MeetsClaimed num_queries degree) c.matrices
        (matrices_meet num_queries degree (count_at r preprocessing n) c.matrices matrices fit.0),
    all_meet (n + 1) claims random fit.1,
  )

-- all in one: of honest claims on domains that fit
module _ {F E T Com Domain : Type 0} (f : Fields F E) (committed : T → List (RowMajorMatrix F))
    (p : Parameters) (r : ℕ) (preprocessing : Option ℕ) (commitment_of : T → Com)
    (log_size : Domain → ℕ) where
  abbrev Whole : Type 0
  Whole = Request (HidingFriPcsProverData T) E

  abbrev shown : HidingFriPcsProverData T → List (Held E)
  shown = shown_polynomials f committed p.log_blowup r

  abbrev claims : List (List Domain) → List Whole → List (CommitmentClaim E Com)
  claims domains requests = relation_claims log_size
      (honest_claims shown (λ d. commitment_of d.inner) domains requests)

  abbrev values : List Whole → List (List (List (List E)))
  values requests = map (honest_values (held_of f committed p.log_blowup)) (map inside requests)

  count_claims : (domains : List (List Domain)) (requests : List Whole)
      → FitDomains shown (λ d. 2 ^ log_size d) domains requests
      → length (claims domains requests) ≡ length requests
  count_claims [] [] fits = refl
  count_claims [] (q ∷ requests) fits = absurd (cc)
  count_claims (ds ∷ domains) [] fits = absurd (cc)
  count_claims (ds ∷ domains) (q ∷ requests) fits =
      ap suc (count_claims domains requests (tail_eq fits))

  -- some matrix meets the budget, or none is opened
  enough_in : (ms : List (RowMajorMatrix F)) (points : List (List E)) → length points ≡ length ms
      → Each (MeetsBudget f p r) (zip_with ask ms points)
      → (ms ≡ [] → f.degree ≤ r) → f.degree ≤ r
  enough_in [] points count meet none = none refl
  enough_in (m ∷ ms) [] count meet none = absurd (omega (arith, count))
  enough_in (m ∷ ms) (zs ∷ points) count meet none = meet.0.codewords

  enough : (requests : List Whole) → Each (λ q. length q.points ≡ length (shown q.datum)) requests
      → Each (λ q. All (MeetsBudget f p r) (asked_of committed (inside q))) requests
      → flat_map (λ q. shown q.datum) requests ≢ [] → f.degree ≤ r
  enough [] points meet some = absurd (some refl)
  enough (q ∷ requests) points meet some =
      let ms = committed q.datum.inner in
      enough_in ms q.points
      (count_first f p.log_blowup (hidden_columns r q.datum) ms q.points points.0)
      (each_from_All (MeetsBudget f p r) (zip_with ask ms q.points) meet.0)
      (λ none. enough requests points.1 meet.1 (λ others. some
      (ap₂ (λ now rest. first_in f p.log_blowup (hidden_columns r q.datum) now ++ rest)
      none others)))

  within_claims : (o : Option ℕ) (m n : ℕ) → n ≡ m → IfSome o (λ i. i < n) → IfSome o (λ i. i < m)
  within_claims o m n same h = subst (λ k. IfSome o (λ i. i < k)) same h

  pub may_append : (domains : List (List Domain)) (requests : List Whole)
      → FitDomains shown (λ d. 2 ^ log_size d) domains requests
      → AreCounted r preprocessing 0 (map (λ q. q.datum) requests)
      → IfSome preprocessing (λ i. i < length (map (λ (q : Whole). q.datum) requests))
      → All (λ q. length q.points ≡ length (shown q.datum)) requests
      → All (λ q. All (λ m. hidden_columns r q.datum ≤ matrix_width m) (committed q.datum.inner))
      requests
      → All (λ q. All (MeetsBudget f p r) (asked_of committed (inside q))) requests
      → flat_map (λ q. shown q.datum) requests ≢ []
      → MayAppend r p.num_queries f.degree preprocessing (claims domains requests)
      (kept_values r preprocessing (values requests))
  may_append domains requests fits counted within points wide meet some =
      let each_points = each_from_All (λ (q : Whole). length q.points ≡ length (shown q.datum))
      requests points in
      let each_meet = each_from_All
      (λ (q : Whole). All (MeetsBudget f p r) (asked_of committed (inside q))) requests meet in
      let fit = rounds_fit f committed p r preprocessing commitment_of log_size 0 domains requests
      fits counted each_points
      (each_from_All (λ (q : Whole). All (λ m. hidden_columns r q.datum ≤ matrix_width m)
      (committed q.datum.inner)) requests wide)
      each_meet in
      record {
        among_claims = within_claims preprocessing (length (claims domains requests))
            (length (map (λ (q : Whole). q.datum) requests))
            (length-map requests (λ q. q.datum) ∙ sym (count_claims domains requests fits)) within;
        enough_columns = enough requests each_points each_meet some;
        budgets = All_from_each
            (λ c. All (MeetsClaimed p.num_queries f.degree) c.matrices)
            (claims domains requests)
            (all_meet p.num_queries f.degree r preprocessing 0 (claims domains requests)
            (kept_values r preprocessing (values requests)) fit);
        nest = all_nest p.num_queries f.degree r preprocessing 0 (claims domains requests)
            (kept_values r preprocessing (values requests)) fit;
      }
