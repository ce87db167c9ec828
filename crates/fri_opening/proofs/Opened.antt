-- Requests to open what is kept, and what is claimed of it then.
use Rattle.std.proofs.Common.{◌≡◌, ◌≢◌, ℕ, zero, suc, List, [], ◌∷◌, map, length, All}
use Rattle.std.proofs.Common.{Bool, true, false, Ok, Option, Some, None, refl, sym, subst, ap, ap₂, ◌∙◌, arith}
use Rattle.std.specs.List.{AllZip, flat_map}
use Rattle.std.proofs.lemmas.List.{length-map}
use Rattle.std.proofs.lemmas.Slice.Zip.{AllZip-long}
use Rattle.algebra.specs.Nested.{lists}
use Rattle.algebra.proofs.Lists.{Each, each_from_All, All_from_each, head_eq, tail_eq, all_zip-weaker, map-map}
use Rattle.p3_matrix.specs.declared.dense.RowMajorMatrix.{RowMajorMatrix}
use Rattle.p3_matrix.specs.Matrix.{matrix_width}
use Rattle.p3_pcs.specs.Claims.{zip_with, point_claims, matrix_claims}
use Rattle.p3_pcs.specs.Requests.{Held}
use Rattle.p3_pcs.specs.Scheme.{Scheme, AreHonestIn, FitRequests, claims_asked}
use Rattle.p3_stark_pcs.specs.Preprocessing.{CanBeOpened, ArePreprocessedAt}
use Rattle.p3_stark_pcs.specs.Scheme.{StarkScheme, IsLawfulStark}
use Rattle.fri_records.specs.declared.records.Matrix.{Matrix}
use Rattle.fri_records.specs.declared.records.Batch.{Batch}
use Rattle.fri_records.specs.declared.records.Domain.{Domain}
use Rattle.fri_commitments.specs.declared.committed.Committed.{Committed}
use Rattle.fri_statement.specs.Setting.{SchemeFields}
use Rattle.fri_numbers.specs.Numbers.{extension_of, extension_numbers}
use Rattle.fri_verification.specs.Bound.{width_claimed, matrix_claimed, batch_claimed, matrix_asked, batch_asked}
use Rattle.fri_numbers.specs.Claims.{PointNumbers, point_numbers, matrix_numbers, batch_numbers}
use Rattle.fri_numbers.specs.Listed.{domain_of, domain_committed, IsListed}
use Rattle.fri_commitments.specs.Committed.{MayOpen}
use Rattle.fri_commitments.specs.Committed.{Keeps}
use Rattle.fri_opening.specs.Openings.{values_opened, matrix_opened, IsOpenedBy, requests_for}
use Rattle.fri_commitments.specs.Read.{HavePoints}
use Rattle.fri_commitments.specs.Preprocessing.{NamesPreprocessed}
use Rattle.fri_numbers.specs.Shapes.{HasPoints}
use Rattle.fri_commitments.specs.Requests.{AllMatrices}
use Rattle.p3_pcs.specs.declared.claims.KnownCommitment.{KnownCommitment}
use Rattle.fri_numbers.proofs.Kept.{pairs_through}
use Rattle.fri_numbers.proofs.Listed.{HaveNumbers, extension_again}
use Rattle.fri_opening.proofs.Counts.{Counts, lists_each, some_held, points_there}
use Rattle.fri_commitments.proofs.Zipped.{none_left}

-- as many values at each point as the matrix has columns
abbrev pub HasWidth : {E : Type 0} → Held E → Matrix → Type 0
HasWidth {E} h m = (z : E) → length (h.values_at z) ≡ m.width

module _ {F E : Type 0} (f : SchemeFields F E) (hides : Bool) where
  points_back : (h : Held E) (zs : List (List ℕ))
      → map (λ p. p.point) (map (values_opened f h) zs) ≡ zs
  points_back h [] = refl
  points_back h (z ∷ zs) = ap (λ ys. z ∷ ys) (points_back h zs)

  width_back : (h : Held E) (m : Matrix) → HasWidth h m → (zs : List (List ℕ)) → zs ≢ []
      → width_claimed (map (values_opened f h) zs) ≡ m.width
  width_back h m wide [] some = absurd (some refl)
  width_back h m wide (z ∷ zs) some =
      length-map (h.values_at (extension_of f z)) (extension_numbers f) ∙ wide (extension_of f z)

  -- what is claimed of a matrix that is opened somewhere states what is asked
  matrix_back : (h : Held E) (m : Matrix) → HasWidth h m → HasPoints f m
      → matrix_claimed (matrix_opened f hides h m) ≡ matrix_asked hides m
  matrix_back h m wide has =
      ap₂ (λ w zs. record {
        shift = (domain_committed hides m.domain).shift;
        log_size = (domain_committed hides m.domain).log_size;
        width = w;
        points = zs;
      })
      (width_back h m wide (lists m.points.items) (λ none. has.some_point
      (none_left m.points.items (sym (length-map m.points.items (λ v. v.items)) ∙ ap length none))))
      (points_back h (lists m.points.items))

  pub matrices_back : (hs : List (Held E)) (ms : List Matrix) → AllZip HasWidth hs ms
      → Each (HasPoints f) ms
      → map matrix_claimed (zip_with (matrix_opened f hides) hs ms) ≡ map (matrix_asked hides) ms
  matrices_back [] [] wide has = refl
  matrices_back [] (m ∷ ms) wide has = absurd wide
  matrices_back (h ∷ hs) [] wide has = refl
  matrices_back (h ∷ hs) (m ∷ ms) wide has =
      ap₂ (λ x xs. x ∷ xs) (matrix_back h m wide.0 has.0) (matrices_back hs ms wide.1 has.1)

  module _ (numbered : HaveNumbers f) where
    -- what is claimed at points is what is opened there
    points_opened : (h : Held E) (ps : List E)
        → map (point_numbers f) (point_claims ps (map h.values_at ps))
        ≡ map (values_opened f h) (map (extension_numbers f) ps)
    points_opened h [] = refl
    points_opened h (p ∷ ps) =
        let numbers : List E → PointNumbers = λ vs. record {
          point = extension_numbers f p;
          values = map (extension_numbers f) vs;
        } in
        ap₂ (λ x xs. x ∷ xs)
        (ap (λ z. numbers (h.values_at z)) (sym (extension_again f numbered p))) (points_opened h ps)

    module _ {Dom : Type 0} (shift_of : Dom → F) (log_size_of : Dom → ℕ) where
      pub matrices_opened : (domains : List Dom) (ms : List Matrix) (hs : List (Held E))
          (pss : List (List E))
          → map (λ d. domain_of f (shift_of d) (log_size_of d)) domains
          ≡ map (λ m. domain_committed hides m.domain) ms
          → length hs ≡ length ms
          → map (map (extension_numbers f)) pss ≡ map (λ m. lists m.points.items) ms
          → map (matrix_numbers f shift_of log_size_of)
          (matrix_claims domains pss (zip_with (λ m zs. map m.values_at zs) hs pss))
          ≡ zip_with (matrix_opened f hides) hs ms
      matrices_opened [] [] [] pss e n q = refl
      matrices_opened [] [] (h ∷ hs) pss e n q = refl
      matrices_opened [] (m ∷ ms) hs pss e n q = cc
      matrices_opened (d ∷ ds) [] hs pss e n q = cc
      matrices_opened (d ∷ ds) (m ∷ ms) [] pss e n q = absurd (omega (arith, n))
      matrices_opened (d ∷ ds) (m ∷ ms) (h ∷ hs) [] e n q = cc
      matrices_opened (d ∷ ds) (m ∷ ms) (h ∷ hs) (ps ∷ pss) e n q =
          ap₂ (λ x xs. x ∷ xs)
          (ap₂ (λ (x : Domain) xs. record { shift = x.shift; log_size = x.log_size; points = xs }) (head_eq e)
          (points_opened h ps ∙ ap (λ zs. map (values_opened f h) zs) (head_eq q)))
          (matrices_opened ds ms hs pss (tail_eq e) (omega (arith, n)) (tail_eq q))

module _ {F E : Type 0} (f : SchemeFields F E) {C Dom D Proof Error ProverError : Type 0}
    (r : Scheme E C F Dom (List ℕ) D Proof Error ProverError)
    (t : StarkScheme E F Dom D ProverError) (hides : Bool) (shift_of : Dom → F)
    (log_size_of : Dom → ℕ) where
  abbrev Kept : Committed D Dom → Batch → Type 0
  Kept c batch = Keeps f r t hides shift_of log_size_of c batch

  -- their domains
  pub domains_kept : (cs : List (Committed D Dom)) (batches : List Batch) → AllZip Kept cs batches
      → map (λ c. map (λ d. domain_of f (shift_of d) (log_size_of d)) c.domains.items) cs
      ≡ map (λ b. map (λ m. domain_committed hides m.domain) b.matrices.items) batches
  domains_kept [] [] pairs = refl
  domains_kept [] (batch ∷ batches) pairs = absurd pairs
  domains_kept (c ∷ cs) [] pairs = absurd pairs
  domains_kept (c ∷ cs) (batch ∷ batches) pairs =
      ap₂ (λ x xs. x ∷ xs) pairs.0.domains (domains_kept cs batches pairs.1)

  -- as many matrices are kept as a batch lists
  kept_count : (c : Committed D Dom) (batch : Batch) → Kept c batch
      → length (r.committed_polynomials c.data) ≡ length batch.matrices.items
  kept_count c batch k =
      sym (AllZip-long r.Extends (r.committed_polynomials c.data) k.committed.evaluations k.committed.commits.extends)
      ∙ sym (AllZip-long (IsListed f hides shift_of log_size_of) k.committed.evaluations batch.matrices.items
      k.committed.listed)

  -- at these points of the batches
  module _ (cs : List (Committed D Dom)) (pss : List (List (List E))) (batches : List Batch) where
    abbrev Points : Type 0
    Points = map (map (map (extension_numbers f))) pss
        ≡ map (λ batch. map (λ m. lists m.points.items) batch.matrices.items) batches

    pub count_same : AllZip Kept cs batches → Points → length pss ≡ length cs
    count_same pairs e =
        sym (length-map pss (map (map (extension_numbers f)))) ∙ ap length e
        ∙ length-map batches (λ batch. map (λ m. lists m.points.items) batch.matrices.items)
        ∙ AllZip-long Kept cs batches pairs

  honest_data : (cs : List (Committed D Dom)) (pss : List (List (List E))) (batches : List Batch)
      → AllZip Kept cs batches → Each (λ q. r.IsHonest q.datum) (requests_for cs pss)
  honest_data [] pss batches pairs = tt
  honest_data (c ∷ cs) [] batches pairs = tt
  honest_data (c ∷ cs) (ps ∷ pss) [] pairs = absurd pairs
  honest_data (c ∷ cs) (ps ∷ pss) (batch ∷ batches) pairs =
      (pairs.0.committed.commits.honest, honest_data cs pss batches pairs.1)

  pub honest : (cs : List (Committed D Dom)) (pss : List (List (List E))) (batches : List Batch)
      → AllZip Kept cs batches → HavePoints pss → AreHonestIn r (requests_for cs pss)
  honest cs pss batches pairs some = record {
    data_honest = All_from_each _ _ (honest_data cs pss batches pairs);
    points = All_from_each _ _ (points_there cs pss (each_from_All (λ ps. All (λ zs. zs ≢ []) ps) pss some));
  }

  pub fits : (cs : List (Committed D Dom)) (pss : List (List (List E))) (batches : List Batch)
      → AllZip Kept cs batches → length pss ≡ length cs
      → FitRequests r (map (λ c. c.domains.items) cs) (requests_for cs pss)
  fits [] pss batches pairs n = refl
  fits (c ∷ cs) [] batches pairs n = absurd (omega (arith, n))
  fits (c ∷ cs) (ps ∷ pss) [] pairs n = absurd pairs
  fits (c ∷ cs) (ps ∷ pss) (batch ∷ batches) pairs n =
      ap₂ (λ x xs. x ∷ xs) pairs.0.sizes (fits cs pss batches pairs.1 (omega (arith, n)))

  pub roots : (cs : List (Committed D Dom)) (pss : List (List (List E))) (batches : List Batch)
      → AllZip Kept cs batches → length pss ≡ length cs
      → map (λ c. c.commitment) cs ≡ map (λ q. r.commitment_of q.datum) (requests_for cs pss)
  roots [] pss batches pairs n = refl
  roots (c ∷ cs) [] batches pairs n = absurd (omega (arith, n))
  roots (c ∷ cs) (ps ∷ pss) [] pairs n = absurd pairs
  roots (c ∷ cs) (ps ∷ pss) (batch ∷ batches) pairs n =
      ap₂ (λ x xs. x ∷ xs) (sym pairs.0.committed.commits.commits) (roots cs pss batches pairs.1 (omega (arith, n)))

  -- the data may be opened, that of the preprocessed batch as such
  may_plain : (p : Bool) (d : D) → p ≡ false → MayOpen r t p d → r.CanOpen d
  may_plain p d e h = subst (λ b. MayOpen r t b d) e h

  may_preprocessed : (p : Bool) (d : D) → p ≡ true → MayOpen r t p d → t.CanOpenPreprocessed d
  may_preprocessed p d e h = subst (λ b. MayOpen r t b d) e h

  each_plain : (cs : List (Committed D Dom)) (pss : List (List (List E))) (batches : List Batch)
      → AllZip Kept cs batches → Each (λ (b : Batch). b.preprocessed ≡ false) batches
      → Each r.CanOpen (map (λ q. q.datum) (requests_for cs pss))
  each_plain [] pss batches pairs none = tt
  each_plain (c ∷ cs) [] batches pairs none = tt
  each_plain (c ∷ cs) (ps ∷ pss) [] pairs none = absurd pairs
  each_plain (c ∷ cs) (ps ∷ pss) (batch ∷ batches) pairs none = (
    may_plain batch.preprocessed c.data none.0 pairs.0.committed.commits.openable,
    each_plain cs pss batches pairs.1 none.1,
  )

  all_plain : (cs : List (Committed D Dom)) (pss : List (List (List E))) (batches : List Batch)
      → AllZip Kept cs batches → All (λ (b : Batch). b.preprocessed ≡ false) batches
      → All r.CanOpen (map (λ q. q.datum) (requests_for cs pss))
  all_plain cs pss batches pairs none =
      All_from_each r.CanOpen (map (λ q. q.datum) (requests_for cs pss))
      (each_plain cs pss batches pairs (each_from_All (λ (b : Batch). b.preprocessed ≡ false) batches none))

  named_at : (n : ℕ) (cs : List (Committed D Dom)) (pss : List (List (List E))) (batches : List Batch)
      → AllZip Kept cs batches → length pss ≡ length cs
      → ArePreprocessedAt (λ b. b.preprocessed ≡ false) (λ b. b.preprocessed ≡ true) n batches
      → ArePreprocessedAt r.CanOpen t.CanOpenPreprocessed n (map (λ q. q.datum) (requests_for cs pss))
  named_at n cs pss [] pairs same named = absurd named
  named_at n [] pss (batch ∷ batches) pairs same named = absurd pairs
  named_at n (c ∷ cs) [] (batch ∷ batches) pairs same named = absurd (omega (arith, same))
  named_at zero (c ∷ cs) (ps ∷ pss) (batch ∷ batches) pairs same named = (
    may_preprocessed batch.preprocessed c.data named.0 pairs.0.committed.commits.openable,
    all_plain cs pss batches pairs.1 named.1,
  )
  named_at (suc n) (c ∷ cs) (ps ∷ pss) (batch ∷ batches) pairs same named = (
    may_plain batch.preprocessed c.data named.0 pairs.0.committed.commits.openable,
    named_at n cs pss batches pairs.1 (omega (arith, same)) named.1,
  )

  named : (index : Option ℕ) (cs : List (Committed D Dom)) (pss : List (List (List E)))
      (batches : List Batch) → AllZip Kept cs batches → length pss ≡ length cs
      → NamesPreprocessed index batches
      → CanBeOpened r.CanOpen t.CanOpenPreprocessed index (map (λ q. q.datum) (requests_for cs pss))
  named None cs pss batches pairs same names = all_plain cs pss batches pairs names
  named (Some n) cs pss batches pairs same names = named_at n cs pss batches pairs same names

  counts : (cs : List (Committed D Dom)) (batches : List Batch) → AllZip Kept cs batches
      → AllZip (Counts r.committed_polynomials) cs batches
  counts cs batches pairs = all_zip-weaker Kept (Counts r.committed_polynomials) cs batches kept_count pairs

  pub can_open : IsLawfulStark r t → (index : Option ℕ) (cs : List (Committed D Dom))
      (pss : List (List (List E))) (batches : List Batch) → AllZip Kept cs batches
      → map (map (map (extension_numbers f))) pss
      ≡ map (λ batch. map (λ m. lists m.points.items) batch.matrices.items) batches
      → NamesPreprocessed index batches → flat_map (λ batch. batch.matrices.items) batches ≢ []
      → t.CanOpenAt index (requests_for cs pss)
  can_open lawful index cs pss batches pairs e names some =
      let same = count_same cs pss batches pairs e in
      lawful.openable index (requests_for cs pss) (record {
        data_openable = named index cs pss batches pairs same names;
        points = All_from_each _ _ (lists_each r.committed_polynomials (extension_numbers f) cs pss batches
            (λ b. map (λ m. lists m.points.items) b.matrices.items)
            (λ b. length-map b.matrices.items (λ m. lists m.points.items)) (counts cs batches pairs) e);
        some_matrix = some_held r.committed_polynomials cs pss batches (counts cs batches pairs) same some;
      })

  module _ (numbered : HaveNumbers f) where
    -- what is claimed of a batch that is opened
    pub opened_each : (cs : List (Committed D Dom)) (pss : List (List (List E))) (batches : List Batch)
        → AllZip Kept cs batches
        → map (map (map (extension_numbers f))) pss
        ≡ map (λ batch. map (λ m. lists m.points.items) batch.matrices.items) batches
        → AllZip (IsOpenedBy f r t hides shift_of log_size_of)
        (map (batch_numbers f shift_of log_size_of) (claims_asked r (map (λ c. c.domains.items) cs) (requests_for cs pss)))
        batches
    opened_each [] pss [] pairs q = tt
    opened_each [] pss (batch ∷ batches) pairs q = absurd pairs
    opened_each (c ∷ cs) pss [] pairs q = absurd pairs
    opened_each (c ∷ cs) [] (batch ∷ batches) pairs q = cc
    opened_each (c ∷ cs) (ps ∷ pss) (batch ∷ batches) pairs q = (
      record {
        commitment = c.commitment;
        datum = c.data;
        written = ap Ok pairs.0.committed.commits.commits;
        committed = pairs.0.committed;
        matrices = matrices_opened f hides numbered shift_of log_size_of c.domains.items batch.matrices.items
            (r.committed_polynomials c.data) ps pairs.0.domains (kept_count c batch pairs.0) (head_eq q);
      },
      opened_each cs pss batches pairs.1 (tail_eq q),
    )

    -- states what is asked
    module _ (columns : (m : Held E) (e : Dom × RowMajorMatrix F) → r.Extends m e
        → (z : E) → length (m.values_at z) ≡ matrix_width e.1) where
      widths : (c : Committed D Dom) (batch : Batch) → Kept c batch
          → AllZip HasWidth (r.committed_polynomials c.data) batch.matrices.items
      widths c batch k =
          pairs_through r.Extends (IsListed f hides shift_of log_size_of) HasWidth
          (λ h e m extends listed z. columns h e extends z ∙ listed.width)
          (r.committed_polynomials c.data) k.committed.evaluations batch.matrices.items k.committed.commits.extends
          k.committed.listed

      stated_each : (cs : List (Committed D Dom)) (pss : List (List (List E))) (batches : List Batch)
          → AllZip Kept cs batches
          → map (map (map (extension_numbers f))) pss
          ≡ map (λ batch. map (λ m. lists m.points.items) batch.matrices.items) batches
          → Each (λ batch. All (HasPoints f) batch.matrices.items) batches
          → map batch_claimed (map (batch_numbers f shift_of log_size_of)
          (claims_asked r (map (λ c. c.domains.items) cs) (requests_for cs pss)))
          ≡ zip_with (batch_asked hides) (map (λ c. c.commitment) cs) batches
      stated_each [] pss batches pairs q has = refl
      stated_each (c ∷ cs) pss [] pairs q has = absurd pairs
      stated_each (c ∷ cs) [] (batch ∷ batches) pairs q has = cc
      stated_each (c ∷ cs) (ps ∷ pss) (batch ∷ batches) pairs q has =
          ap₂ (λ x xs. x ∷ xs)
          (ap₂ (λ d ms. record { digest = d; matrices = ms }) pairs.0.committed.commits.commits
          (ap (λ ms. map matrix_claimed ms)
          (matrices_opened f hides numbered shift_of log_size_of c.domains.items batch.matrices.items
          (r.committed_polynomials c.data) ps pairs.0.domains (kept_count c batch pairs.0) (head_eq q))
          ∙ matrices_back f hides (r.committed_polynomials c.data) batch.matrices.items (widths c batch pairs.0)
          (each_from_All (HasPoints f) batch.matrices.items has.0)))
          (stated_each cs pss batches pairs.1 (tail_eq q) has.1)

      pub stated_all : (cs : List (Committed D Dom)) (pss : List (List (List E))) (batches : List Batch)
          → AllZip Kept cs batches
          → map (map (map (extension_numbers f))) pss
          ≡ map (λ batch. map (λ m. lists m.points.items) batch.matrices.items) batches
          → AllMatrices (HasPoints f) batches
          → map batch_claimed (map (batch_numbers f shift_of log_size_of)
          (claims_asked r (map (λ c. c.domains.items) cs) (requests_for cs pss)))
          ≡ zip_with (batch_asked hides) (map (λ c. c.commitment) cs) batches
      stated_all cs pss batches pairs q has =
          stated_each cs pss batches pairs q
          (each_from_All (λ batch. All (HasPoints f) batch.matrices.items) batches has)

-- what a verifier knows of what is kept
module _ {F E : Type 0} (f : SchemeFields F E) {C Dom D Proof Error ProverError : Type 0}
    (r : Scheme E C F Dom (List ℕ) D Proof Error ProverError)
    (t : StarkScheme E F Dom D ProverError) (hides : Bool) (shift_of : Dom → F)
    (log_size_of : Dom → ℕ) where
  pub domains_known : (known : List (KnownCommitment (List ℕ) Dom)) (cs : List (Committed D Dom)) (batches : List Batch)
      → map (λ k. k.domains.items) known ≡ map (λ c. c.domains.items) cs
      → AllZip (Keeps f r t hides shift_of log_size_of) cs batches
      → map (λ k. map (λ d. domain_of f (shift_of d) (log_size_of d)) k.domains.items) known
      ≡ map (λ b. map (λ m. domain_committed hides m.domain) b.matrices.items) batches
  domains_known known cs batches e pairs =
      sym (map-map (map (λ d. domain_of f (shift_of d) (log_size_of d))) (λ k. k.domains.items) known)
      ∙ ap (λ ds. map (map (λ d. domain_of f (shift_of d) (log_size_of d))) ds) e
      ∙ map-map (map (λ d. domain_of f (shift_of d) (log_size_of d))) (λ c. c.domains.items) cs
      ∙ domains_kept f r t hides shift_of log_size_of cs batches pairs
