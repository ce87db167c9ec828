-- What is opened of what a prover of the plain scheme keeps.
use Rattle.std.proofs.Common.{◌≡◌, ◌≢◌, ℕ, ◌+◌, ◌^◌, List, [], ◌∷◌, map, length, All, Ok, false}
use Rattle.std.proofs.Common.{refl, sym, subst, ap, ap₂, ◌∙◌, arith, length-append}
use Rattle.std.specs.List.{AllZip, flat_map}
use Rattle.std.proofs.lemmas.List.{length-map, with_items_is}
use Rattle.std.proofs.lemmas.Slice.Zip.{AllZip-long}
use Rattle.algebra.specs.Nested.{lists}
use Rattle.algebra.specs.Polynomial.{tabulate}
use Rattle.algebra.proofs.Lists.{Each, each_from_All, All_from_each, head_eq, tail_eq, map-map, length-tabulate}
use Rattle.algebra.proofs.Lists.{all_zip-weaker}
use Rattle.p3_matrix.specs.declared.dense.RowMajorMatrix.{RowMajorMatrix}
use Rattle.p3_matrix.specs.Matrix.{matrix_width}
use Rattle.p3_mmcs.specs.ProverData.{matrices_of, root_over}
use Rattle.p3_pcs.specs.Claims.{Claim, zip_with}
use Rattle.p3_pcs.specs.Requests.{Held, AreHonest, AreOpenable, FitDomains, honest_claims}
use Rattle.p3_stark_pcs.specs.Evaluations.{HasPolynomials}
use Rattle.p3_fri_openings.specs.Held.{held_in, held_of, HoldsWords}
use Rattle.p3_fri_openings.specs.Rounds.{HasCoset}
use Rattle.fri_records.specs.declared.records.Matrix.{Matrix}
use Rattle.fri_records.specs.declared.records.Batch.{Batch}
use Rattle.fri_records.specs.declared.records.Domain.{Domain}
use Rattle.fri_statement.specs.Setting.{SchemeFields}
use Rattle.fri_commitments.specs.declared.committed.Committed.{Committed}
use Rattle.fri_verification.specs.Bound.{batch_claimed, matrix_claimed, matrix_asked, batch_asked}
use Rattle.fri_numbers.specs.Claims.{batch_numbers}
use Rattle.fri_requests.specs.Commitments.{IsCommitmentTo}
use Rattle.fri_numbers.specs.Listed.{domain_of, domain_committed}
use Rattle.fri_prover.specs.Keeping.{IsKept, matrix_at, batch_at, batches_at, AskFor}
use Rattle.fri_requests.specs.Matrices.{held_listed, polynomial_listed}
use Rattle.fri_numbers.specs.Numbers.{extension_numbers}
use Rattle.fri_requests.specs.Opened.{IsOpened}
use Rattle.fri_commitments.specs.Read.{HavePoints}
use Rattle.fri_opening.specs.Openings.{requests_for}
use Rattle.fri_commitments.specs.Read.{ArePoints}
use Rattle.fri_requests.specs.PlainRequests.{InputData}
use Rattle.fri_numbers.specs.Shapes.{HasPoints}
use Rattle.fri_commitments.proofs.Requested.{have_points}
use Rattle.fri_opening.proofs.Counts.{Counts, lists_each, some_held, points_there}
use Rattle.fri_commitments.proofs.Keeping.{long_as}
use Rattle.fri_numbers.proofs.Kept.{pairs_same}
use Rattle.fri_numbers.proofs.Listed.{HaveNumbers}
use Rattle.fri_opening.proofs.Opened.{HasWidth, matrices_opened, matrices_back}
use Rattle.fri_requests.proofs.PlainRules.{opened_plain}
use Rattle.fri_commitments.proofs.Zipped.{none_left}

-- of the length of the first list
zipped_long : {A B C : Type 0} (f : A → B → C) (xs : List A) (ys : List B) → length xs ≡ length ys
    → length (zip_with f xs ys) ≡ length xs
zipped_long f [] ys e = refl
zipped_long f (x ∷ xs) [] e = absurd (omega (arith, e))
zipped_long f (x ∷ xs) (y ∷ ys) e =
    let rest : length (zip_with f xs ys) ≡ length xs = zipped_long f xs ys (omega (arith, e)) in omega (arith, rest)

domains_at_same : (ms qs : List Matrix) → length ms ≡ length qs
    → map (λ m. m.domain) (zip_with matrix_at ms qs) ≡ map (λ m. m.domain) ms
domains_at_same [] qs e = refl
domains_at_same (m ∷ ms) [] e = absurd (omega (arith, e))
domains_at_same (m ∷ ms) (a ∷ qs) e = ap (λ ds. m.domain ∷ ds) (domains_at_same ms qs (omega (arith, e)))

points_at_same : (ms qs : List Matrix) → length ms ≡ length qs
    → map (λ m. lists m.points.items) (zip_with matrix_at ms qs) ≡ map (λ m. lists m.points.items) qs
points_at_same [] [] e = refl
points_at_same [] (a ∷ qs) e = absurd (omega (arith, e))
points_at_same (m ∷ ms) [] e = absurd (omega (arith, e))
points_at_same (m ∷ ms) (a ∷ qs) e =
    ap (λ ps. lists a.points.items ∷ ps) (points_at_same ms qs (omega (arith, e)))

asked_at_same : (ms qs : List Matrix) → map (λ m. m.domain) ms ≡ map (λ m. m.domain) qs
    → map (λ m. m.width) ms ≡ map (λ m. m.width) qs
    → map (matrix_asked false) (zip_with matrix_at ms qs) ≡ map (matrix_asked false) qs
asked_at_same [] [] e w = refl
asked_at_same [] (a ∷ qs) e w = cc
asked_at_same (m ∷ ms) [] e w = cc
asked_at_same (m ∷ ms) (a ∷ qs) e w =
    ap₂ (λ x xs. x ∷ xs)
    (ap₂ (λ (d : Domain) (n : ℕ). record {
      shift = (domain_committed false d).shift;
      log_size = (domain_committed false d).log_size;
      width = n;
      points = lists a.points.items;
    }) (head_eq e) (head_eq w))
    (asked_at_same ms qs (tail_eq e) (tail_eq w))

-- the matrices of a batch, each at its points
items_at : (kept asked : Batch) → length kept.matrices.items ≡ length asked.matrices.items
    → (batch_at kept asked).matrices.items ≡ zip_with matrix_at kept.matrices.items asked.matrices.items
items_at kept asked e =
    with_items_is kept.matrices (zip_with matrix_at kept.matrices.items asked.matrices.items)
    (zipped_long matrix_at kept.matrices.items asked.matrices.items e ∙ sym kept.matrices.ok.0)

abbrev SameDomains : List Batch → List Batch → Type 0
SameDomains batches asked = map (λ b. map (λ m. m.domain) b.matrices.items) batches
    ≡ map (λ b. map (λ m. m.domain) b.matrices.items) asked

abbrev SameWidths : List Batch → List Batch → Type 0
SameWidths batches asked = map (λ b. map (λ m. m.width) b.matrices.items) batches
    ≡ map (λ b. map (λ m. m.width) b.matrices.items) asked

-- as many matrices as are asked for
matrices_at : (batches asked : List Batch) → SameDomains batches asked
    → length (flat_map (λ b. b.matrices.items) asked)
    ≡ length (flat_map (λ b. b.matrices.items) (batches_at batches asked))
matrices_at [] [] e = refl
matrices_at [] (a ∷ qs) e = cc
matrices_at (b ∷ bs) [] e = cc
matrices_at (b ∷ bs) (a ∷ qs) e =
    let same = long_as (λ m. m.domain) (λ m. m.domain) b.matrices.items a.matrices.items (head_eq e) in
    length-append a.matrices.items (flat_map (λ k. k.matrices.items) qs)
    ∙ ap₂ (λ m n. m + n)
    (sym same ∙ sym (ap length (items_at b a same) ∙ zipped_long matrix_at b.matrices.items a.matrices.items same))
    (matrices_at bs qs (tail_eq e))
    ∙ sym (length-append (batch_at b a).matrices.items (flat_map (λ k. k.matrices.items) (batches_at bs qs)))

-- what batches have at the points that are asked
points_at : (batches asked : List Batch) → SameDomains batches asked
    → map (λ b. map (λ m. lists m.points.items) b.matrices.items) (batches_at batches asked)
    ≡ map (λ b. map (λ m. lists m.points.items) b.matrices.items) asked
points_at [] [] e = refl
points_at [] (a ∷ qs) e = cc
points_at (b ∷ bs) [] e = cc
points_at (b ∷ bs) (a ∷ qs) e =
    let same = long_as (λ m. m.domain) (λ m. m.domain) b.matrices.items a.matrices.items (head_eq e) in
    ap₂ (λ x xs. x ∷ xs)
    (ap (λ ms. map (λ m. lists m.points.items) ms) (items_at b a same)
    ∙ points_at_same b.matrices.items a.matrices.items same)
    (points_at bs qs (tail_eq e))

asked_at : (commitments : List (List ℕ)) (batches asked : List Batch) → SameDomains batches asked
    → SameWidths batches asked
    → zip_with (batch_asked false) commitments (batches_at batches asked)
    ≡ zip_with (batch_asked false) commitments asked
asked_at [] batches asked e w = refl
asked_at (k ∷ ks) [] [] e w = refl
asked_at (k ∷ ks) [] (a ∷ qs) e w = cc
asked_at (k ∷ ks) (b ∷ bs) [] e w = cc
asked_at (k ∷ ks) (b ∷ bs) (a ∷ qs) e w =
    let same = long_as (λ m. m.domain) (λ m. m.domain) b.matrices.items a.matrices.items (head_eq e) in
    ap₂ (λ x xs. x ∷ xs)
    (ap (λ ms. record { digest = k; matrices = ms })
    (ap (λ ms. map (matrix_asked false) ms) (items_at b a same)
    ∙ asked_at_same b.matrices.items a.matrices.items (head_eq e) (head_eq w)))
    (asked_at ks bs qs (tail_eq e) (tail_eq w))

module _ {F E : Type 0} (f : SchemeFields F E) where
  -- of matrices at other points
  held_at_same : (ms qs : List Matrix) → length ms ≡ length qs
      → map (held_listed f) (zip_with matrix_at ms qs) ≡ map (held_listed f) ms
  held_at_same [] qs e = refl
  held_at_same (m ∷ ms) [] e = absurd (omega (arith, e))
  held_at_same (m ∷ ms) (a ∷ qs) e = ap (λ hs. held_listed f m ∷ hs) (held_at_same ms qs (omega (arith, e)))

  -- as many values at each point as columns
  wide : (h : Held E) (m : Matrix) → HasPolynomials h (held_listed f m) → HasWidth h m
  wide h m p z =
      ap length (p.values z) ∙ length-map (tabulate m.width (polynomial_listed f m)) _ ∙ length-tabulate m.width _

  all_wide : (hs : List (Held E)) (ms : List Matrix) → AllZip HasPolynomials hs (map (held_listed f) ms)
      → AllZip HasWidth hs ms
  all_wide [] [] p = tt
  all_wide [] (m ∷ ms) p = absurd p
  all_wide (h ∷ hs) [] p = absurd p
  all_wide (h ∷ hs) (m ∷ ms) p = (wide h m p.0, all_wide hs ms p.1)

  module _ (b : ℕ) where
    columns_in : (k : RowMajorMatrix F) (z : E)
        → length ((held_in f.relation b k).values_at z) ≡ matrix_width k
    columns_in k z = length-map (tabulate (matrix_width k) _) _ ∙ length-tabulate (matrix_width k) _

    widths_in : (ks : List (RowMajorMatrix F)) (ms : List Matrix)
        → AllZip HasPolynomials (map (held_in f.relation b) ks) (map (held_listed f) ms)
        → map (λ k. matrix_width k) ks ≡ map (λ m. m.width) ms
    widths_in [] [] p = refl
    widths_in [] (m ∷ ms) p = absurd p
    widths_in (k ∷ ks) [] p = absurd p
    widths_in (k ∷ ks) (m ∷ ms) p =
        ap₂ (λ x xs. x ∷ xs)
        (sym (columns_in k f.relation.ext.zero) ∙ wide (held_in f.relation b k) m p.0 f.relation.ext.zero)
        (widths_in ks ms p.1)

module _ {F E : Type 0} (f : SchemeFields F E) (numbered : HaveNumbers f) (n : ℕ) {Dom : Type 0} (shift_of : Dom → F)
    (log_size_of : Dom → ℕ) (b : ℕ) where
  abbrev Data : Type 0
  Data = InputData f n

  abbrev Kept : Committed Data Dom → Batch → Type 0
  Kept c batch = IsKept f n shift_of log_size_of b c batch

  abbrev held : Data → List (Held E)
  held d = held_of f.relation matrices_of b d

  abbrev claims : List (Committed Data Dom) → List (List (List E)) → List (Claim E (List ℕ) Dom)
  claims cs pss = honest_claims held root_over (map (λ c. c.domains.items) cs) (requests_for cs pss)

  abbrev Points : List (List (List E)) → List Batch → Type 0
  Points pss batches =
      map (map (map (extension_numbers f))) pss ≡ map (λ b. map (λ m. lists m.points.items) b.matrices.items) batches

  kept_count : (c : Committed Data Dom) (batch : Batch) → Kept c batch
      → length (held c.data) ≡ length batch.matrices.items
  kept_count c batch k =
      sym (AllZip-long HasPolynomials (held c.data) (map (held_listed f) batch.matrices.items) k.keeps.polynomials)
      ∙ length-map batch.matrices.items (held_listed f)

  pub is_commitment : (c : Committed Data Dom) (batch : Batch) → Kept c batch → IsCommitmentTo f b c.commitment batch
  is_commitment c batch k = record {
    words = matrices_of c.data;
    low_degree = k.keeps.low_degree;
    polynomials = k.keeps.polynomials;
    log_height = c.data.log_height;
    height = c.data.greatest;
    root = k.root;
  }

  -- what is kept of a batch is kept of it at other points
  kept_at : (c : Committed Data Dom) (batch asked : Batch)
      → length batch.matrices.items ≡ length asked.matrices.items → Kept c batch → Kept c (batch_at batch asked)
  kept_at c batch asked same k =
      let ms = batch.matrices.items in
      let is = items_at batch asked same in
      record {
        root = k.root;
        keeps = record {
          openable = k.keeps.openable;
          low_degree = k.keeps.low_degree;
          polynomials = subst (λ ns. AllZip HasPolynomials (held c.data) (map (held_listed f) ns)) (sym is)
              (subst (λ hs. AllZip HasPolynomials (held c.data) hs) (sym (held_at_same f ms asked.matrices.items same))
              k.keeps.polynomials);
        };
        domains = k.domains
            ∙ sym (ap (λ ns. map (λ m. m.domain) ns) is ∙ domains_at_same ms asked.matrices.items same);
      }

  all_at : (cs : List (Committed Data Dom)) (batches asked : List Batch) → SameDomains batches asked
      → AllZip Kept cs batches → AllZip Kept cs (batches_at batches asked)
  all_at [] [] asked e pairs = tt
  all_at [] (batch ∷ batches) asked e pairs = absurd pairs
  all_at (c ∷ cs) [] asked e pairs = absurd pairs
  all_at (c ∷ cs) (batch ∷ batches) [] e pairs = cc
  all_at (c ∷ cs) (batch ∷ batches) (a ∷ asked) e pairs = (
    kept_at c batch a
        (long_as (λ m. m.domain) (λ m. m.domain) batch.matrices.items a.matrices.items (head_eq e)) pairs.0,
    all_at cs batches asked (tail_eq e) pairs.1,
  )

  -- its domains and its widths
  pub domains_kept : (cs : List (Committed Data Dom)) (batches : List Batch) → AllZip Kept cs batches
      → map (λ c. map (λ d. domain_of f (shift_of d) (log_size_of d)) c.domains.items) cs
      ≡ map (λ b. map (λ m. m.domain) b.matrices.items) batches
  domains_kept [] [] pairs = refl
  domains_kept [] (batch ∷ batches) pairs = absurd pairs
  domains_kept (c ∷ cs) [] pairs = absurd pairs
  domains_kept (c ∷ cs) (batch ∷ batches) pairs =
      ap₂ (λ x xs. x ∷ xs) pairs.0.domains (domains_kept cs batches pairs.1)

  pub widths_kept : (cs : List (Committed Data Dom)) (batches : List Batch) → AllZip Kept cs batches
      → map (λ c. map (λ k. matrix_width k) (matrices_of c.data)) cs
      ≡ map (λ b. map (λ m. m.width) b.matrices.items) batches
  widths_kept [] [] pairs = refl
  widths_kept [] (batch ∷ batches) pairs = absurd pairs
  widths_kept (c ∷ cs) [] pairs = absurd pairs
  widths_kept (c ∷ cs) (batch ∷ batches) pairs =
      ap₂ (λ x xs. x ∷ xs) (widths_in f b (matrices_of c.data) batch.matrices.items pairs.0.keeps.polynomials)
      (widths_kept cs batches pairs.1)

  count_same : (cs : List (Committed Data Dom)) (pss : List (List (List E))) (batches : List Batch)
      → AllZip Kept cs batches → Points pss batches → length pss ≡ length cs
  count_same cs pss batches pairs e =
      long_as (map (map (extension_numbers f))) (λ b. map (λ m. lists m.points.items) b.matrices.items) pss batches e
      ∙ AllZip-long Kept cs batches pairs

  -- requests to open it are honest
  low_each : (cs : List (Committed Data Dom)) (pss : List (List (List E))) (batches : List Batch)
      → AllZip Kept cs batches → Each (λ q. All (HoldsWords f.relation b) (matrices_of q.datum)) (requests_for cs pss)
  low_each [] pss batches pairs = tt
  low_each (c ∷ cs) [] batches pairs = tt
  low_each (c ∷ cs) (ps ∷ pss) [] pairs = absurd pairs
  low_each (c ∷ cs) (ps ∷ pss) (batch ∷ batches) pairs =
      (pairs.0.keeps.low_degree, low_each cs pss batches pairs.1)

  -- it can be opened
  open_each : (cs : List (Committed Data Dom)) (pss : List (List (List E))) (batches : List Batch)
      → AllZip Kept cs batches
      → Each (λ q. All (HasCoset f.relation.two_adicity) (matrices_of q.datum)) (requests_for cs pss)
  open_each [] pss batches pairs = tt
  open_each (c ∷ cs) [] batches pairs = tt
  open_each (c ∷ cs) (ps ∷ pss) [] pairs = absurd pairs
  open_each (c ∷ cs) (ps ∷ pss) (batch ∷ batches) pairs = (pairs.0.keeps.openable, open_each cs pss batches pairs.1)

  openable : (cs : List (Committed Data Dom)) (pss : List (List (List E))) (batches : List Batch)
      → AllZip Kept cs batches → Points pss batches → flat_map (λ batch. batch.matrices.items) batches ≢ []
      → AreOpenable (λ d. All (HasCoset f.relation.two_adicity) (matrices_of d)) held (requests_for cs pss)
  openable cs pss batches pairs e some =
      let counts = all_zip-weaker Kept (Counts held) cs batches kept_count pairs in
      record {
        data_openable = All_from_each _ _ (open_each cs pss batches pairs);
        points = All_from_each _ _ (lists_each held (extension_numbers f) cs pss batches
            (λ b. map (λ m. lists m.points.items) b.matrices.items)
            (λ b. length-map b.matrices.items (λ m. lists m.points.items)) counts e);
        some_matrix = some_held held cs pss batches counts (count_same cs pss batches pairs e) some;
      }

  honest : (cs : List (Committed Data Dom)) (pss : List (List (List E))) (batches : List Batch)
      → AllZip Kept cs batches → HavePoints pss
      → AreHonest (λ d. All (HoldsWords f.relation b) (matrices_of d)) (requests_for cs pss)
  honest cs pss batches pairs some = record {
    data_honest = All_from_each _ _ (low_each cs pss batches pairs);
    points = All_from_each _ _
        (points_there cs pss (each_from_All (λ ps. All (λ zs. zs ≢ []) ps) pss some));
  }

  -- of its commitments
  roots : (cs : List (Committed Data Dom)) (pss : List (List (List E))) (batches : List Batch)
      → AllZip Kept cs batches → length pss ≡ length cs
      → map (λ c. c.commitment) cs ≡ map (λ q. root_over q.datum) (requests_for cs pss)
  roots [] pss batches pairs same = refl
  roots (c ∷ cs) [] batches pairs same = absurd (omega (arith, same))
  roots (c ∷ cs) (ps ∷ pss) [] pairs same = absurd pairs
  roots (c ∷ cs) (ps ∷ pss) (batch ∷ batches) pairs same =
      ap₂ (λ x xs. x ∷ xs) pairs.0.root (roots cs pss batches pairs.1 (omega (arith, same)))

  -- on its domains
  sizes_kept : (c : Committed Data Dom) (batch : Batch) → Kept c batch
      → map (λ d. 2 ^ log_size_of d) c.domains.items ≡ map (λ m. m.size) (held c.data)
  sizes_kept c batch k =
      sym (map-map (λ (d : Domain). 2 ^ d.log_size) (λ d. domain_of f (shift_of d) (log_size_of d)) c.domains.items)
      ∙ ap (λ ds. map (λ (d : Domain). 2 ^ d.log_size) ds) k.domains
      ∙ map-map (λ (d : Domain). 2 ^ d.log_size) (λ (m : Matrix). m.domain) batch.matrices.items
      ∙ sym (map-map (λ (m : Held E). m.size) (held_listed f) batch.matrices.items)
      ∙ pairs_same HasPolynomials (λ m. m.size) (λ m. m.size) (λ m k h. h.size) (held c.data)
      (map (held_listed f) batch.matrices.items) k.keeps.polynomials

  fits : (cs : List (Committed Data Dom)) (pss : List (List (List E))) (batches : List Batch)
      → AllZip Kept cs batches → length pss ≡ length cs
      → FitDomains held (λ d. 2 ^ log_size_of d) (map (λ c. c.domains.items) cs) (requests_for cs pss)
  fits [] pss batches pairs same = refl
  fits (c ∷ cs) [] batches pairs same = absurd (omega (arith, same))
  fits (c ∷ cs) (ps ∷ pss) [] pairs same = absurd pairs
  fits (c ∷ cs) (ps ∷ pss) (batch ∷ batches) pairs same =
      ap₂ (λ x xs. x ∷ xs) (sizes_kept c batch pairs.0) (fits cs pss batches pairs.1 (omega (arith, same)))

  -- what is claimed of it
  opened_each : (cs : List (Committed Data Dom)) (pss : List (List (List E))) (batches : List Batch)
      → AllZip Kept cs batches → Points pss batches
      → AllZip (IsOpened f b) (map (batch_numbers f shift_of log_size_of) (claims cs pss)) batches
  opened_each [] pss [] pairs q = tt
  opened_each [] pss (batch ∷ batches) pairs q = absurd pairs
  opened_each (c ∷ cs) pss [] pairs q = absurd pairs
  opened_each (c ∷ cs) [] (batch ∷ batches) pairs q = cc
  opened_each (c ∷ cs) (ps ∷ pss) (batch ∷ batches) pairs q = (
    record {
      commitment = c.commitment;
      written = ap Ok (sym pairs.0.root);
      committed = is_commitment c batch pairs.0;
      matrices = matrices_opened f false numbered shift_of log_size_of c.domains.items batch.matrices.items (held c.data) ps
          pairs.0.domains (kept_count c batch pairs.0) (head_eq q)
          ∙ opened_plain f (held c.data) batch.matrices.items pairs.0.keeps.polynomials;
    },
    opened_each cs pss batches pairs.1 (tail_eq q),
  )

  -- under its commitments
  commitments_each : (cs : List (Committed Data Dom)) (pss : List (List (List E))) (batches : List Batch)
      → AllZip Kept cs batches → length pss ≡ length cs
      → map (λ k. k.commitment) (map (batch_numbers f shift_of log_size_of) (claims cs pss))
      ≡ map (λ k. Ok k) (map (λ c. c.commitment) cs)
  commitments_each [] pss batches pairs same = refl
  commitments_each (c ∷ cs) [] batches pairs same = absurd (omega (arith, same))
  commitments_each (c ∷ cs) (ps ∷ pss) [] pairs same = absurd pairs
  commitments_each (c ∷ cs) (ps ∷ pss) (batch ∷ batches) pairs same =
      ap₂ (λ x xs. x ∷ xs) (ap Ok (sym pairs.0.root)) (commitments_each cs pss batches pairs.1 (omega (arith, same)))

  -- states what is asked
  stated_each : (cs : List (Committed Data Dom)) (pss : List (List (List E))) (batches : List Batch)
      → AllZip Kept cs batches → Points pss batches → Each (λ batch. All (HasPoints f) batch.matrices.items) batches
      → map batch_claimed (map (batch_numbers f shift_of log_size_of) (claims cs pss))
      ≡ zip_with (batch_asked false) (map (λ c. c.commitment) cs) batches
  stated_each [] pss batches pairs q has = refl
  stated_each (c ∷ cs) pss [] pairs q has = absurd pairs
  stated_each (c ∷ cs) [] (batch ∷ batches) pairs q has = cc
  stated_each (c ∷ cs) (ps ∷ pss) (batch ∷ batches) pairs q has =
      ap₂ (λ x xs. x ∷ xs)
      (ap₂ (λ d ms. record { digest = d; matrices = ms }) (sym pairs.0.root)
      (ap (λ ms. map matrix_claimed ms)
      (matrices_opened f false numbered shift_of log_size_of c.domains.items batch.matrices.items (held c.data) ps
      pairs.0.domains (kept_count c batch pairs.0) (head_eq q))
      ∙ matrices_back f false (held c.data) batch.matrices.items
      (all_wide f (held c.data) batch.matrices.items pairs.0.keeps.polynomials)
      (each_from_All (HasPoints f) batch.matrices.items has.0)))
      (stated_each cs pss batches pairs.1 (tail_eq q) has.1)

  -- at the points that are asked
  module _ (cs : List (Committed Data Dom)) (batches asked : List Batch) (pairs : AllZip Kept cs batches)
      (asks : AskFor batches asked) (pss : List (List (List E))) (are : ArePoints f pss asked) where
    abbrev reopened : List Batch
    reopened = batches_at batches asked

    pairs_at : AllZip Kept cs reopened
    pairs_at = all_at cs batches asked asks.domains pairs

    numbers_at : Points pss reopened
    numbers_at = are.numbers ∙ sym (points_at batches asked asks.domains)

    same_at : length pss ≡ length cs
    same_at = count_same cs pss reopened pairs_at numbers_at

    pub honest_at : AreHonest (λ d. All (HoldsWords f.relation b) (matrices_of d)) (requests_for cs pss)
    honest_at = honest cs pss reopened pairs_at are.some_points

    pub openable_at : flat_map (λ batch. batch.matrices.items) asked ≢ []
        → AreOpenable (λ d. All (HasCoset f.relation.two_adicity) (matrices_of d)) held (requests_for cs pss)
    openable_at some =
        openable cs pss reopened pairs_at numbers_at
        (λ none. some (none_left _ (matrices_at batches asked asks.domains ∙ ap length none)))

    pub roots_at : map (λ c. c.commitment) cs ≡ map (λ q. root_over q.datum) (requests_for cs pss)
    roots_at = roots cs pss reopened pairs_at same_at

    pub fits_at : FitDomains held (λ d. 2 ^ log_size_of d) (map (λ c. c.domains.items) cs) (requests_for cs pss)
    fits_at = fits cs pss reopened pairs_at same_at

    pub opened_at : AllZip (IsOpened f b) (map (batch_numbers f shift_of log_size_of) (claims cs pss)) reopened
    opened_at = opened_each cs pss reopened pairs_at numbers_at

    pub commitments_at : map (λ k. k.commitment) (map (batch_numbers f shift_of log_size_of) (claims cs pss))
        ≡ map (λ k. Ok k) (map (λ c. c.commitment) cs)
    commitments_at = commitments_each cs pss reopened pairs_at same_at

    pub stated_at : map batch_claimed (map (batch_numbers f shift_of log_size_of) (claims cs pss))
        ≡ zip_with (batch_asked false) (map (λ c. c.commitment) cs) asked
    stated_at =
        stated_each cs pss reopened pairs_at numbers_at
        (each_from_All (λ batch. All (HasPoints f) batch.matrices.items) reopened
        (have_points f numbered pss reopened numbers_at are.some_points))
        ∙ asked_at (map (λ c. c.commitment) cs) batches asked asks.domains asks.widths
