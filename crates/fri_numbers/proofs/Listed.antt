-- The claims of numbers, and numbers that are those of claims.
use Rattle.std.proofs.Common.{◌≡◌, ◌≢◌, ℕ, ◌<◌, ◌≤◌, ◌%◌, List, [], ◌∷◌, map, length}
use Rattle.std.proofs.Common.{get_or, All, refl, sym, subst, ap, ap₂, ◌∙◌}
use Rattle.std.proofs.lemmas.List.{length-map}
use Rattle.std.proofs.lemmas.List.Elements.{All-map}
use Rattle.algebra.proofs.Lists.{map-map, map-agree, entry_of_map}
use Rattle.p3_pcs.specs.Claims.{PointClaim, MatrixClaim, Claim}
use Rattle.p3_fri_openings.proofs.First.{at_item}
use Rattle.p3_fri_openings.specs.SchemeClaims as relation
use Rattle.fri_records.specs.declared.records.BatchClaims.{BatchClaims}
use Rattle.fri_statement.specs.Setting.{SchemeFields}
use Rattle.fri_numbers.specs.Numbers.{element, extension_of, extension_numbers}
use Rattle.fri_numbers.specs.Numbers.{IsExtensionElement}
use Rattle.fri_numbers.proofs.Canonical.{HaveElements}
use Rattle.fri_numbers.proofs.Canonical as prime
use Rattle.fri_numbers.specs.Claims.{point_numbers, matrix_numbers, batch_numbers, batch_listed}
use Rattle.fri_numbers.specs.Numbers.{IsCoset}
use Rattle.fri_numbers.specs.Claimed.{IsPointClaim, IsMatrixClaim, IsClaim, AreClaims}
use Rattle.fri_numbers.specs.Claimed.{point_of, matrix_of, claim_of, claims_listed}

-- what doesn't hold of one entry doesn't hold of all
pub not_all : {A B : Type 0} (P : B → Type 0) (f : A → B) (xs : List A) (i : ℕ) (x : A)
    → i < length xs → x ≡ get_or xs i x → ¬ P (f x) → ¬ All P (map f xs)
not_all P f xs i x h e fails = λ all.
    fails (at_item P (map f xs) i (f x) (subst (λ n. i < n) (sym (length-map xs f)) h)
    (entry_of_map f xs i x h e) all)

-- what the traits of fields say of numbers
pub record HaveNumbers {F E : Type 0} (f : SchemeFields F E) : Type 0 where
  pub below : (x : F) → f.canonical x < f.order
  pub again : (x : F) → element f (f.canonical x) ≡ x
  pub numbers : (n : ℕ) → f.canonical (element f n) ≡ n % f.order
  pub count : (x : E) → length (f.relation.coefficients x) ≡ f.relation.degree
  pub same : (x y : E) → f.relation.coefficients x ≡ f.relation.coefficients y → x ≡ y
  pub made : (xs : List F) → length xs ≡ f.relation.degree
      → f.relation.coefficients (f.of_coefficients xs) ≡ xs

module _ {F E : Type 0} (f : SchemeFields F E) (numbered : HaveNumbers f) where
  -- of the prime field
  elements : HaveElements f.relation.base f.order f.canonical
  elements =
      record { below = numbered.below; again = numbered.again; numbers = numbered.numbers }

  pub is_coset : (most : ℕ) (shift : F) (log_size : ℕ) → shift ≢ f.relation.base.zero
      → log_size ≤ most → IsCoset f most (f.canonical shift) log_size
  is_coset most shift log_size nonzero within = prime.is_coset f.relation.base f.order f.canonical
      elements most shift log_size nonzero within

  -- an element of the extension is that of its numbers
  pub extension_again : (x : E) → extension_of f (extension_numbers f x) ≡ x
  extension_again x = numbered.same (extension_of f (extension_numbers f x)) x
      (ap (λ xs. f.relation.coefficients (f.of_coefficients xs))
      (prime.every_element_again f.relation.base f.order f.canonical elements
      (f.relation.coefficients x))
      ∙ numbered.made (f.relation.coefficients x) (numbered.count x))

  pub every_extension_again : (xs : List E)
      → map (extension_of f) (map (extension_numbers f) xs) ≡ xs
  every_extension_again [] = refl
  every_extension_again (x ∷ xs) =
      ap₂ (λ y ys. y ∷ ys) (extension_again x) (every_extension_again xs)

  pub is_extension : (x : E) → IsExtensionElement f (extension_numbers f x)
  is_extension x = record {
    count = length-map (f.relation.coefficients x) f.canonical ∙ numbered.count x;
    elements = prime.every_is_element f.relation.base f.order f.canonical elements
        (f.relation.coefficients x);
  }

  pub every_is_extension : (xs : List E)
      → All (IsExtensionElement f) (map (extension_numbers f) xs)
  every_is_extension xs = All-map (IsExtensionElement f) (extension_numbers f) xs
      (λ i d h. is_extension (get_or xs i d))

  module _ {Domain : Type 0} (shift_of : Domain → F) (log_size_of : Domain → ℕ) where
    -- the relation's claim is that of the numbers
    points_again : (ps : List (PointClaim E)) → ps ≡ map (point_of f) (map (point_numbers f) ps)
    points_again [] = refl
    points_again (p ∷ ps) =
        ap₂ (λ q rest. q ∷ rest)
        (ap₂ (λ z vs. record { point = z; values = vs }) (sym (extension_again p.point))
        (sym (every_extension_again p.values))) (points_again ps)

    matrix_again : (m : MatrixClaim E Domain) → relation.matrix_claim log_size_of m
        ≡ matrix_of f (matrix_numbers f shift_of log_size_of m)
    matrix_again m =
        ap (λ ps. record { domain = log_size_of m.domain; points = ps }) (points_again m.points)

    matrices_again : (ms : List (MatrixClaim E Domain))
        → map (relation.matrix_claim log_size_of) ms
        ≡ map (matrix_of f) (map (matrix_numbers f shift_of log_size_of) ms)
    matrices_again ms =
        map-agree (relation.matrix_claim log_size_of)
        (λ m. matrix_of f (matrix_numbers f shift_of log_size_of m)) matrix_again ms
        ∙ sym (map-map (matrix_of f) (matrix_numbers f shift_of log_size_of) ms)

    claim_again : (c : Claim E (List ℕ) Domain) → relation.relation_claim log_size_of c
        ≡ claim_of f (batch_numbers f shift_of log_size_of c)
    claim_again c =
        ap (λ ms. record { commitment = c.commitment; matrices = ms }) (matrices_again c.matrices)

    pub claims_again : (cs : List (Claim E (List ℕ) Domain)) (records : List BatchClaims)
        → map (batch_numbers f shift_of log_size_of) cs ≡ map batch_listed records
        → relation.relation_claims log_size_of cs ≡ claims_listed f records
    claims_again cs records e =
        map-agree (relation.relation_claim log_size_of)
        (λ c. claim_of f (batch_numbers f shift_of log_size_of c)) claim_again cs
        ∙ sym (map-map (claim_of f) (batch_numbers f shift_of log_size_of) cs)
        ∙ ap (λ ns. map (claim_of f) ns) e

    -- the numbers of a claim on cosets are a claim's
    module _ (coset : (d : Domain) → IsCoset f f.relation.two_adicity (f.canonical (shift_of d)) (log_size_of d)) where
      is_point : (p : PointClaim E) → IsPointClaim f (point_numbers f p)
      is_point p = record { point = is_extension p.point; values = every_is_extension p.values }

      is_matrix : (m : MatrixClaim E Domain)
          → IsMatrixClaim f (matrix_numbers f shift_of log_size_of m)
      is_matrix m = record {
        domain = coset m.domain;
        points = All-map (IsPointClaim f) (point_numbers f) m.points
            (λ i d h. is_point (get_or m.points i d));
      }

      is_claim : (c : Claim E (List ℕ) Domain) → IsClaim f (batch_numbers f shift_of log_size_of c)
      is_claim c = record {
        commitment = refl;
        matrices = All-map (IsMatrixClaim f) (matrix_numbers f shift_of log_size_of) c.matrices
            (λ i d h. is_matrix (get_or c.matrices i d));
      }

      pub are_claims : (cs : List (Claim E (List ℕ) Domain)) (records : List BatchClaims)
          → map (batch_numbers f shift_of log_size_of) cs ≡ map batch_listed records → AreClaims f records
      are_claims cs records e =
          subst (λ ns. All (IsClaim f) ns) e
          (All-map (IsClaim f) (batch_numbers f shift_of log_size_of) cs
          (λ i d h. is_claim (get_or cs i d)))
