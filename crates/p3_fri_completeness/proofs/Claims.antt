-- Honest claims: their log heights, dimensions and numbers of values are those of the matrices.
use Rattle.std.proofs.Common.{◌≡◌, ◌≢◌, ℕ, suc, ◌+◌, ◌^◌, List, [], ◌∷◌, ◌++◌}
use Rattle.std.proofs.Common.{length, map, get_or, refl, sym, ap, ap₂, ◌∙◌}
use Rattle.std.specs.List.{All, AllZip}
use Rattle.std.proofs.lemmas.List.{length-append, nil_from_length}
use Rattle.std.proofs.lemmas.List.Elements.{All-head}
use Rattle.algebra.specs.Nested.{joined}
use Rattle.algebra.proofs.Lists.{Each, each-append}
use Rattle.p3_matrix.specs.declared.dense.RowMajorMatrix.{RowMajorMatrix}
use Rattle.p3_matrix.specs.Matrix.{matrix_width}
use Rattle.p3_mmcs.specs.Batch.{dimensions_of}
use Rattle.p3_mmcs.specs.Batch as batch
use Rattle.p3_pcs.specs.Claims.{PointClaim}
use Rattle.p3_fri_relation.specs.Setting.{Fields, Parameters, MatrixClaim}
use Rattle.p3_fri_relation.specs.Setting.{CommitmentClaim}
use Rattle.p3_fri_relation.specs.Heights.{matrices_of, width, dimensions}
use Rattle.p3_fri_relation.specs.Inputs.{HasPoints}
use Rattle.p3_fri_openings.specs.Committed.{committed_values}
use Rattle.p3_fri_batch.specs.Words.{Opened}
use Rattle.p3_fri_batch.specs.Claimed.{IsClaimOf, AreClaimsOf, matrices_in}
use Rattle.p3_fri_completeness.specs.Honest.{IsHonest}
use Rattle.p3_fri_openings.proofs.Committed.{width_of_values}

-- what holds of each of two lists one behind the other
module _ {X : Type 0} (P : X → Type 0) where
  pub each_left : (xs ys : List X) → Each P (xs ++ ys) → Each P xs
  each_left [] ys h = tt
  each_left (x ∷ xs) ys h = (h.0, each_left xs ys h.1)

  pub each_right : (xs ys : List X) → Each P (xs ++ ys) → Each P ys
  each_right [] ys h = h
  each_right (x ∷ xs) ys h = each_right xs ys h.1

-- what holds of each opened matrix tells what holds of each claim
module _ (b : ℕ) {F E : Type 0} (P : Opened F E → Type 0) (Q : MatrixClaim E → Type 0)
    (tells : (claim : MatrixClaim E) (m : Opened F E) → IsClaimOf b claim m → P m → Q claim) where
  each_alike : (claims : List (MatrixClaim E)) (ms : List (Opened F E))
      → AllZip (IsClaimOf b) claims ms → Each P ms → Each Q claims
  each_alike [] [] are h = tt
  each_alike [] (m ∷ ms) are h = absurd are
  each_alike (claim ∷ claims) [] are h = absurd are
  each_alike (claim ∷ claims) (m ∷ ms) are h =
      (tells claim m are.0 h.0, each_alike claims ms are.1 h.1)

  pub each_claimed : {InCom : Type 0} (claims : List (CommitmentClaim E InCom))
      (rounds : List (List (Opened F E)))
      → AreClaimsOf b claims rounds → Each P (joined rounds) → Each Q (matrices_of claims)
  each_claimed [] [] are h = tt
  each_claimed [] (ms ∷ rounds) are h = absurd are
  each_claimed (claim ∷ claims) [] are h = absurd are
  each_claimed (claim ∷ claims) (ms ∷ rounds) are h =
      each-append Q claim.matrices (matrices_of claims)
      (each_alike claim.matrices ms are.0 (each_left P ms (joined rounds) h))
      (each_claimed claims rounds are.1 (each_right P ms (joined rounds) h))

-- there are as many claims as matrices
module _ (b : ℕ) {F E : Type 0} where
  count_alike : (claims : List (MatrixClaim E)) (ms : List (Opened F E))
      → AllZip (IsClaimOf b) claims ms → length claims ≡ length ms
  count_alike [] [] are = refl
  count_alike [] (m ∷ ms) are = absurd are
  count_alike (claim ∷ claims) [] are = absurd are
  count_alike (claim ∷ claims) (m ∷ ms) are = ap (λ n. suc n) (count_alike claims ms are.1)

  count_claimed : {InCom : Type 0} (claims : List (CommitmentClaim E InCom))
      (rounds : List (List (Opened F E)))
      → AreClaimsOf b claims rounds → length (matrices_of claims) ≡ length (joined rounds)
  count_claimed [] [] are = refl
  count_claimed [] (ms ∷ rounds) are = absurd are
  count_claimed (claim ∷ claims) [] are = absurd are
  count_claimed (claim ∷ claims) (ms ∷ rounds) are =
      length-append claim.matrices (matrices_of claims)
      ∙ ap₂ (λ m n. m + n) (count_alike claim.matrices ms are.0) (count_claimed claims rounds are.1)
      ∙ sym (length-append ms (joined rounds))

  pub some_claimed : {InCom : Type 0} (claims : List (CommitmentClaim E InCom))
      (rounds : List (List (Opened F E)))
      → AreClaimsOf b claims rounds → joined rounds ≢ [] → matrices_of claims ≢ []
  some_claimed claims rounds are some none =
      some (nil_from_length (joined rounds)
      (sym (count_claimed claims rounds are) ∙ ap length none))

-- as many values are claimed at each point as the matrix has columns
module _ {F E : Type 0} (f : Fields F E) (b : ℕ) (matrix : RowMajorMatrix F) where
  abbrev IsCommitted : PointClaim E → Type 0
  IsCommitted z = z.values ≡ committed_values f b matrix z.point

  first_width : (claims : List (PointClaim E)) → claims ≢ [] → All IsCommitted claims
      → get_or (map (λ z. length z.values) claims) 0 0 ≡ matrix_width matrix
  first_width [] some h = absurd (some refl)
  first_width (z ∷ claims) some h =
      ap length (All-head IsCommitted z claims h) ∙ width_of_values f b matrix z.point

module _ {F E : Type 0} (f : Fields F E) (p : Parameters) where
  abbrev b : ℕ
  b = p.log_blowup

  module _ (claim : MatrixClaim E) (m : Opened F E) (is : IsClaimOf p.log_blowup claim m)
      (h : IsHonest f p m) where
    pub width_claimed : width claim ≡ matrix_width m.matrix
    width_claimed = ap (λ points. get_or (map (λ z. length z.values) points) 0 0) is.points
        ∙ first_width f p.log_blowup m.matrix m.claims h.some_point h.word.honest

    pub dimensions_claimed : dimensions p.log_blowup claim ≡ batch.dimensions m.matrix
    dimensions_claimed = ap₂ (λ w n. record { width = w; height = n }) width_claimed
        (ap (λ k. 2 ^ k) is.height ∙ sym h.word.height)

    points_made : (points : List (PointClaim E)) → points ≡ m.claims → All
        (λ z. length z.values ≡ matrix_width m.matrix) points
    points_made points same =
        rw same (λ k d l. ap length (h.word.honest k d l) ∙ width_of_values f p.log_blowup m.matrix
        (get_or m.claims k d).point)

    pub points_claimed : HasPoints claim
    points_claimed = record {
      some_point = λ none. h.some_point (sym is.points ∙ none);
      counts = λ k d l. points_made claim.points is.points k d l ∙ sym width_claimed;
    }

  pub all_dimensions : (claims : List (MatrixClaim E)) (ms : List (Opened F E))
      → AllZip (IsClaimOf p.log_blowup) claims ms → Each (IsHonest f p) ms
      → map (dimensions p.log_blowup) claims ≡ dimensions_of (matrices_in ms)
  all_dimensions [] [] are h = refl
  all_dimensions [] (m ∷ ms) are h = absurd are
  all_dimensions (claim ∷ claims) [] are h = absurd are
  all_dimensions (claim ∷ claims) (m ∷ ms) are h =
      ap₂ (λ d ds. d ∷ ds) (dimensions_claimed claim m are.0 h.0)
      (all_dimensions claims ms are.1 h.1)

-- and the other way round
module _ (b : ℕ) {F E : Type 0} (P : MatrixClaim E → Type 0) (Q : Opened F E → Type 0)
    (tells : (claim : MatrixClaim E) (m : Opened F E) → IsClaimOf b claim m → P claim → Q m) where
  alike_each : (claims : List (MatrixClaim E)) (ms : List (Opened F E))
      → AllZip (IsClaimOf b) claims ms → Each P claims → Each Q ms
  alike_each [] [] are h = tt
  alike_each [] (m ∷ ms) are h = absurd are
  alike_each (claim ∷ claims) [] are h = absurd are
  alike_each (claim ∷ claims) (m ∷ ms) are h =
      (tells claim m are.0 h.0, alike_each claims ms are.1 h.1)

  pub claimed_each : {InCom : Type 0} (claims : List (CommitmentClaim E InCom))
      (rounds : List (List (Opened F E)))
      → AreClaimsOf b claims rounds → Each P (matrices_of claims) → Each Q (joined rounds)
  claimed_each [] [] are h = tt
  claimed_each [] (ms ∷ rounds) are h = absurd are
  claimed_each (claim ∷ claims) [] are h = absurd are
  claimed_each (claim ∷ claims) (ms ∷ rounds) are h =
      each-append Q ms (joined rounds)
      (alike_each claim.matrices ms are.0 (each_left P claim.matrices (matrices_of claims) h))
      (claimed_each claims rounds are.1 (each_right P claim.matrices (matrices_of claims) h))

-- what holds of each by two facts
pub each_both : {X : Type 0} (P Q R : X → Type 0) → ((x : X) → P x → Q x → R x) → (xs : List X)
    → Each P xs → Each Q xs → Each R xs
each_both P Q R f [] h k = tt
each_both P Q R f (x ∷ xs) h k = (f x h.0 k.0, each_both P Q R f xs h.1 k.1)
