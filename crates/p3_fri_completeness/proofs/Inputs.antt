-- What a prover opens of honest batches is what the relation asks of the claims.
use Rattle.std.proofs.Common.{◌≡◌, ℕ, ◌/◌, ◌^◌, ◌<◌, ◌≤◌, max, List, [], ◌∷◌, map, fold}
use Rattle.std.proofs.Common.{length, refl, sym, ap, ap₂, ◌∙◌, arith, subst, inl, inr}
use Rattle.std.specs.List.{All, AllZip, zip}
use Rattle.std.proofs.Math.Nat.{div-one, div-eq_of_lt, pow-le-pow_right}
use Rattle.std.proofs.lemmas.Nat.{pow_pos}
use Rattle.std.proofs.lemmas.Bool.Decides.{leb_tells}
use Rattle.std.proofs.lemmas.List.Elements.{All-head, All-tail}
use Rattle.algebra.specs.Nested.{joined}
use Rattle.algebra.proofs.Lists.{Each}
use Rattle.p3_matrix.specs.Matrix.{rows}
use Rattle.p3_mmcs.specs.Batch.{max_height, dimensions_of}
use Rattle.p3_fri_relation.specs.Setting.{Fields, Parameters, MatrixClaim, CommitmentClaim}
use Rattle.p3_fri_relation.specs.Setting.{Opening, InputOpening}
use Rattle.p3_fri_relation.specs.Heights.{greatest_height, log_height, opened_index, matrices_of}
use Rattle.p3_fri_relation.specs.Inputs.{OpensInput}
use Rattle.p3_fri_batch.specs.Words.{Opened}
use Rattle.p3_fri_batch.specs.Claimed.{IsClaimOf, AreClaimsOf, matrices_in}
use Rattle.p3_fri_prover.specs.Openings.{batch_index, OpensBatch}
use Rattle.p3_fri_completeness.specs.Honest.{IsHonest}
use Rattle.p3_fri_completeness.proofs.Claims.{each_left, each_right, all_dimensions}
use Rattle.p3_field_core.proofs.IndexPowers.{power_quotient}
use Rattle.p3_mmcs.proofs.Heights.{max_height-positive}

-- powers of two grow
greater_power : (h k : ℕ) → 2 ^ max h k ≡ max (2 ^ h) (2 ^ k)
greater_power h k = elim (leb_tells h k) [
  | inl w ↦ (let more : 2 ^ h ≤ 2 ^ k = pow-le-pow_right {n = 2}
      (omega arith) {i = h} {j = k} w.1 in
      let most : max h k ≡ k = omega (arith, w.1) in ap (λ n. 2 ^ n) most ∙ omega (arith, more))
  | inr w ↦ (let low : k ≤ h = omega (arith, w.1) in
      let more : 2 ^ k ≤ 2 ^ h = pow-le-pow_right {n = 2} (omega arith) {i = k} {j = h} low in
      let most : max h k ≡ h = omega (arith, low) in ap (λ n. 2 ^ n) most ∙ omega (arith, more))
]

map_within : {X : Type 0} (bound : ℕ) (f g : ℕ → X) → ((q : ℕ) → q < bound → f q ≡ g q)
    → (qs : List ℕ) → All (λ q. q < bound) qs → map f qs ≡ map g qs
map_within bound f g same [] h = refl
map_within bound f g same (q ∷ qs) h =
    ap₂ (λ y ys. y ∷ ys) (same q (All-head (λ r. r < bound) q qs h))
    (map_within bound f g same qs (All-tail (λ r. r < bound) q qs h))

module _ {F E : Type 0} (f : Fields F E) (p : Parameters) where
  -- the greatest height of committed matrices is that of the greatest claimed log height
  abbrev greatest_from : ℕ → List (MatrixClaim E) → ℕ
  greatest_from a claims = fold (λ h m. max h (log_height p.log_blowup m)) a claims

  greatest_more : (a : ℕ) (claims : List (MatrixClaim E)) (ms : List (Opened F E))
      → AllZip (IsClaimOf p.log_blowup) claims ms → Each (IsHonest f p) ms
      → max (2 ^ a) (max_height (dimensions_of (matrices_in ms))) ≡ 2 ^ greatest_from a claims
  greatest_more a [] [] are h = let some = pow_pos a in omega (arith, some)
  greatest_more a [] (m ∷ ms) are h = absurd are
  greatest_more a (claim ∷ claims) [] are h = absurd are
  greatest_more a (claim ∷ claims) (m ∷ ms) are h =
      let n : ℕ = log_height p.log_blowup claim in
      let tall : length (rows m.matrix) ≡ 2 ^ n = h.0.word.height ∙ ap (λ k. 2 ^ k)
      (sym are.0.height) in
      either_way (2 ^ a) (length (rows m.matrix)) (2 ^ n) (2 ^ max a n)
      (max_height (dimensions_of (matrices_in ms)))
      tall (greater_power a n) ∙ greatest_more (max a n) claims ms are.1 h.1
    where
      either_way : (x y z w greatest : ℕ) → y ≡ z → w ≡ max x z → max x (max y greatest)
          ≡ max w greatest
      either_way x y z w greatest e d = omega (arith, e, d)

  greatest_claimed : (claims : List (MatrixClaim E)) (ms : List (Opened F E))
      → AllZip (IsClaimOf p.log_blowup) claims ms → Each (IsHonest f p) ms
      → max_height (dimensions_of (matrices_in ms)) ≡ 2 ^ greatest_height p.log_blowup claims
  greatest_claimed claims ms are h =
      let some = max_height-positive (dimensions_of (matrices_in ms)) in
      let whole : max 1 (max_height (dimensions_of (matrices_in ms)))
      ≡ 2 ^ greatest_height p.log_blowup claims =
      greatest_more 0 claims ms are h in
      omega (arith, some, whole)

  -- no matrix is above a bound, and so isn't the greatest
  pub greatest_within : (bound n : ℕ) (claims : List (MatrixClaim E)) → n ≤ bound
      → Each (λ m. log_height p.log_blowup m ≤ bound) claims → greatest_from n claims ≤ bound
  greatest_within bound n [] l h = l
  greatest_within bound n (m ∷ claims) l h =
      greatest_within bound (max n (log_height p.log_blowup m)) claims (omega (arith, l, h.0)) h.1

  module _ (top : ℕ) where
    -- a position opens a batch at the index that the claims say
    index_opened : (claims : List (MatrixClaim E)) (ms : List (Opened F E))
        → AllZip (IsClaimOf p.log_blowup) claims ms → Each (IsHonest f p) ms
        → Each (λ m. log_height p.log_blowup m ≤ top) claims
        → (q : ℕ) → q < 2 ^ top
        → opened_index p.log_blowup top claims q ≡ batch_index top (matrices_in ms) q
    index_opened [] [] are h t q l = sym (ap (λ n. q / n) (div-one (2 ^ top)) ∙ div-eq_of_lt l)
    index_opened [] (m ∷ ms) are h t q l = absurd are
    index_opened (claim ∷ claims) [] are h t q l = absurd are
    index_opened (claim ∷ claims) (m ∷ ms) are h t q l =
        ap (λ n. q / n)
        (sym (power_quotient (greatest_height p.log_blowup (claim ∷ claims)) top
        (greatest_within top 0 (claim ∷ claims) (omega arith) t))
        ∙ ap (λ n. 2 ^ top / n) (sym (greatest_claimed (claim ∷ claims) (m ∷ ms) are h)))

    module _ {InCom InPath : Type 0} (opens : Opening F InCom InPath) (positions : List ℕ)
        (within : All (λ q. q < 2 ^ top) positions) where
      batch_opened : (claim : CommitmentClaim E InCom) (ms : List (Opened F E))
          (o : InputOpening F InPath)
          → AllZip (IsClaimOf p.log_blowup) claim.matrices ms → Each (IsHonest f p) ms
          → Each (λ m. log_height p.log_blowup m ≤ top) claim.matrices
          → OpensBatch opens top positions (matrices_in ms) claim.commitment o
          → OpensInput opens p.log_blowup top positions claim o
      batch_opened claim ms o are h t opened =
          subst (λ dims. opens claim.commitment dims
          (map (opened_index p.log_blowup top claim.matrices) positions) o.rows o.path)
          (sym (all_dimensions f p claim.matrices ms are h))
          (subst (λ is. opens claim.commitment (dimensions_of (matrices_in ms)) is o.rows o.path)
          (sym (map_within (2 ^ top) (opened_index p.log_blowup top claim.matrices)
          (batch_index top (matrices_in ms)) (index_opened claim.matrices ms are h t) positions
          within))
          opened.opened)

      -- so each commitment opens to the rows of its claimed matrices
      abbrev OpensThere : CommitmentClaim E InCom × List (Opened F E) → InputOpening F InPath
          → Type 0
      OpensThere (claim, ms) o = OpensBatch opens top positions (matrices_in ms) claim.commitment o

      abbrev AreClaims : CommitmentClaim E InCom → List (Opened F E) → Type 0
      AreClaims claim ms = AllZip (IsClaimOf p.log_blowup) claim.matrices ms

      pub inputs_opened : (claims : List (CommitmentClaim E InCom))
          (rounds : List (List (Opened F E)))
          (inputs : List (InputOpening F InPath))
          → AreClaimsOf p.log_blowup claims rounds → Each (IsHonest f p) (joined rounds)
          → Each (λ m. log_height p.log_blowup m ≤ top) (matrices_of claims)
          → AllZip OpensThere (zip claims rounds) inputs
          → AllZip (OpensInput opens p.log_blowup top positions) claims inputs
      inputs_opened [] [] [] are h t opened = tt
      inputs_opened [] [] (o ∷ os) are h t opened = absurd opened
      inputs_opened [] (ms ∷ rounds) inputs are h t opened = absurd are
      inputs_opened (claim ∷ claims) [] inputs are h t opened = absurd are
      inputs_opened (claim ∷ claims) (ms ∷ rounds) [] are h t opened = absurd opened
      inputs_opened (claim ∷ claims) (ms ∷ rounds) (o ∷ os) are h t opened = (
        batch_opened claim ms o are.0 (each_left (IsHonest f p) ms (joined rounds) h)
            (each_left (λ m. log_height p.log_blowup m ≤ top) claim.matrices (matrices_of claims) t)
            opened.0,
        inputs_opened claims rounds os are.1 (each_right (IsHonest f p) ms (joined rounds) h)
            (each_right (λ m. log_height p.log_blowup m ≤ top) claim.matrices
            (matrices_of claims) t) opened.1,
      )
