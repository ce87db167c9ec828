-- The quotient sums of honest openings are defined, and vanish where polynomials are constant; and
-- the rows that a query opens are the matrices'.
use Rattle.std.proofs.Common.{◌≡◌, ◌≢◌, ℕ, ◌-◌, ◌/◌, ◌^◌, ◌<◌, ◌≤◌, List, [], ◌∷◌, map}
use Rattle.std.proofs.Common.{length, get_or, refl, sym, ap, ap₂, ◌∙◌, arith, subst}
use Rattle.std.specs.List.{All, AllZip, zip}
use Rattle.std.proofs.lemmas.List.{get_or-map}
use Rattle.algebra.specs.Nested.{joined}
use Rattle.algebra.proofs.Lists.{Each, All_from_each}
use Rattle.p3_mmcs.specs.Batch.{opened_rows}
use Rattle.p3_fri_relation.specs.Setting.{Fields, Parameters, MatrixClaim, CommitmentClaim}
use Rattle.p3_fri_relation.specs.Setting.{Opening, InputOpening}
use Rattle.p3_fri_relation.specs.Heights.{matrices_of}
use Rattle.p3_fri_relation.specs.Heights.{log_height as claimed_height}
use Rattle.p3_fri_relation.specs.QuotientSums.{point_read, quotient_sum, IsDefinedAt}
use Rattle.p3_fri_relation.specs.Inputs.{rows_at}
use Rattle.p3_fri_openings.specs.Rounds.{log_height, HasCoset}
use Rattle.p3_fri_batch.specs.Words.{Opened, IsOpenedWord}
use Rattle.p3_fri_batch.specs.Claimed.{IsClaimOf, AreClaimsOf, matrices_in, rows_opened}
use Rattle.p3_fri_batch.proofs.Bridge.{entry_is_quotient_sum}
use Rattle.p3_fri_batch.proofs.LowWords.{constants_vanish}
use Rattle.p3_fri_prover.specs.Openings.{batch_index, OpensBatch}
use Rattle.p3_fri_completeness.specs.Honest.{AreTwoAdic, IsHonest}
use Rattle.p3_fri_completeness.proofs.Claims.{each_claimed, claimed_each, each_both}
use Rattle.p3_field_core.proofs.IndexPowers.{index_cut}

-- a position reads within the word of a lower log height
pub read_within : (top q h : ℕ) → h ≤ top → q < 2 ^ top → q / 2 ^ (top - h) < 2 ^ h
read_within top q h low below =
    let e : top - (top - h) ≡ h = omega (arith, low) in
    subst (λ n. q / 2 ^ (top - h) < 2 ^ n) e (index_cut q top (top - h) below (omega arith))

-- the rows opened at the `j`-th position are those of the matrices there
module _ {F E InCom InPath : Type 0} (opens : Opening F InCom InPath) (b top : ℕ)
    (positions : List ℕ)
    (j : ℕ) (within : j < length positions) where
  abbrev Opens : CommitmentClaim E InCom × List (Opened F E) → InputOpening F InPath → Type 0
  Opens (claim, ms) o = OpensBatch opens top positions (matrices_in ms) claim.commitment o

  pub rows_are : (claims : List (CommitmentClaim E InCom)) (rounds : List (List (Opened F E)))
      (inputs : List (InputOpening F InPath))
      → AreClaimsOf b claims rounds → AllZip Opens (zip claims rounds) inputs
      → rows_at j inputs ≡ map (rows_opened top (get_or positions j 0)) rounds
  rows_are [] [] [] are opened = refl
  rows_are [] [] (o ∷ os) are opened = absurd opened
  rows_are [] (ms ∷ rounds) inputs are opened = absurd are
  rows_are (claim ∷ claims) [] inputs are opened = absurd are
  rows_are (claim ∷ claims) (ms ∷ rounds) [] are opened = absurd opened
  rows_are (claim ∷ claims) (ms ∷ rounds) (o ∷ os) are opened =
      ap₂ (λ r rs. r ∷ rs)
      (ap (λ rs. get_or rs j []) opened.0.rows_of_batch
      ∙ get_or-map (λ q. opened_rows (matrices_in ms) (batch_index top (matrices_in ms) q))
      positions j 0 [] within)
      (rows_are claims rounds os are.1 opened.1)

module _ {F E InCom : Type 0} (f : Fields F E) (p : Parameters) (top : ℕ)
    (claims : List (CommitmentClaim E InCom)) (rounds : List (List (Opened F E)))
    (are : AreClaimsOf p.log_blowup claims rounds) (honest : Each (IsHonest f p) (joined rounds))
    (up_to : Each (λ m. claimed_height p.log_blowup m ≤ top) (matrices_of claims)) where
  -- each matrix is on a coset within the greatest
  pub cosets : All (λ m. HasCoset top m.matrix) (joined rounds)
  cosets = All_from_each (λ m. HasCoset top m.matrix) (joined rounds)
      (each_both (IsHonest f p) (λ m. log_height m.matrix ≤ top) (λ m. HasCoset top m.matrix)
      (λ m h low. record { power = (log_height m.matrix, h.word.height); within = low })
      (joined rounds) honest
      (claimed_each p.log_blowup (λ m. claimed_height p.log_blowup m ≤ top)
      (λ m. log_height m.matrix ≤ top)
      (λ claim m is low. subst (λ n. n ≤ top) is.height low) claims rounds are up_to))

  module _ (q : ℕ) (below : q < 2 ^ top) where
    abbrev IsApart : MatrixClaim E → Type 0
    IsApart m = All (λ z. z.point ≢ point_read f top q (claimed_height p.log_blowup m)) m.points

    apart : (claim : MatrixClaim E) (m : Opened F E) → IsClaimOf p.log_blowup claim m
        → IsHonest f p m × (log_height m.matrix ≤ top) → IsApart claim
    apart claim m is h =
        subst (λ n. All (λ z. z.point ≢ point_read f top q n) claim.points) (sym is.height)
        (subst (λ points. All (λ z. z.point ≢ point_read f top q (log_height m.matrix)) points)
        (sym is.points)
        (λ k d l e. h.0.word.off k d l (q / 2 ^ (top - log_height m.matrix))
        (read_within top q (log_height m.matrix) h.1 below) (sym e)))

    -- no claimed point is the one that a query reads
    pub sums_defined : IsDefinedAt f p.log_blowup top claims q
    sums_defined = All_from_each IsApart (matrices_of claims)
        (each_claimed p.log_blowup (λ m. IsHonest f p m × (log_height m.matrix ≤ top)) IsApart apart
        claims rounds are
        (each_both (IsHonest f p) (λ m. log_height m.matrix ≤ top)
        (λ m. IsHonest f p m × (log_height m.matrix ≤ top))
        (λ m h low. (h, low)) (joined rounds) honest
        (claimed_each p.log_blowup (λ m. claimed_height p.log_blowup m ≤ top)
        (λ m. log_height m.matrix ≤ top)
        (λ claim m is low. subst (λ n. n ≤ top) is.height low) claims rounds are up_to)))

    -- of constants nothing is left
    pub sums_vanish : (laws : AreTwoAdic f) (alpha : E) (rows : List (List (List F)))
        → rows ≡ map (rows_opened top q) rounds
        → p.log_blowup ≤ top → p.log_blowup ≤ f.two_adicity
        → quotient_sum f p.log_blowup alpha top claims rows q p.log_blowup ≡ f.ext.zero
    sums_vanish laws alpha rows opened low small =
        sym (entry_is_quotient_sum f p.log_blowup alpha top q p.log_blowup claims rounds rows
        f.ext.zero are opened cosets low below)
        ∙ constants_vanish f laws.base laws.roots laws.shift laws.ext laws.lifts p.log_blowup alpha
        (joined rounds) small constant
        (q / 2 ^ (top - p.log_blowup)) f.ext.zero (read_within top q p.log_blowup low below)
      where
        constant : All (λ m. log_height m.matrix ≡ p.log_blowup
            → IsOpenedWord f p.log_blowup p.log_blowup 0 m) (joined rounds)
        constant k d l e =
            let m = get_or (joined rounds) k d in
            let h = All_from_each (IsHonest f p) (joined rounds) honest k d l in
            let none : log_height m.matrix - p.log_blowup ≡ 0 = omega (arith, e) in
            subst (λ n. IsOpenedWord f p.log_blowup n 0 m) e
            (subst (λ n. IsOpenedWord f p.log_blowup (log_height m.matrix) n m) none h.word)
