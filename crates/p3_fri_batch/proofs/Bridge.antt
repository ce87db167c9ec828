-- The entries of the words are the quotient sums of the opened rows.
use Rattle.std.proofs.Common.{◌≡◌, ◌≤◌, ◌<◌, ◌==◌, cond, true, false, Bool, ℕ, zero, suc}
use Rattle.std.proofs.Common.{◌+◌, ◌-◌, ◌/◌, ◌^◌, List, [], ◌∷◌, ◌++◌, length, map, get_or, All}
use Rattle.std.proofs.Common.{Some, None, refl, sym, ap, ap₂, ◌∙◌, subst, arith, pow_pos}
use Rattle.std.proofs.lemmas.Nat.{pow-add}
use Rattle.std.proofs.lemmas.Bool.{eqb-true}
use Rattle.std.proofs.lemmas.Grind.{flat_map-append}
use Rattle.std.proofs.lemmas.List.Folds.{Any-from_list_any}
use Rattle.std.proofs.Math.Nat.{div-div-eq-div-mul, div-lt_iff_lt-mul}
use Rattle.std.proofs.Math.Nat.{pow-le-pow_right}
use Rattle.std.specs.List.{AllZip, flat_map, zip}
use Rattle.std.specs.Int.{IsPowerOfTwo}
use Rattle.algebra.specs.Polynomial.{val}
use Rattle.algebra.specs.Nested.{joined}
use Rattle.algebra.specs.Rounds.{entry_of}
use Rattle.algebra.proofs.Lists.{Each, each_from_All, get_or-tabulate}
use Rattle.p3_matrix.specs.declared.dense.RowMajorMatrix.{RowMajorMatrix}
use Rattle.p3_matrix.specs.Matrix.{rows}
use Rattle.p3_mmcs.specs.Batch.{max_height, dimensions_of, opened_row}
use Rattle.p3_mmcs.proofs.Heights.{max_height-power}
use Rattle.p3_fri_relation.specs.Setting.{Fields, MatrixClaim, CommitmentClaim}
use Rattle.p3_fri_relation.specs.Heights.{log_height as claimed_height}
use Rattle.p3_fri_relation.specs.Heights.{matrices_of, heights_of}
use Rattle.p3_fri_relation.specs.QuotientSums.{matrix_terms, terms, quotient_sum, input_at}
use Rattle.p3_fri_relation.specs.FoldedQuery.{value_at}
use Rattle.p3_fri_openings.specs.Rounds.{log_height, HasCoset}
use Rattle.p3_fri_openings.proofs.Log2.{pow-log2}
use Rattle.p3_fri_batch.specs.Words.{Opened, point_of_entry, terms_at, opened_terms, batch_word}
use Rattle.p3_fri_batch.specs.Heights.{has_height}
use Rattle.p3_fri_batch.proofs.Heights.{value_of_height, has_claimed_height, claimed_heights}
use Rattle.p3_fri_batch.specs.Claimed.{IsClaimOf, AreClaimsOf, matrices_in, rows_opened}
use Rattle.p3_field_core.proofs.IndexPowers.{exponent_at_most, power_quotient}

-- where a position stands in a lower matrix of a batch is where it stands in the lower word
place : (top g h q : ℕ) → h ≤ g → g ≤ top
    → q / (2 ^ top / 2 ^ g) / (2 ^ g / 2 ^ h) ≡ q / 2 ^ (top - h)
place top g h q l m =
    let e : top - g + (g - h) ≡ top - h = omega (arith, l, m) in
    ap₂ (λ a b. q / a / b) (power_quotient g top m) (power_quotient h g l)
    ∙ div-div-eq-div-mul q (2 ^ (top - g)) (2 ^ (g - h))
    ∙ ap (λ n. q / n) (sym (pow-add 2 (top - g) (g - h)))
    ∙ ap (λ n. q / 2 ^ n) e

each_split : {X : Type 0} (P : X → Type 0) (xs ys : List X) → Each P (xs ++ ys) → Each P xs
    × Each P ys
each_split P [] ys h = (tt, h)
each_split P (x ∷ xs) ys h = let r = each_split P xs ys h.1 in ((h.0, r.0), r.1)

pub height_is : {F : Type 0} (top : ℕ) (m : RowMajorMatrix F) → HasCoset top m → length (rows m)
    ≡ 2 ^ log_height m
height_is top m c = sym (pow-log2 (length (rows m)) c.power.0 c.power.1)

module _ {F E : Type 0} (top q : ℕ) where
  powers_of : (ms : List (Opened F E)) → Each (λ m. HasCoset top m.matrix) ms
      → All (λ d. IsPowerOfTwo d.height) (dimensions_of (matrices_in ms))
  powers_of [] each k d l = absurd (omega (arith, l))
  powers_of (m ∷ ms) each zero d l = each.0.power
  powers_of (m ∷ ms) each (suc k) d l = powers_of ms each.1 k d (omega (arith, l))

  abbrev greatest_of : List (Opened F E) → ℕ
  greatest_of ms = max_height (dimensions_of (matrices_in ms))

  bounded : (ms : List (Opened F E)) → Each (λ m. HasCoset top m.matrix) ms
      → greatest_of ms ≤ 2 ^ top
  bounded [] each = omega (arith, pow_pos top)
  bounded (m ∷ ms) each =
      let rest = bounded ms each.1 in
      let is = height_is top m.matrix each.0 in
      let small : 2 ^ log_height m.matrix ≤ 2 ^ top = pow-le-pow_right {n = 2} (omega arith)
      each.0.within in
      omega (arith, rest, is, small)

  -- a matrix opens the row that the word of its log height reads there
  OpensRow : (greatest : ℕ) → Opened F E → Type 0
  OpensRow greatest m = opened_row greatest (q / (2 ^ top / greatest)) m.matrix
      ≡ get_or (rows m.matrix) (q / 2 ^ (top - log_height m.matrix)) []

  opens_row : (g : ℕ) (m : Opened F E) → HasCoset top m.matrix → g ≤ top
      → length (rows m.matrix) ≤ 2 ^ g
      → OpensRow (2 ^ g) m
  unfolding OpensRow
  opens_row g m c within below =
      let is = height_is top m.matrix c in
      ap (λ n. get_or (rows m.matrix) (q / (2 ^ top / 2 ^ g) / (2 ^ g / n)) []) is
      ∙ ap (λ n. get_or (rows m.matrix) n [])
      (place top g (log_height m.matrix) q
      (exponent_at_most (log_height m.matrix) g (omega (arith, below, is))) within)

  open_rows : (g : ℕ) (ms : List (Opened F E)) → Each (λ m. HasCoset top m.matrix) ms → g ≤ top
      → greatest_of ms ≤ 2 ^ g
      → Each (OpensRow (2 ^ g)) ms
  open_rows g [] each within below = tt
  open_rows g (m ∷ ms) each within below = (
    opens_row g m each.0 within (omega (arith, below)),
    open_rows g ms each.1 within
        (omega (arith, below)),
  )

  -- so do all matrices that were committed together
  rows_open : (ms : List (Opened F E)) → Each (λ m. HasCoset top m.matrix) ms
      → Each (OpensRow (greatest_of ms)) ms
  rows_open ms each =
      let power = max_height-power (dimensions_of (matrices_in ms)) (powers_of ms each) in
      subst (λ n. Each (OpensRow n) ms) (sym power.1)
      (open_rows power.0 ms each (exponent_at_most power.0 top
      (omega (arith, power.1, bounded ms each))) (omega (arith, power.1)))

module _ {F E : Type 0} (f : Fields F E) (log_blowup top q h : ℕ) where
  -- the place at which the word is read, and its point
  abbrev i : ℕ
  i = q / 2 ^ (top - h)

  abbrev x : E
  x = point_of_entry f h i

  matrix_terms_are : (claim : MatrixClaim E) (m : Opened F E) (row : List F)
      → IsClaimOf log_blowup claim m
      → row ≡ get_or (rows m.matrix) (q / 2 ^ (top - log_height m.matrix)) []
      → cond (claimed_height log_blowup claim == h) (matrix_terms f x claim row) []
      ≡ opened_terms f h i m
  matrix_terms_are claim m row is opens =
      ap₂ (λ n zs. cond (n == h) (terms_at f.ext x (map f.lift row) zs) []) is.height is.points
      ∙ here (log_height m.matrix == h) refl
    where
      here : (t : Bool) → (log_height m.matrix == h) ≡ t
          → cond t (terms_at f.ext x (map f.lift row) m.claims) []
          ≡ cond t (terms_at f.ext x (map f.lift (get_or (rows m.matrix) i [])) m.claims) []
      here true e =
          let same : log_height m.matrix ≡ h = eqb-true (log_height m.matrix) h e in
          ap (λ r. terms_at f.ext x (map f.lift r) m.claims)
          (opens ∙ ap (λ n. get_or (rows m.matrix) (q / 2 ^ (top - n)) []) same)
      here false e = refl

  commitment_terms_are : (claims : List (MatrixClaim E)) (ms : List (Opened F E)) (greatest : ℕ)
      → AllZip (IsClaimOf log_blowup) claims ms → Each (OpensRow top q greatest) ms
      → flat_map (λ (m, row). cond (claimed_height log_blowup m == h) (matrix_terms f x m row) [])
      (zip claims (map (opened_row greatest (q / (2 ^ top / greatest))) (matrices_in ms)))
      ≡ flat_map (opened_terms f h i) ms
  unfolding OpensRow
  commitment_terms_are [] [] greatest are opens = refl
  commitment_terms_are [] (m ∷ ms) greatest are opens = absurd are
  commitment_terms_are (claim ∷ claims) [] greatest are opens = absurd are
  commitment_terms_are (claim ∷ claims) (m ∷ ms) greatest are opens =
      ap₂ (λ ts us. ts ++ us)
      (matrix_terms_are claim m (opened_row greatest (q / (2 ^ top / greatest)) m.matrix) are.0
      opens.0)
      (commitment_terms_are claims ms greatest are.1 opens.1)

module _ {F E InCom : Type 0} (f : Fields F E) (log_blowup : ℕ) (alpha : E) (top q h : ℕ) where
  terms_are : (claims : List (CommitmentClaim E InCom)) (rounds : List (List (Opened F E)))
      → AreClaimsOf log_blowup claims rounds → Each (λ m. HasCoset top m.matrix) (joined rounds)
      → terms f log_blowup h (point_of_entry f h (q / 2 ^ (top - h))) claims
      (map (rows_opened top q) rounds)
      ≡ flat_map (opened_terms f h (q / 2 ^ (top - h))) (joined rounds)
  terms_are [] [] are cosets = refl
  terms_are [] (ms ∷ rounds) are cosets = absurd are
  terms_are (claim ∷ claims) [] are cosets = absurd are
  terms_are (claim ∷ claims) (ms ∷ rounds) are cosets =
      let parts = each_split (λ m. HasCoset top m.matrix) ms (joined rounds) cosets in
      ap₂ (λ ts us. ts ++ us)
      (commitment_terms_are f log_blowup top q h claim.matrices ms
      (max_height (dimensions_of (matrices_in ms))) are.0
      (rows_open top q ms parts.0))
      (terms_are claims rounds are.1 parts.1)
      ∙ sym (flat_map-append (opened_terms f h (q / 2 ^ (top - h))) ms (joined rounds))

  -- the word's entry at a position's place is the quotient sum of the rows that the position opens
  pub entry_is_quotient_sum : (claims : List (CommitmentClaim E InCom))
      (rounds : List (List (Opened F E)))
      (rows : List (List (List F))) (d : E)
      → AreClaimsOf log_blowup claims rounds → rows ≡ map (rows_opened top q) rounds
      → All (λ m. HasCoset top m.matrix) (joined rounds)
      → h ≤ top → q < 2 ^ top
      → get_or (batch_word f alpha h (joined rounds)) (q / 2 ^ (top - h)) d
      ≡ quotient_sum f log_blowup alpha top claims rows q h
  entry_is_quotient_sum claims rounds rows d are opened cosets within below =
      get_or-tabulate (2 ^ h) (λ i. val f.ext (flat_map (opened_terms f h i) (joined rounds)) alpha)
      (q / 2 ^ (top - h)) d inside
      ∙ ap (λ ts. val f.ext ts alpha)
      (sym (terms_are claims rounds are
      (each_from_All (λ m. HasCoset top m.matrix) (joined rounds) cosets)))
      ∙ ap (λ rs. val f.ext (terms f log_blowup h (point_of_entry f h (q / 2 ^ (top - h))) claims rs)
      alpha) (sym opened)
    where
      inside : q / 2 ^ (top - h) < 2 ^ h
      inside =
          let e : top ≡ h + (top - h) = omega (arith, within) in
          (div-lt_iff_lt-mul (pow_pos (top - h))).1 (rw (← pow-add 2 h (top - h)) (rw e at below))

-- what a query meets of the words is what it meets of the claims
module _ {F E : Type 0} (f : Fields F E) (alpha : E) where
  abbrev word : List (List (Opened F E)) → ℕ → List E
  word rounds h = batch_word f alpha h (joined rounds)

module _ {F E InCom : Type 0} (f : Fields F E) (log_blowup : ℕ) (alpha : E) (top q : ℕ) where
  pub entry_is_input : (claims : List (CommitmentClaim E InCom)) (rounds : List (List (Opened F E)))
      (rows : List (List (List F))) (heights : List ℕ) (words : List (List E)) (h : ℕ)
      → AreClaimsOf log_blowup claims rounds → rows ≡ map (rows_opened top q) rounds
      → All (λ m. HasCoset top m.matrix) (joined rounds)
      → heights ≡ heights_of log_blowup (matrices_of claims)
      → words ≡ map (λ h. batch_word f alpha h (joined rounds)) heights
      → q < 2 ^ top
      → entry_of f.ext (value_at (zip heights words) h) (q / 2 ^ (top - h))
      ≡ input_at f log_blowup alpha top claims rows q h
  entry_is_input claims rounds rows heights words h are opened cosets hs ws below =
      ap (λ u. entry_of f.ext u (q / 2 ^ (top - h)))
      (ap (λ ws. value_at (zip heights ws) h) ws
      ∙ ap (λ hs. value_at (zip hs (map (word f alpha rounds) hs)) h)
      (hs ∙ claimed_heights log_blowup claims rounds are (suc top) within)
      ∙ value_of_height (joined rounds) (word f alpha rounds) (suc top) within h)
      ∙ here (has_height (joined rounds) h) refl
      ∙ ap (λ t. cond t (Some (quotient_sum f log_blowup alpha top claims rows q h)) None)
      (sym (has_claimed_height log_blowup h claims rounds are))
    where
      within : All (λ m. log_height m.matrix < suc top) (joined rounds)
      within k d l = let c = cosets k d l in omega (arith, c.within)

      here : (t : Bool) → has_height (joined rounds) h ≡ t
          → entry_of f.ext (cond t (Some (word f alpha rounds h)) None) (q / 2 ^ (top - h))
          ≡ cond t (Some (quotient_sum f log_blowup alpha top claims rows q h)) None
      here true e =
          let some = Any-from_list_any (λ m. log_height m.matrix == h) (joined rounds) e in
          let is = eqb-true (log_height some.1.matrix) h some.4 in
          let read = ap (λ m. log_height m.matrix) some.3 in
          let bound = within some.0 some.1 some.2 in
          ap Some (entry_is_quotient_sum f log_blowup alpha top q h claims rounds rows f.ext.zero
          are opened cosets
          (omega (arith, is, read, bound)) below)
      here false e = refl
