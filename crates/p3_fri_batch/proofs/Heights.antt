-- The log heights of opened matrices: what stands in a list beside them, and that they are those of
-- the claims.
use Rattle.std.proofs.Common.{◌≡◌, ◌≤◌, ◌<◌, ◌==◌, ◌||◌, cond, true, false, Bool, inl, inr, ℕ, zero}
use Rattle.std.proofs.Common.{suc, ◌+◌, ◌-◌, List, [], ◌∷◌, ◌++◌, map, get_or, All, Some, None}
use Rattle.std.proofs.Common.{append_assoc, refl, sym, ap, ap₂, ◌∙◌, arith}
use Rattle.std.proofs.lemmas.List.{map-append}
use Rattle.std.proofs.lemmas.Bool.{eqb-true, eq-eqb, ne_eqb, cases_eq, cases_lt}
use Rattle.std.proofs.lemmas.List.Folds.{list_any-append, list_any_none, list_any_at}
use Rattle.std.proofs.lemmas.List.Folds.{Any-from_list_any}
use Rattle.std.specs.List.{AllZip, zip}
use Rattle.algebra.specs.Nested.{joined}
use Rattle.p3_fri_relation.specs.Setting.{MatrixClaim, CommitmentClaim}
use Rattle.p3_fri_relation.specs.Heights.{matrices_of, greatest_height, heights_of}
use Rattle.p3_fri_relation.specs.Heights.{has_height as has_claimed, heights_below as claimed_below}
use Rattle.p3_fri_relation.specs.Heights.{log_height as claimed_height}
use Rattle.p3_fri_relation.specs.FoldedQuery.{value_at}
use Rattle.p3_fri_relation.proofs.ClaimedHeights.{has_height-bound}
use Rattle.p3_fri_openings.specs.Rounds.{log_height}
use Rattle.p3_fri_batch.specs.Words.{Opened}
use Rattle.p3_fri_batch.specs.Heights.{has_height, heights_below}
use Rattle.p3_fri_batch.specs.Claimed.{IsClaimOf, AreClaimsOf}

-- a height below `n` isn't `n`
other : (h n : ℕ) → h < n → (h == n) ≡ false
other h n l = ne_eqb h n (λ e. omega (arith, l, e))

module _ {F E : Type 0} (ms : List (Opened F E)) where
  -- what stands beside a log height, if some matrix has it
  module _ {A : Type 0} (w : ℕ → A) where
    abbrev beside : (n : ℕ) → List (ℕ × A)
    beside n = zip (heights_below ms n) (map w (heights_below ms n))

    unlisted : (n h : ℕ) → n ≤ h → value_at (beside n) h ≡ None
    unlisted zero h l = refl
    unlisted (suc n) h l = here (has_height ms n) (unlisted n h (omega (arith, l)))
      where
        here : (t : Bool) → value_at (beside n) h ≡ None
            → value_at (zip (cond t (n ∷ []) [] ++ heights_below ms n)
            (map w (cond t (n ∷ []) [] ++ heights_below ms n))) h ≡ None
        here true e = ap (λ t. cond t (Some (w n)) (value_at (beside n) h))
            (ne_eqb h n (λ same. omega (arith, l, same))) ∙ e
        here false e = e

    listed : (n h : ℕ) → h < n → value_at (beside n) h ≡ cond (has_height ms h) (Some (w h)) None
    listed zero h l = absurd (omega (arith, l))
    listed (suc n) h l = elim (cases_eq h n) [
      | inl same ↦ last (has_height ms n) refl same
      | inr differ ↦ before (has_height ms n) differ (listed n h (omega (arith, l, differ)))
    ]
      where
        last : (t : Bool) → has_height ms n ≡ t → h ≡ n
            → value_at (zip (cond t (n ∷ []) [] ++ heights_below ms n)
            (map w (cond t (n ∷ []) [] ++ heights_below ms n))) h
            ≡ cond (has_height ms h) (Some (w h)) None
        last true e same =
            ap (λ t. cond t (Some (w n)) (value_at (beside n) h)) (eq-eqb h n same)
            ∙ ap (λ k. Some (w k)) (sym same)
            ∙ ap (λ t. cond t (Some (w h)) None) (sym (ap (has_height ms) same ∙ e))
        last false e same =
            unlisted n h (omega (arith, same))
            ∙ ap (λ t. cond t (Some (w h)) None) (sym (ap (has_height ms) same ∙ e))

        before : (t : Bool) → ¬ (h ≡ n) → value_at (beside n) h
            ≡ cond (has_height ms h) (Some (w h)) None
            → value_at (zip (cond t (n ∷ []) [] ++ heights_below ms n)
            (map w (cond t (n ∷ []) [] ++ heights_below ms n))) h
            ≡ cond (has_height ms h) (Some (w h)) None
        before true differ e =
            ap (λ t. cond t (Some (w n)) (value_at (beside n) h)) (ne_eqb h n differ) ∙ e
        before false differ e = e

    pub value_of_height : (n : ℕ) → All (λ m. log_height m.matrix < n) ms → (h : ℕ)
        → value_at (zip (heights_below ms n) (map w (heights_below ms n))) h
        ≡ cond (has_height ms h) (Some (w h)) None
    value_of_height n below h = found (has_height ms h) refl
      where
        found : (t : Bool) → has_height ms h ≡ t
            → value_at (beside n) h ≡ cond (has_height ms h) (Some (w h)) None
        found true e =
            let some = Any-from_list_any (λ m. log_height m.matrix == h) ms e in
            let is = eqb-true (log_height some.1.matrix) h some.4 in
            let bound = below some.0 some.1 some.2 in
            let read = ap (λ m. log_height m.matrix) some.3 in
            listed n h (omega (arith, bound, read, is))
        found false e = elim (cases_lt h n) [
          | inl l ↦ listed n h l
          | inr l ↦ unlisted n h l ∙ ap (λ t. cond t (Some (w h)) None) (sym e)
        ]

  -- no more of them
  pub heights_same : (n k : ℕ) → All (λ m. log_height m.matrix < n) ms → heights_below ms (k + n)
      ≡ heights_below ms n
  heights_same n zero below =
      let e : 0 + n ≡ n = omega arith in ap (λ j. heights_below ms j) e
  heights_same n (suc k) below =
      let e : suc k + n ≡ suc (k + n) = omega arith in
      ap (λ j. heights_below ms j) e
      ∙ ap (λ t. cond t ((k + n) ∷ []) [] ++ heights_below ms (k + n)) none ∙ heights_same n k below
    where
      none : has_height ms (k + n) ≡ false
      none = list_any_none (λ m. log_height m.matrix == (k + n)) ms
          (λ i d l. let b = below i d l in other (log_height (get_or ms i d).matrix) (k + n)
          (omega (arith, b)))

  -- words from the tallest down, with the next height's, if there is one
  pub words_more : {A : Type 0} (w : ℕ → A) (k : ℕ) (old new whole : List A) → 0 < k
      → new ≡ old ++ map w (cond (has_height ms (k - 1)) ((k - 1) ∷ []) [])
      → old ++ map w (heights_below ms k) ≡ whole → new ++ map w (heights_below ms (k - 1)) ≡ whole
  words_more w k old new whole some n e =
      let next : k ≡ suc (k - 1) = omega (arith, some) in
      let more = cond (has_height ms (k - 1)) ((k - 1) ∷ []) [] in
      ap (λ xs. xs ++ map w (heights_below ms (k - 1))) n
      ∙ append_assoc old (map w more) (map w (heights_below ms (k - 1)))
      ∙ ap (λ xs. old ++ xs) (sym (map-append w more (heights_below ms (k - 1))))
      ∙ ap (λ j. old ++ map w (heights_below ms j)) (sym next)
      ∙ e

-- they are the claims' log heights
module _ {F E : Type 0} (log_blowup : ℕ) where
  claimed_alike : (h : ℕ) (claims : List (MatrixClaim E)) (ms : List (Opened F E))
      → AllZip (IsClaimOf log_blowup) claims ms → has_claimed log_blowup claims h ≡ has_height ms h
  claimed_alike h [] [] are = refl
  claimed_alike h [] (m ∷ ms) are = absurd are
  claimed_alike h (claim ∷ claims) [] are = absurd are
  claimed_alike h (claim ∷ claims) (m ∷ ms) are =
      ap₂ (λ n t. (n == h) || t) are.0.height (claimed_alike h claims ms are.1)

module _ {F E InCom : Type 0} (log_blowup : ℕ) where
  pub has_claimed_height : (h : ℕ) (claims : List (CommitmentClaim E InCom))
      (rounds : List (List (Opened F E)))
      → AreClaimsOf log_blowup claims rounds
      → has_claimed log_blowup (matrices_of claims) h ≡ has_height (joined rounds) h
  has_claimed_height h [] [] are = refl
  has_claimed_height h [] (ms ∷ rounds) are = absurd are
  has_claimed_height h (claim ∷ claims) [] are = absurd are
  has_claimed_height h (claim ∷ claims) (ms ∷ rounds) are =
      list_any-append (λ m. claimed_height log_blowup m == h) claim.matrices (matrices_of claims)
      ∙ ap₂ (λ s t. s || t) (claimed_alike log_blowup h claim.matrices ms are.0)
      (has_claimed_height h claims rounds are.1)
      ∙ sym (list_any-append (λ m. log_height m.matrix == h) ms (joined rounds))

  -- below each number
  pub claimed_heights_below : (claims : List (CommitmentClaim E InCom))
      (rounds : List (List (Opened F E)))
      → AreClaimsOf log_blowup claims rounds → (n : ℕ)
      → claimed_below log_blowup (matrices_of claims) n ≡ heights_below (joined rounds) n
  claimed_heights_below claims rounds are zero = refl
  claimed_heights_below claims rounds are (suc n) =
      ap₂ (λ t hs. cond t (n ∷ []) [] ++ hs) (has_claimed_height n claims rounds are)
      (claimed_heights_below claims rounds are n)

  -- all of them
  pub claimed_heights : (claims : List (CommitmentClaim E InCom))
      (rounds : List (List (Opened F E)))
      → AreClaimsOf log_blowup claims rounds
      → (n : ℕ) → All (λ m. log_height m.matrix < n) (joined rounds)
      → heights_of log_blowup (matrices_of claims) ≡ heights_below (joined rounds) n
  claimed_heights claims rounds are n below =
      claimed_heights_below claims rounds are top
      ∙ elim (cases_lt n top) [
        | inl l ↦
            let e : top ≡ top - n + n = omega (arith, l) in
            ap (λ k. heights_below (joined rounds) k) e
            ∙ heights_same (joined rounds) n (top - n) below
        | inr l ↦
            let e : n ≡ n - top + top = omega (arith, l) in
            sym (ap (λ k. heights_below (joined rounds) k) e
            ∙ heights_same (joined rounds) top (n - top) all_below)
      ]
    where
      top : ℕ
      top = suc (greatest_height log_blowup (matrices_of claims))

      all_below : All (λ m. log_height m.matrix < top) (joined rounds)
      all_below k d l =
          let h = log_height (get_or (joined rounds) k d).matrix in
          let is : has_height (joined rounds) h ≡ true =
          list_any_at (λ m. log_height m.matrix == h) (joined rounds) k d l (eq-eqb h h refl) in
          omega (
            arith,
            has_height-bound log_blowup (matrices_of claims) h
                (has_claimed_height h claims rounds are ∙ is),
          )
