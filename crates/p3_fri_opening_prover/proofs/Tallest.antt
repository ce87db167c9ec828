-- The log heights of opened matrices: they fall strictly, the first bounds each, and each of them
-- is some matrix's.
use Rattle.std.proofs.Common.{◌≡◌, ◌≢◌, ◌<◌, ◌≤◌, ◌==◌, ◌^◌, cond, true, false, Bool, inl, inr}
use Rattle.std.proofs.Common.{ℕ, zero, suc, List, [], ◌∷◌, ◌++◌, map, length, get_or, All}
use Rattle.std.proofs.Common.{refl, sym, ap, ◌∙◌, arith, subst}
use Rattle.std.proofs.lemmas.Bool.{eqb-true, eq-eqb, cases_eq}
use Rattle.std.proofs.lemmas.List.Folds.{list_any_at, Any-from_list_any}
use Rattle.algebra.specs.Polynomial.{val}
use Rattle.algebra.proofs.Lists.{Each, All_from_each, length-tabulate}
use Rattle.std.specs.List.{flat_map}
use Rattle.std.specs.declared.vec.Vec.{Vec}
use Rattle.algebra.specs.Nested.{lists}
use Rattle.p3_fri_folding.specs.Schedule.{IsStrictlyFalling, tallest}
use Rattle.p3_fri_folding.proofs.Rounds.{FallsFrom}
use Rattle.p3_fri_folding.proofs.Fewest.{falls_from_higher}
use Rattle.p3_fri_relation.proofs.ClaimedHeights.{strictly_falling}
use Rattle.p3_fri_relation.specs.Setting.{Fields}
use Rattle.p3_fri_openings.specs.Rounds.{log_height}
use Rattle.p3_fri_batch.specs.Words.{Opened, batch_word, opened_terms}
use Rattle.p3_fri_batch.specs.Heights.{has_height, heights_below}
use Rattle.p3_fri_prover.specs.Inputs.{HaveHeights, AreInputs}

tallest_below : (n : ℕ) (hs : List ℕ) → FallsFrom (suc n) hs → tallest hs ≤ n
tallest_below n [] falls = omega arith
tallest_below n (h ∷ hs) falls = omega (arith, falls.0)

-- there is a word where words can be tested
pub some_word : {E A : Type 0} (top : ℕ) (vectors : List (Vec E A)) → AreInputs top (lists vectors)
    → 0 < length vectors
some_word {E} top [] are = absurd (none are.heights are.have are.some)
  where
    none : (hs : List ℕ) → HaveHeights {E = E} hs [] → hs ≢ [] → ⊥
    none [] have some = some refl
    none (h ∷ hs) have some = have
some_word top (v ∷ vectors) are = omega arith

module _ {F E : Type 0} (ms : List (Opened F E)) where
  abbrev LowerThan : ℕ → Type 0
  LowerThan n = All (λ m. log_height m.matrix < n) ms

  falls_below : (n : ℕ) → FallsFrom n (heights_below ms n)
  falls_below zero = tt
  falls_below (suc n) = step (heights_below ms n) (falls_below n) (has_height ms n)
    where
      step : (hs : List ℕ) → FallsFrom n hs → (t : Bool)
          → FallsFrom (suc n) (cond t (n ∷ []) [] ++ hs)
      step hs falls true = (omega arith, falls)
      step hs falls false = falls_from_higher n (suc n) hs (omega arith) falls

  pub heights_fall : (n : ℕ) → IsStrictlyFalling (heights_below ms n)
  heights_fall n = strictly_falling n (heights_below ms n) (falls_below n)

  pub tallest_within : (n : ℕ) → tallest (heights_below ms (suc n)) ≤ n
  tallest_within n = tallest_below n (heights_below ms (suc n)) (falls_below (suc n))

  -- without one of the greatest height they are lower
  lower : (n : ℕ) → has_height ms n ≡ false → LowerThan (suc n) → LowerThan n
  lower n none below k d l =
      let h = log_height (get_or ms k d).matrix in
      let b : h < suc n = below k d l in
      elim (cases_eq h n) [
        | inl same ↦
            let here : has_height ms n ≡ true =
            list_any_at (λ m. log_height m.matrix == n) ms k d l (eq-eqb h n same) in
            let no : true ≡ false = sym here ∙ none in absurd cc
        | inr differ ↦ omega (arith, b, differ)
      ]

  -- the first bounds each
  pub tallest_bounds : (n : ℕ) → LowerThan n
      → All (λ m. log_height m.matrix ≤ tallest (heights_below ms n)) ms
  tallest_bounds zero below = λ k d l. let b = below k d l in absurd (omega (arith, b))
  tallest_bounds (suc n) below = here (has_height ms n) refl (tallest_bounds n)
    where
      here : (t : Bool) → has_height ms n ≡ t
          → (LowerThan n → All (λ m. log_height m.matrix ≤ tallest (heights_below ms n)) ms)
          → All (λ m. log_height m.matrix ≤ tallest (cond t (n ∷ []) [] ++ heights_below ms n)) ms
      here true e before = λ k d l. let b = below k d l in omega (arith, b)
      here false e before = before (lower n e below)

  none_below_zero : (xs : List (Opened F E)) → xs ≢ [] → All (λ m. log_height m.matrix < 0) xs → ⊥
  none_below_zero [] some below = some refl
  none_below_zero (m ∷ xs) some below = let b = below 0 m (omega arith) in absurd (omega (arith, b))

  -- there is one where there is a matrix
  pub some_height : (n : ℕ) → LowerThan n → ms ≢ [] → heights_below ms n ≢ []
  some_height zero below some = λ e. none_below_zero ms some below
  some_height (suc n) below some = here (has_height ms n) refl (some_height n)
    where
      here : (t : Bool) → has_height ms n ≡ t → (LowerThan n → ms ≢ [] → heights_below ms n ≢ [])
          → (cond t (n ∷ []) [] ++ heights_below ms n) ≢ []
      here true e before = λ none. cc
      here false e before = before (lower n e below) some

  -- what holds of each matrix's log height holds of them
  module _ (P : ℕ → Type 0) (each : All (λ m. P (log_height m.matrix)) ms) where
    each_height : (n : ℕ) → Each P (heights_below ms n)
    each_height zero = tt
    each_height (suc n) = here (has_height ms n) refl (each_height n)
      where
        here : (t : Bool) → has_height ms n ≡ t → Each P (heights_below ms n)
            → Each P (cond t (n ∷ []) [] ++ heights_below ms n)
        here true e rest = (
          (let some = Any-from_list_any (λ m. log_height m.matrix == n) ms e in
              let is = eqb-true (log_height some.1.matrix) n some.4 in
              let found = each some.0 some.1 some.2 in
              subst P (ap (λ m. log_height m.matrix) some.3 ∙ is) found),
          rest,
        )
        here false e rest = rest

    pub all_heights : (n : ℕ) → All P (heights_below ms n)
    all_heights n = All_from_each P (heights_below ms n) (each_height n)

  -- the words of their quotients
  module _ (f : Fields F E) (alpha : E) where
    pub words_have : (hs : List ℕ) → HaveHeights hs (map (λ h. batch_word f alpha h ms) hs)
    words_have [] = tt
    words_have (h ∷ hs) = (
      length-tabulate (2 ^ h) (λ i. val f.ext (flat_map (opened_terms f h i) ms) alpha),
      words_have hs,
    )

    -- can be tested
    pub words_are_inputs : (n : ℕ) → LowerThan n → ms ≢ []
        → AreInputs (tallest (heights_below ms n))
        (map (λ h. batch_word f alpha h ms) (heights_below ms n))
    words_are_inputs n below some = record {
      heights = heights_below ms n;
      have = words_have (heights_below ms n);
      falling = heights_fall n;
      some = some_height n below some;
      first = refl;
    }
